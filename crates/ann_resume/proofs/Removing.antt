-- Sealed segments, removed one after the other.
use Rattle.std.proofs.Common.{◌≡◌, ◌≤◌, ◌<◌, ℕ, ◌+◌, Bool, true, false, cond, not, ◌||◌, ◌&&◌, List, [], ◌∷◌, ◌++◌, inl, inr, ◌⊎◌, refl, sym, ap, subst, ◌∙◌, take, length, get_or}
use Rattle.std.specs.Prelude.{Option, Some, None, is_some, Result, Ok, Err, OnErr}
use Rattle.std.specs.Cmp.{nat_cmp_total}
use Rattle.std.specs.FinMap.{get, keys, remove, retain_keys, contains_key-keys, get-remove, get-retain_keys, same_map, nat_cmp-IsAntisymmetric}
use Rattle.std.specs.List.{list_any}
use Rattle.std.specs.Ordering.{nat_cmp, eq_by_cmp, is_eq}
use Rattle.std.specs.declared.cmp.Ordering.{Ordering}
use Rattle.std.specs.declared.cmp.Ordering.TheVariants.{Less, Equal, Greater}
use Rattle.std.proofs.lemmas.Bool.{false≢true}
use Rattle.std.proofs.lemmas.List.{take_more, take_all}
use Rattle.std.proofs.lemmas.List.Folds.{list_any-append}
use Rattle.ann_vault.specs.Held.{Holding, MayBeRemoved}
use Rattle.ann_resume.specs.Removed.{MayLack}

-- ---- numbers that tie are equal

tied : (x y : ℕ) → eq_by_cmp nat_cmp x y ≡ true → x ≡ y
tied x y e = same (nat_cmp x y) refl e
  where
    same : (o : Ordering) → nat_cmp x y ≡ o → is_eq o ≡ true → x ≡ y
    same Less o e = absurd (false≢true e)
    same Equal o e = nat_cmp-IsAntisymmetric x y o
    same Greater o e = absurd (false≢true e)

-- ---- a number that isn't there

none_there : (m : Holding) (k q : ℕ) (b : Bool) → eq_by_cmp nat_cmp q k ≡ b → get m k ≡ None → get m q ≡ cond b None (get m q)
none_there m k q true e none = ap (get m) (tied q k e) ∙ none
none_there m k q false e none = refl

pub removed_none : (m : Holding) (k : ℕ) → get m k ≡ None → m ≡ remove m k
removed_none m k none = same_map nat_cmp_total nat_cmp-IsAntisymmetric m (remove m k) (λ q. none_there m k q (eq_by_cmp nat_cmp q k) refl none ∙ sym (get-remove nat_cmp_total m k q))

-- ---- some numbers

-- a number is among the first of some
abbrev pub is_passed : List ℕ → ℕ → ℕ → Bool
is_passed numbers i n = list_any (eq_by_cmp nat_cmp n) (take i numbers)

-- those of the first numbers that aren't kept are gone, and all others are as they were
abbrev pub AreRemoved : (ℕ → Bool) → List ℕ → ℕ → Holding → Holding → Type 0
AreRemoved kept numbers i old new = (n : ℕ) → get new n ≡ cond (is_passed numbers i n && not (kept n)) None (get old n)

or_false : (a : Bool) → (a || false) ≡ a
or_false true = refl
or_false false = refl

passed_more : (numbers : List ℕ) (i k n : ℕ) → i < length numbers → k ≡ get_or numbers i k → is_passed numbers (i + 1) n ≡ (is_passed numbers i n || eq_by_cmp nat_cmp n k)
passed_more numbers i k n l is =
    ap (list_any (eq_by_cmp nat_cmp n)) (take_more numbers i k l ∙ ap (λ x. take i numbers ++ x ∷ []) (sym is))
    ∙ list_any-append (eq_by_cmp nat_cmp n) (take i numbers) (k ∷ [])
    ∙ ap (λ t. is_passed numbers i n || t) (or_false (eq_by_cmp nat_cmp n k))

module _ (kept : ℕ → Bool) (numbers : List ℕ) (i k : ℕ) (old new : Holding) (l : i < length numbers) (is : k ≡ get_or numbers i k) (so_far : AreRemoved kept numbers i old new) where
  keep_one : (n : ℕ) (p e : Bool) → eq_by_cmp nat_cmp n k ≡ e → kept k ≡ true → (p && not (kept n)) ≡ ((p || e) && not (kept n))
  keep_one n p false same here = ap (λ t. t && not (kept n)) (sym (or_false p))
  keep_one n p true same here = and_kept p (kept n) (ap kept (tied n k same) ∙ here) ∙ sym (and_kept (p || true) (kept n) (ap kept (tied n k same) ∙ here))
    where
      and_kept : (a b : Bool) → b ≡ true → (a && not b) ≡ false
      and_kept true true e = refl
      and_kept false b e = refl
      and_kept true false e = absurd (false≢true e)

  pub kept_more : kept k ≡ true → AreRemoved kept numbers (i + 1) old new
  kept_more here n =
      so_far n
      ∙ ap (λ t. cond t None (get old n)) (keep_one n (is_passed numbers i n) (eq_by_cmp nat_cmp n k) refl here ∙ ap (λ t. t && not (kept n)) (sym (passed_more numbers i k n l is)))

  remove_one : (n : ℕ) (p e : Bool) → eq_by_cmp nat_cmp n k ≡ e → kept k ≡ false → cond e None (cond (p && not (kept n)) None (get old n)) ≡ cond ((p || e) && not (kept n)) None (get old n)
  remove_one n p false same gone = ap (λ t. cond (t && not (kept n)) None (get old n)) (sym (or_false p))
  remove_one n p true same gone = sym (ap (λ t. cond t None (get old n)) (or_gone p (kept n) (ap kept (tied n k same) ∙ gone)))
    where
      or_gone : (a b : Bool) → b ≡ false → ((a || true) && not b) ≡ true
      or_gone true false e = refl
      or_gone false false e = refl
      or_gone a true e = absurd (false≢true (sym e))

  pub removed_more : kept k ≡ false → AreRemoved kept numbers (i + 1) old (remove new k)
  removed_more gone n =
      get-remove nat_cmp_total new k n
      ∙ ap (cond (eq_by_cmp nat_cmp n k) None) (so_far n)
      ∙ remove_one n (is_passed numbers i n) (eq_by_cmp nat_cmp n k) refl gone
      ∙ ap (λ t. cond (t && not (kept n)) None (get old n)) (sym (passed_more numbers i k n l is))

-- ---- some may be gone

pub lack_some : (kept : ℕ → Bool) (numbers : List ℕ) (i : ℕ) (old new : Holding) → AreRemoved kept numbers i old new → MayLack kept old new
lack_some kept numbers i old new are n = lack (is_passed numbers i n) (kept n) refl (are n)
  where
    lack : (p k : Bool) → kept n ≡ k → get new n ≡ cond (p && not k) None (get old n) → (get new n ≡ get old n) ⊎ ((kept n ≡ false) × (get new n ≡ None))
    lack true false e is = inr (e, is)
    lack true true e is = inl is
    lack false k e is = inl is

pub lack_none : (kept : ℕ → Bool) (old : Holding) → MayLack kept old old
lack_none kept old n = inl refl

-- a removal that failed
pub lack_failed : (kept : ℕ → Bool) (numbers : List ℕ) (i k : ℕ) (old mid new : Holding) → i < length numbers → k ≡ get_or numbers i k → AreRemoved kept numbers i old mid → kept k ≡ false → MayBeRemoved k mid new → MayLack kept old new
lack_failed kept numbers i k old mid new l is are gone may = elim may [
  | inl same ↦ subst (MayLack kept old) (sym same) (lack_some kept numbers i old mid are)
  | inr done ↦ subst (MayLack kept old) (sym done) (lack_some kept numbers (i + 1) old (remove mid k) (removed_more kept numbers i k old mid l is are gone))
]

-- ---- all that isn't kept is gone

pub all_removed : (kept : ℕ → Bool) (numbers : List ℕ) (i : ℕ) (old new : Holding) → numbers ≡ keys old → length numbers ≤ i → AreRemoved kept numbers i old new → new ≡ retain_keys old kept
all_removed kept numbers i old new all over are =
    same_map nat_cmp_total nat_cmp-IsAntisymmetric new (retain_keys old kept) (λ n.
    are n
    ∙ ap (λ t. cond (t && not (kept n)) None (get old n)) (ap (list_any (eq_by_cmp nat_cmp n)) (take_all i numbers over ∙ all) ∙ sym (contains_key-keys old n))
    ∙ only (get old n) (kept n)
    ∙ sym (get-retain_keys old kept n (λ x e. ap kept (sym (nat_cmp-IsAntisymmetric n x e)))))
  where
    only : (o : Option (List ℕ)) (k : Bool) → cond (is_some o && not k) None o ≡ cond k o None
    only None true = refl
    only None false = refl
    only (Some x) true = refl
    only (Some x) false = refl

pub on_err : {T E : Type 0} (r : Result T E) (P : Type 0) → P → OnErr r P
on_err (Ok x) P is = tt
on_err (Err e) P is = is
