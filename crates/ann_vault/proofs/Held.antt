-- What a vault in memory holds, as its map of seals changes.
use Rattle.std.proofs.Common.{◌≡◌, ℕ, Bool, true, false, cond, ◌&&◌, T, List, [], ◌∷◌, map, Option, None, Some, refl, sym, ap, subst, ◌∙◌}
use Rattle.std.specs.Ordering.{nat_cmp, eq_by_cmp, is_lt}
use Rattle.std.specs.declared.cmp.Ordering.TheVariants.{Less}
use Rattle.std.specs.List.{AllByRecursion}
use Rattle.std.specs.List.Sorted.{IsStrictlySortedBy}
use Rattle.std.specs.Cmp.{nat_cmp_total, eq_by_cmp_equiv}
use Rattle.std.specs.Option.{option_map}
use Rattle.std.specs.Map.{lookup, keys_of}
use Rattle.std.specs.BTreeMap.{is_at}
use Rattle.std.specs.FinMap.{FinMap, get, insert, remove, keys, from_entries, from_sorted, find, is_sorted, get-from_entries, get-from_sorted, entries-from_sorted, get-insert, get-remove, same_map, nat_cmp-IsAntisymmetric}
use Rattle.std.specs.FinMap.Entries.{below_all}
use Rattle.ann_vault.specs.declared.shelf.MemorySeal.{MemorySeal}
use Rattle.ann_vault.specs.Seal.{seal_bytes}
use Rattle.ann_vault.specs.Shelf.{shown}

abbrev Entries : Type 0
Entries = List (ℕ × MemorySeal)

abbrev held_of : Entries → FinMap nat_cmp (List ℕ)
held_of es = from_entries (map shown es)

-- a choice, and then the bytes of the seal
option_map-cond : (b : Bool) (seal : Option MemorySeal) (other : Option MemorySeal) → option_map seal_bytes (cond b seal other) ≡ cond b (option_map seal_bytes seal) (option_map seal_bytes other)
option_map-cond true seal other = refl
option_map-cond false seal other = refl

find-shown : (es : Entries) (q : ℕ) → find nat_cmp q (map shown es) ≡ option_map seal_bytes (lookup (is_at (nat_cmp q)) es)
find-shown [] q = refl
find-shown (e ∷ es) q =
    ap (cond (eq_by_cmp nat_cmp q e.0) (Some (seal_bytes e.1))) (find-shown es q)
    ∙ sym (option_map-cond (eq_by_cmp nat_cmp q e.0) (Some e.1) (lookup (is_at (nat_cmp q)) es))

pub get-held : (es : Entries) (q : ℕ) → get (held_of es) q ≡ option_map seal_bytes (lookup (is_at (nat_cmp q)) es)
get-held es q = get-from_entries nat_cmp_total (map shown es) q ∙ find-shown es q

module _ (old new : Entries) (number : ℕ) where
  pub held-insert : (seal : MemorySeal) → ((q : ℕ) → lookup (is_at (nat_cmp q)) new ≡ cond (is_at (nat_cmp number) q) (Some seal) (lookup (is_at (nat_cmp q)) old)) → held_of new ≡ insert (held_of old) number (seal_bytes seal)
  held-insert seal updates = same_map nat_cmp_total nat_cmp-IsAntisymmetric (held_of new) (insert (held_of old) number (seal_bytes seal)) (λ q.
      get-held new q
      ∙ ap (option_map seal_bytes) (updates q)
      ∙ option_map-cond (is_at (nat_cmp number) q) (Some seal) (lookup (is_at (nat_cmp q)) old)
      ∙ ap (λ (b : Bool). cond b (Some (seal_bytes seal)) (option_map seal_bytes (lookup (is_at (nat_cmp q)) old))) ((eq_by_cmp_equiv nat_cmp_total).symm number q)
      ∙ sym (get-insert nat_cmp_total (held_of old) number (seal_bytes seal) q ∙ ap (cond (eq_by_cmp nat_cmp q number) (Some (seal_bytes seal))) (get-held old q)))

  pub held-remove : ((q : ℕ) → lookup (is_at (nat_cmp q)) new ≡ cond (is_at (nat_cmp number) q) None (lookup (is_at (nat_cmp q)) old)) → held_of new ≡ remove (held_of old) number
  held-remove updates = same_map nat_cmp_total nat_cmp-IsAntisymmetric (held_of new) (remove (held_of old) number) (λ q.
      get-held new q
      ∙ ap (option_map seal_bytes) (updates q)
      ∙ option_map-cond (is_at (nat_cmp number) q) None (lookup (is_at (nat_cmp q)) old)
      ∙ ap (λ (b : Bool). cond b None (option_map seal_bytes (lookup (is_at (nat_cmp q)) old))) ((eq_by_cmp_equiv nat_cmp_total).symm number q)
      ∙ sym (get-remove nat_cmp_total (held_of old) number q ∙ ap (cond (eq_by_cmp nat_cmp q number) None) (get-held old q)))

-- the numbers of sorted entries
both : (a b : Bool) → T a → T b → T (a && b)
both true b here there = there
both false b here there = absurd here

below_all-shown : (number : ℕ) (es : Entries) → AllByRecursion (λ q. nat_cmp number q ≡ Less) (keys_of es) → T (below_all nat_cmp number (map shown es))
below_all-shown number [] below = tt
below_all-shown number (e ∷ es) below = both (is_lt (nat_cmp number e.0)) (below_all nat_cmp number (map shown es)) (subst (λ r. T (is_lt r)) (sym below.0) tt) (below_all-shown number es below.1)

is_sorted-shown : (es : Entries) → IsStrictlySortedBy nat_cmp (keys_of es) → T (is_sorted nat_cmp (map shown es))
unfolding IsStrictlySortedBy
is_sorted-shown [] sorted = tt
is_sorted-shown (e ∷ es) sorted = both (below_all nat_cmp e.0 (map shown es)) (is_sorted nat_cmp (map shown es)) (below_all-shown e.0 es sorted.0) (is_sorted-shown es sorted.1)

keys_of-shown : (es : Entries) → map (λ (e : ℕ × List ℕ). e.0) (map shown es) ≡ keys_of es
keys_of-shown [] = refl
keys_of-shown (e ∷ es) = ap (λ (rest : List ℕ). e.0 ∷ rest) (keys_of-shown es)

pub keys-held : (es : Entries) → IsStrictlySortedBy nat_cmp (keys_of es) → keys (held_of es) ≡ keys_of es
keys-held es ordered =
    let sorted = is_sorted-shown es ordered in
    let same : held_of es ≡ from_sorted (map shown es) = same_map nat_cmp_total nat_cmp-IsAntisymmetric (held_of es) (from_sorted (map shown es)) (λ q.
    get-from_entries nat_cmp_total (map shown es) q ∙ sym (get-from_sorted nat_cmp (map shown es) q sorted)) in
    ap keys same
    ∙ ap (map (λ (e : ℕ × List ℕ). e.0)) (entries-from_sorted nat_cmp (map shown es) sorted)
    ∙ keys_of-shown es
