-- Retired segments that are cleared, one after the other.
use Rattle.std.proofs.Common.{◌≡◌, ◌≢◌, ◌==◌, ℕ, suc, ◌<◌, Bool, true, false, List, [], ◌∷◌, ◌++◌, inl, inr, ◌⊎◌, None, refl, sym, ap, subst, ◌∙◌, append_assoc, arith, length, get_or, take, drop}
use Rattle.std.specs.Bool.{MatchBool}
use Rattle.std.specs.Prelude.{All}
use Rattle.std.specs.FinMap.{get, remove}
use Rattle.std.specs.List.Sorted.{IsPermutation}
use Rattle.std.proofs.lemmas.Bool.{ne_eqb}
use Rattle.std.proofs.lemmas.Bool.Decides.{eqb_tells}
use Rattle.std.proofs.lemmas.List.{append-nil}
use Rattle.std.proofs.lemmas.List.Elements.{All-nil, All-cons, All-head, All-tail, All-append, All-push, All-weaker}
use Rattle.std.proofs.lemmas.List.Sorted.{IsPermutation-refl, IsPermutation-sym, IsPermutation-trans, IsPermutation-middle}
use Rattle.ann_fault.specs.Counts.{Rose, next_count}
use Rattle.ann_vault.specs.Held.{Holding, MayBeRemoved}
use Rattle.ann_segment.specs.Segment.{SegmentView}
use Rattle.ann_mcause.proofs.Counted.{reads_later, rose_behind, rose_once}
use Rattle.ann_merge.proofs.Numbers as number
use Rattle.ann_stock.specs.Cleared.{HaveNot, IsWithout, IsCleared, more_faults}

-- ---- what a vault holds

may_one : (held new : Holding) (k n : ℕ) → MayBeRemoved k held new → ((n ≡ k) ⊎ (n ≢ k)) → (get new n ≡ get held n) ⊎ (get new n ≡ None)
may_one held new k n may (inl same) = subst (λ m. (get new m ≡ get held m) ⊎ (get new m ≡ None)) (sym same) (number.left_may k held new may)
may_one held new k n may (inr other) = inl (number.others_may k held new may n other)

same_or_not : (n k : ℕ) → (n ≡ k) ⊎ (n ≢ k)
same_or_not n k = elim (eqb_tells n k) [ inl same ↦ inl same.1 | inr other ↦ inr other.1 ]

-- whatever number may have been removed, each is as it was, or gone
may : (held new : Holding) (k n : ℕ) → MayBeRemoved k held new → (get new n ≡ get held n) ⊎ (get new n ≡ None)
may held new k n is = may_one held new k n is (same_or_not n k)

still_gone : (held new : Holding) (n : ℕ) → (get new n ≡ get held n) ⊎ (get new n ≡ None) → get held n ≡ None → get new n ≡ None
still_gone held new n (inl same) none = same ∙ none
still_gone held new n (inr gone) none = gone

same_still : (old held new : Holding) (n : ℕ) → (get held n ≡ get old n) ⊎ (get held n ≡ None) → (get new n ≡ get held n) ⊎ (get new n ≡ None) → (get new n ≡ get old n) ⊎ (get new n ≡ None)
same_still old held new n (inl first) (inl same) = inl (same ∙ first)
same_still old held new n (inr none) (inl same) = inr (same ∙ none)
same_still old held new n first (inr gone) = inr gone

without_none : {S : Type 0} (old : Holding) → IsWithout {S = S} [] [] old old
without_none old = record {
  gone = All-nil (λ s. get old s.number ≡ None);
  others = λ n r f. refl;
  whole = λ n. inl refl;
}

-- a segment's number is another
abbrev has_not : {S : Type 0} → ℕ → SegmentView S → Type 0
has_not n s = s.number ≢ n

module _ {S : Type 0} (removed failed : List (SegmentView S)) (old held new : Holding) (x : SegmentView S) (is : MayBeRemoved x.number held new) (w : IsWithout removed failed old held) where
  gone_yet : All (λ (s : SegmentView S). get new s.number ≡ None) removed
  gone_yet =
      All-weaker (λ (s : SegmentView S). get held s.number ≡ None) (λ (s : SegmentView S). get new s.number ≡ None)
      (λ s none. still_gone held new s.number (may held new x.number s.number is) none) removed w.gone

  whole_yet : (n : ℕ) → (get new n ≡ get old n) ⊎ (get new n ≡ None)
  whole_yet n = same_still old held new n (w.whole n) (may held new x.number n is)

  others_yet : (n : ℕ) → x.number ≢ n → get held n ≡ get old n → get new n ≡ get old n
  others_yet n other same = number.others_may x.number held new is n (λ e. other (sym e)) ∙ same

  pub without_failed : IsWithout removed (x ∷ failed) old new
  without_failed = record {
    gone = gone_yet;
    others = λ n r f. others_yet n (All-head (has_not n) x failed f) (w.others n r (All-tail (has_not n) x failed f));
    whole = whole_yet;
  }

  pub without_removed : new ≡ remove held x.number → IsWithout (x ∷ removed) failed old new
  without_removed done = record {
    gone = All-cons (λ (s : SegmentView S). get new s.number ≡ None) x removed (ap (λ (h : Holding). get h x.number) done ∙ number.removed held x.number) gone_yet;
    others = λ n r f. others_yet n (All-head (has_not n) x removed r) (w.others n (All-tail (has_not n) x removed r) f);
    whole = whole_yet;
  }

-- ---- how the segments part

-- one goes from the front to its place
module _ {X : Type 0} (all rest : List X) (x : X) where
  pub placed : (before after : List X) → IsPermutation all ((x ∷ rest) ++ (before ++ after)) → IsPermutation all (rest ++ (before ++ x ∷ after))
  placed before after parted =
      IsPermutation-trans all (x ∷ (rest ++ (before ++ after))) (rest ++ (before ++ x ∷ after)) parted
      (subst (λ ys. IsPermutation (x ∷ (rest ++ (before ++ after))) ys) (append_assoc rest before (x ∷ after))
      (subst (λ ys. IsPermutation (x ∷ ys) ((rest ++ before) ++ x ∷ after)) (append_assoc rest before after)
      (IsPermutation-sym ((rest ++ before) ++ x ∷ after) (x ∷ ((rest ++ before) ++ after)) (IsPermutation-middle (rest ++ before) x after))))

  -- it was the first of those ahead
  pub first_ahead : (ahead stay items : List X) → 0 < length ahead → x ∷ items ≡ ahead ++ stay → (after : List X) × (ahead ≡ x ∷ after) × (items ≡ after ++ stay)
  first_ahead [] stay items some same = absurd (omega (arith, some))
  first_ahead (y ∷ ahead) stay items some same = (ahead, cc, cc)

-- the first one, and those behind it
pub front_of : {X : Type 0} (xs ys : List X) (x : X) → 0 < length xs → x ≡ get_or xs 0 x → ys ≡ take 0 xs ++ drop 1 xs → xs ≡ x ∷ ys
front_of [] ys x some is rest = absurd (omega (arith, some))
front_of (z ∷ xs) ys x some is rest = ap (λ w. w ∷ xs) (sym is) ∙ ap (λ w. x ∷ w) (sym rest)

-- ---- segment by segment

not_none : (n : ℕ) → (suc n == 0) ≡ false
not_none n = ne_eqb (suc n) 0 (λ same. absurd (omega (arith, same)))

module _ {S : Type 0} (tells : Type 0) (base : ℕ) (retired : List (SegmentView S)) (old : Holding) (before : ℕ) where
  -- of the retired segments so many are left, which stand before those that stay, and the others are in their places
  pub record IsClearing (items : List (SegmentView S)) (left : ℕ) (held : Holding) (now : ℕ) (calm : Bool) : Type 0 where
    pub ahead : List (SegmentView S)
    pub stay : List (SegmentView S)
    pub removed : List (SegmentView S)
    pub failed : List (SegmentView S)
    pub named : List (SegmentView S)
    pub whole : items ≡ ahead ++ stay
    pub left_are : length ahead ≡ left
    pub parted : IsPermutation retired (ahead ++ (stay ++ (removed ++ (failed ++ named))))
    pub base_only : All (λ (s : SegmentView S). s.number ≡ base) named
    pub stays : HaveNot base stay
    pub removes : HaveNot base removed
    pub fails : HaveNot base failed
    pub vault : tells → IsWithout removed failed old held
    pub faults : now ≡ more_faults (length failed) before
    pub answer : calm ≡ (length failed == 0)

  pub starts : (left : ℕ) → length retired ≡ left → IsClearing retired left old before true
  starts left size = record {
    ahead = retired;
    stay = [];
    removed = [];
    failed = [];
    named = [];
    whole = sym (append-nil retired);
    left_are = size;
    parted = subst (IsPermutation retired) (sym (append-nil retired)) (IsPermutation-refl retired);
    base_only = All-nil (λ (s : SegmentView S). s.number ≡ base);
    stays = All-nil (has_not base);
    removes = All-nil (has_not base);
    fails = All-nil (has_not base);
    vault = λ told. without_none old;
    faults = refl;
    answer = refl;
  }

  module _ (x : SegmentView S) (items : List (SegmentView S)) (left : ℕ) (held : Holding) (now : ℕ) (calm : Bool) (c : IsClearing (x ∷ items) (suc left) held now calm) where
    next : (after : List (SegmentView S)) × (c.ahead ≡ x ∷ after) × (items ≡ after ++ c.stay)
    next = first_ahead retired [] x c.ahead c.stay items (let size = c.left_are in omega (arith, size)) c.whole

    abbrev rest : List (SegmentView S)
    rest = next.0

    fewer : length rest ≡ left
    fewer = let size = c.left_are in let one = ap length next.1 in omega (arith, size, one)

    so_far : IsPermutation retired ((x ∷ rest) ++ (c.stay ++ (c.removed ++ (c.failed ++ c.named))))
    so_far = subst (λ (ahead : List (SegmentView S)). IsPermutation retired (ahead ++ (c.stay ++ (c.removed ++ (c.failed ++ c.named))))) next.1 c.parted

    -- the base's segment is let go
    pub lets_go : x.number ≡ base → IsClearing items left held now calm
    lets_go is = record {
      ahead = rest;
      stay = c.stay;
      removed = c.removed;
      failed = c.failed;
      named = x ∷ c.named;
      whole = next.2;
      left_are = fewer;
      parted =
          simp append_assoc at
          (placed retired rest x (c.stay ++ (c.removed ++ c.failed)) c.named (subst (λ (ys : List (SegmentView S)). IsPermutation retired ((x ∷ rest) ++ ys)) (simp append_assoc) so_far));
      base_only = All-cons (λ (s : SegmentView S). s.number ≡ base) x c.named is c.base_only;
      stays = c.stays;
      removes = c.removes;
      fails = c.fails;
      vault = c.vault;
      faults = c.faults;
      answer = c.answer;
    }

    -- one that is shared stays
    pub keeps : x.number ≢ base → IsClearing (items ++ x ∷ []) left held now calm
    keeps other = record {
      ahead = rest;
      stay = c.stay ++ x ∷ [];
      removed = c.removed;
      failed = c.failed;
      named = c.named;
      whole = ap (λ (ys : List (SegmentView S)). ys ++ x ∷ []) next.2 ∙ append_assoc rest c.stay (x ∷ []);
      left_are = fewer;
      parted =
          subst (λ (ys : List (SegmentView S)). IsPermutation retired (rest ++ ys)) (sym (append_assoc c.stay (x ∷ []) (c.removed ++ (c.failed ++ c.named))))
          (placed retired rest x c.stay (c.removed ++ (c.failed ++ c.named)) so_far);
      base_only = c.base_only;
      stays = All-push (has_not base) c.stay x c.stays other;
      removes = c.removes;
      fails = c.fails;
      vault = c.vault;
      faults = c.faults;
      answer = c.answer;
    }

    pub removes_one : (new : Holding) (then : ℕ) → x.number ≢ base → (tells → new ≡ remove held x.number) → then ≡ now → IsClearing items left new then calm
    removes_one new then other done same = record {
      ahead = rest;
      stay = c.stay;
      removed = x ∷ c.removed;
      failed = c.failed;
      named = c.named;
      whole = next.2;
      left_are = fewer;
      parted = placed retired rest x c.stay (c.removed ++ (c.failed ++ c.named)) so_far;
      base_only = c.base_only;
      stays = c.stays;
      removes = All-cons (has_not base) x c.removed other c.removes;
      fails = c.fails;
      vault = λ told. without_removed c.removed c.failed old held new x (inr (done told)) (c.vault told) (done told);
      faults = same ∙ c.faults;
      answer = c.answer;
    }

    pub fails_one : (new : Holding) (then : ℕ) → x.number ≢ base → (tells → MayBeRemoved x.number held new) → then ≡ next_count now → IsClearing items left new then false
    fails_one new then other is one = record {
      ahead = rest;
      stay = c.stay;
      removed = c.removed;
      failed = x ∷ c.failed;
      named = c.named;
      whole = next.2;
      left_are = fewer;
      parted =
          simp append_assoc at
          (placed retired rest x (c.stay ++ c.removed) (c.failed ++ c.named) (subst (λ (ys : List (SegmentView S)). IsPermutation retired ((x ∷ rest) ++ ys)) (sym (append_assoc c.stay c.removed (c.failed ++ c.named))) so_far));
      base_only = c.base_only;
      stays = c.stays;
      removes = c.removes;
      fails = All-cons (has_not base) x c.failed other c.fails;
      vault = λ told. without_failed c.removed c.failed old held new x (is told) (c.vault told);
      faults = one ∙ ap next_count c.faults;
      answer = sym (not_none (length c.failed));
    }

  rises : (failed : List (SegmentView S)) (now : ℕ) (calm : Bool) → now ≡ more_faults (length failed) before → calm ≡ (length failed == 0) → MatchBool calm (now ≡ before) (Rose before now)
  rises [] now calm faults answer = subst (λ b. MatchBool b (now ≡ before) (Rose before now)) (sym answer) faults
  rises (x ∷ failed) now calm faults answer =
      subst (λ b. MatchBool b (now ≡ before) (Rose before now)) (sym (answer ∙ not_none (length failed)))
      (rose_behind before (more_faults (length failed) before) now (reads_later (length failed) before) (rose_once (more_faults (length failed) before) now faults))

  none_ahead : (ahead : List (SegmentView S)) → length ahead ≡ 0 → ahead ≡ []
  none_ahead [] none = refl
  none_ahead (x ∷ ahead) none = absurd (omega (arith, none))

  pub ends : (items : List (SegmentView S)) (new : Holding) (now : ℕ) (calm : Bool) → IsClearing items 0 new now calm → IsCleared tells base retired items old new before now calm
  ends items new now calm c =
      let none : c.ahead ≡ [] = none_ahead c.ahead c.left_are in
      let all : items ≡ c.stay = c.whole ∙ ap (λ (ys : List (SegmentView S)). ys ++ c.stay) none in
      subst (λ (ys : List (SegmentView S)). IsCleared tells base retired ys old new before now calm) (sym all)
      (record {
        removed = c.removed;
        failed = c.failed;
        named = c.named;
        parted = simp append_assoc (subst (λ (ys : List (SegmentView S)). IsPermutation retired (ys ++ (c.stay ++ (c.removed ++ (c.failed ++ c.named))))) none c.parted);
        base_only = c.base_only;
        never_base = All-append (has_not base) (c.stay ++ c.removed) c.failed (All-append (has_not base) c.stay c.removed c.stays c.removes) c.fails;
        held = c.vault;
        faults = c.faults;
        answer = c.answer;
        rose = rises c.failed now calm c.faults c.answer;
      })
