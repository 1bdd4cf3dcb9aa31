-- Eyes that were set aside, and those that worked, back in their places.
use Rattle.std.proofs.Common.{◌≡◌, ℕ, ◌-◌, ◌≤◌, List, [], ◌∷◌, ◌++◌, inl, inr, sym, ap, subst, ◌∙◌, arith, length, get_or, take, drop, reverse}
use Rattle.std.proofs.lemmas.List.{get_or-reverse, get_or-take, get_or_append_left, reverse-reverse, take-append-drop, length-reverse, length-take}
use Rattle.ann_types.specs.declared.params.Params.{Params}
use Rattle.ann_mdelete.specs.declared.refused.WorkRefused.{WorkRefused}
use Rattle.ann_mdelete.specs.declared.refused.WorkRefused.TheVariants.{Disk, BadSegment, Memory}
use Rattle.ann_mpatch.specs.Source.{Source}
use Rattle.ann_mcause.specs.Eyes.{EyeCauses}
use Rattle.ann_crew.specs.Crew.{AreWorked, IsCaused}
use Rattle.ann_crew.proofs.Pairs.{Pairs, pairs_at, pairs_by_index, pairs_join, pairs_length, pairs_reverse}
use Rattle.ann_merge.specs.Job.{AreSetAside, IsWorkRefused}

module _ {E : Type 0} (workers : ℕ) (eyes active spare worked : List E) (aside : AreSetAside workers eyes active spare) where
  -- the eyes that worked, and then the others
  abbrev pub back : List E
  back = ([] ++ reverse (drop 0 worked)) ++ reverse (drop 0 spare)

  back_is : back ≡ reverse worked ++ drop workers eyes
  back_is = ap (λ t. reverse worked ++ reverse t) aside.others ∙ ap (λ t. reverse worked ++ t) (reverse-reverse (drop workers eyes))

  pairs_same : (R : E → E → Type 0) → ((x : E) → R x x) → (xs : List E) → Pairs R xs xs
  pairs_same R r [] = tt
  pairs_same R r (x ∷ xs) = (r x, pairs_same R r xs)

  pub all_back : (R : E → E → Type 0) → ((x : E) → R x x) → AreWorked R active worked → AreWorked R eyes back
  all_back R r w =
      let some : Pairs R (take workers eyes) (reverse worked) =
      subst (λ t. Pairs R t (reverse worked)) (ap reverse aside.first ∙ reverse-reverse (take workers eyes))
      (pairs_reverse R active worked (pairs_by_index R active worked w.same w.each)) in
      let all : Pairs R eyes back =
      subst (Pairs R eyes) (sym back_is)
      (subst (λ t. Pairs R t (reverse worked ++ drop workers eyes)) (take-append-drop workers eyes)
      (pairs_join R (take workers eyes) (drop workers eyes) (reverse worked) (drop workers eyes) some (pairs_same R r (drop workers eyes)))) in
      record {
        same = pairs_length R eyes back all;
        each = λ i d h. pairs_at R eyes back i d d all h;
      }

  count_taken : workers ≤ length eyes → length (take workers eyes) ≡ workers
  count_taken enough = let k = length-take workers eyes in omega arith

  pub cause_back : (C : E → E → WorkRefused → Type 0) (why : WorkRefused) → workers ≤ length eyes → length worked ≡ length active → IsCaused C active worked why → IsCaused C eyes back why
  cause_back C why enough same (i, h, cause) =
      let size : length active ≡ workers = ap length aside.first ∙ length-reverse (take workers eyes) ∙ count_taken enough in
      let j : ℕ = workers - 1 - i in
      let count : length (reverse worked) ≡ workers = length-reverse worked ∙ same ∙ size in (
        j,
        omega arith,
        λ d. subst (λ t. C t (get_or back j d) why)
            (ap (λ t. get_or t i d) aside.first ∙ get_or-reverse (take workers eyes) i d (let k = count_taken enough in omega arith)
            ∙ ap (λ k. get_or (take workers eyes) (k - 1 - i) d) (count_taken enough)
            ∙ get_or-take workers eyes j d (omega arith))
            (subst (λ t. C (get_or active i d) t why)
            (sym (ap (λ t. get_or t j d) back_is
            ∙ get_or_append_left (reverse worked) (drop workers eyes) d j (omega arith)
            ∙ get_or-reverse worked j d (omega arith)
            ∙ ap (λ k. get_or worked k d) (let e : length worked - 1 - j ≡ i = omega arith in e)))
            (cause d)),
      )

  -- a refusal of the merge by some of the eyes is one of all
  pub refused_back : (reads faults : E → ℕ) (tells : Type 0) (source : Source) (params : Params) (before now : ℕ) (why : WorkRefused) → workers ≤ length eyes → length worked ≡ length active → IsWorkRefused reads faults tells source params before now active worked why → IsWorkRefused reads faults tells source params before now eyes back why
  refused_back reads faults tells source params before now Disk enough same (inl rose) = inl rose
  refused_back reads faults tells source params before now Disk enough same (inr cause) = inr (cause_back (EyeCauses reads faults tells source params) Disk enough same cause)
  refused_back reads faults tells source params before now (BadSegment block) enough same cause = cause_back (EyeCauses reads faults tells source params) (BadSegment block) enough same cause
  refused_back reads faults tells source params before now Memory enough same cause = tt
