-- A row that survives has, after the Delete phase, other rows that survive, as a graph's.
use Rattle.std.proofs.Common.{◌≡◌, ◌≢◌, ℕ, ◌<◌, Bool, true, false, cond, eqb, not, List, [], ◌∷◌, ◌++◌, ◌||◌, refl, sym, ap, subst, ◌∙◌, arith, filter, flat_map, length, get_or, eq-eqb, inl, inr}
use Rattle.std.specs.List.{list_any, All, AllByRecursion, range_with_len}
use Rattle.std.proofs.lemmas.Bool.{cases_lt, false≢true}
use Rattle.std.proofs.lemmas.List.Elements.{All-append, All-filter, All-from_recursion}
use Rattle.ann_types.specs.Order.{has}
use Rattle.ann_types.specs.Kept.{rule_of, kept}
use Rattle.ann_types.specs.Merge.{without}
use Rattle.ann_types.specs.Rows.{AreNeighbours}
use Rattle.ann_types.specs.declared.params.Params.{Params}
use Rattle.ann_types.proofs.Graphs.{all_from_has}
use Rattle.ann_types.proofs.Merges.{none_any}
use Rattle.ann_types.proofs.Neighbours.{kept_all, kept_may}
use Rattle.ann_mdelete.specs.Decoded.{apart_of}
use Rattle.ann_mdelete.specs.Rows.{AreRows, behind, gone_rows, repaired_row}
use Rattle.ann_mdelete.proofs.Repairs.{all_behind, renews, stays}

all_passed : (q : ℕ → Bool) (xs : List ℕ) → AllByRecursion (λ x. q x ≡ true) (filter q xs)
all_passed q [] = tt
all_passed q (x ∷ xs) =
    elim (q x) as (λ t. q x ≡ t → AllByRecursion (λ x. q x ≡ true) (cond t (x ∷ filter q xs) (filter q xs))) [
      | true ↦ λ e. (e, all_passed q xs)
      | false ↦ λ e. all_passed q xs
    ] refl

-- what isn't left out is another row that survives
not_left_out : (p row : ℕ) (gone : List ℕ) → not (has (p ∷ gone) row) ≡ true → (row ≢ p) × (has gone row ≡ false)
not_left_out p row gone h = cases (eqb row p) (has gone row) refl h
  where
    cases : (a b : Bool) → eqb row p ≡ a → not (a || b) ≡ true → (row ≢ p) × (b ≡ false)
    cases true b e k = absurd (false≢true k)
    cases false true e k = absurd (false≢true k)
    cases false false e k = (λ same. false≢true (sym e ∙ eq-eqb row p same), refl)

-- a row's neighbours after the phase
pub record IsLeft (params : Params) (count : ℕ) (gone : List Bool) (row : ℕ) (list : List ℕ) : Type 0 where
  pub may : AreNeighbours params count row list
  pub survive : All (λ other. has (gone_rows gone) other ≡ false) list

pub repaired_left : (params : Params) (lists vectors : List (List ℕ)) (gone : List Bool) (p : ℕ) → AreRows params lists vectors gone → p < length lists → IsLeft params (length lists) gone p (repaired_row (rule_of params) lists vectors gone p)
repaired_left params lists vectors gone p w h =
    let own : List ℕ = get_or lists p [] in
    let dead : List ℕ = gone_rows gone in
    let all : List ℕ = own ++ behind lists gone own in
    let candidates : List ℕ = without (p ∷ dead) all in
    let passed : AllByRecursion (λ x. not (has (p ∷ dead) x) ≡ true) candidates = all_passed (λ x. not (has (p ∷ dead) x)) all in
    let each : All (λ x. not (has (p ∷ dead) x) ≡ true) candidates = All-from_recursion (λ x. not (has (p ∷ dead) x) ≡ true) candidates passed in
    let others : All (λ x. x ≢ p) candidates = λ k d l. (not_left_out p (get_or candidates k d) dead (each k d l)).0 in
    let alive : All (λ x. has dead x ≡ false) candidates = λ k d l. (not_left_out p (get_or candidates k d) dead (each k d l)).1 in
    let inside : All (λ x. x < length lists) candidates =
    All-filter (λ x. not (has (p ∷ dead) x)) (λ x. x < length lists) all
    (All-append (λ x. x < length lists) own (behind lists gone own) (w.graph p h).inside (all_behind (λ x. x < length lists) lists gone own (λ row l. (w.graph row l).inside))) in
    elim (list_any (has dead) own) as (λ t. list_any (has dead) own ≡ t → IsLeft params (length lists) gone p (repaired_row (rule_of params) lists vectors gone p)) [
      | true ↦ λ some. subst (IsLeft params (length lists) gone p) (sym (renews (rule_of params) lists vectors gone p w.with_vectors some)) (record {
        may = kept_may params (apart_of vectors) (length lists) p candidates inside others;
        survive = kept_all (λ x. has dead x ≡ false) (rule_of params) (apart_of vectors) p candidates alive;
      })
      | false ↦ λ none. subst (IsLeft params (length lists) gone p) (sym (stays (rule_of params) lists vectors gone p none)) (record {
        may = w.graph p h;
        survive = All-from_recursion (λ x. has dead x ≡ false) own (all_from_has (λ x. has dead x ≡ false) own (λ x k. none_any (has dead) own x none k));
      })
    ] refl
