-- The lists of merged rows.
use Rattle.std.proofs.Common.{◌≡◌, ℕ, ◌-◌, ◌≤◌, ◌<◌, List, [], ◌++◌, sym, subst, ◌∙◌, arith, length, map, get_or, inl, inr}
use Rattle.std.specs.List.{range_with_len}
use Rattle.std.specs.List.Sorted.{IsStrictlyIncreasing}
use Rattle.std.proofs.lemmas.Bool.{cases_lt}
use Rattle.std.proofs.lemmas.List.{get_or_append_left, get_or-append_right}
use Rattle.std.proofs.lemmas.List.Elements.{All-get_or, All-append, All-weaker}
use Rattle.std.proofs.lemmas.List.FromFn.{get_or-map-range_with_len, length-map-range_with_len}
use Rattle.ann_types.specs.Order.{ascending}
use Rattle.ann_types.specs.Kept.{rule_of}
use Rattle.ann_types.proofs.Sets.{increasing_from_rises, rises_ascending}
use Rattle.ann_types.proofs.Keeps.{within_few, within_rises}
use Rattle.ann_prune.specs.Gathered.{AreRows}
use Rattle.ann_mdelete.specs.Decoded.{apart_of}
use Rattle.ann_mpatch.specs.Joined.{ShareNothing}
use Rattle.ann_mpatch.specs.Plan.{AreRowsFrom, IsPlan, merged_list, patched_list}
use Rattle.ann_mpatch.specs.declared.plan.PatchPlan.{PatchPlan}
use Rattle.ann_mpatch.proofs.Joins.{share_nothing}

module _ {S : Type 0} (plan : PatchPlan S) where
  -- a row of the base is patched
  pub list_patched : (row : ℕ) → row < length plan.base → merged_list plan row ≡ patched_list plan row
  list_patched row below =
      get_or_append_left (map (patched_list plan) (range_with_len 0 (length plan.base))) plan.links [] row (let size = length-map-range_with_len (patched_list plan) 0 (length plan.base) in omega arith)
      ∙ get_or-map-range_with_len (patched_list plan) 0 (length plan.base) row row [] below (omega arith)

  -- a later row has its links
  pub list_later : (row : ℕ) → length plan.base ≤ row → merged_list plan row ≡ get_or plan.links (row - length plan.base) []
  list_later row past = get_or-append_right (map (patched_list plan) (range_with_len 0 (length plan.base))) plan.links (length plan.base) row [] (length-map-range_with_len (patched_list plan) 0 (length plan.base)) past

  module _ (w : IsPlan plan) where
    -- what is asked of the rows of the base
    pub own_rows : (row : ℕ) → row < length plan.base → AreRowsFrom 0 (length plan.base) (get_or plan.base row [])
    own_rows row below = All-get_or (AreRowsFrom 0 (length plan.base)) plan.base row [] below w.base

    pub new_rows : (row : ℕ) → row < length plan.base → AreRowsFrom (length plan.base) (length plan.decoded) (get_or plan.delta row [])
    new_rows row below = All-get_or (AreRowsFrom (length plan.base) (length plan.decoded)) plan.delta row [] (let pairs = w.pairs in omega arith) w.delta

    pub later_rows : (row : ℕ) → length plan.base ≤ row → row < length plan.decoded → AreRowsFrom 0 (length plan.base) (get_or plan.links (row - length plan.base) [])
    later_rows row past below = All-get_or (AreRowsFrom 0 (length plan.base)) plan.links (row - length plan.base) [] (let rows = w.rows in omega arith) w.links

    pub apart : (row : ℕ) → row < length plan.base → ShareNothing (get_or plan.base row []) (get_or plan.delta row [])
    apart row below = share_nothing (length plan.base) (length plan.decoded) (get_or plan.base row []) (get_or plan.delta row []) (own_rows row below).inside (new_rows row below).inside

    pub joined_rows : (row : ℕ) → row < length plan.base → AreRows (length plan.decoded) row (get_or plan.base row [] ++ get_or plan.delta row [])
    joined_rows row below =
        let rows = w.rows in
        record {
          own = omega arith;
          others = All-append (λ other. other < length plan.decoded) (get_or plan.base row []) (get_or plan.delta row [])
              (All-weaker (λ other. (0 ≤ other) × (other < length plan.base)) (λ other. other < length plan.decoded) (λ other h. omega arith) (get_or plan.base row []) (own_rows row below).inside)
              (All-weaker (λ other. (length plan.base ≤ other) × (other < length plan.decoded)) (λ other. other < length plan.decoded) (λ other h. h.1) (get_or plan.delta row []) (new_rows row below).inside);
        }

    -- ---- every list may stand in a block

    pub list_rises : (row : ℕ) → row < length plan.decoded → IsStrictlyIncreasing (merged_list plan row)
    list_rises row below = elim (cases_lt row (length plan.base)) [
      | inl base ↦
          let joined : List ℕ = get_or plan.base row [] ++ get_or plan.delta row [] in
          subst IsStrictlyIncreasing (sym (list_patched row base))
          (increasing_from_rises (patched_list plan row) (within_rises (rule_of plan.params) (apart_of plan.decoded) row (ascending joined) (rises_ascending joined)))
      | inr past ↦ subst IsStrictlyIncreasing (sym (list_later row past)) (later_rows row past below).rising
    ]

    pub list_few : (row : ℕ) → row < length plan.decoded → length (merged_list plan row) ≤ plan.params.r
    list_few row below = elim (cases_lt row (length plan.base)) [
      | inl base ↦ subst (λ (t : List ℕ). length t ≤ plan.params.r) (sym (list_patched row base))
          (within_few (rule_of plan.params) (apart_of plan.decoded) row (ascending (get_or plan.base row [] ++ get_or plan.delta row [])))
      | inr past ↦ subst (λ (t : List ℕ). length t ≤ plan.params.r) (sym (list_later row past))
          (All-get_or (λ list. length list ≤ plan.params.r) plan.links (row - length plan.base) [] (let rows = w.rows in omega arith) w.few)
    ]
