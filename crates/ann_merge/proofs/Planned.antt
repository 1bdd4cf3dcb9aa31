-- What the phases make of a merge's parts is a plan for the merge.
use Rattle.std.proofs.Common.{◌≡◌, ℕ, ◌<◌, ◌^◌, List, [], ◌++◌, sym, ap, ap₂, subst, ◌∙◌, not, map, length}
use Rattle.std.specs.Prelude.{All, Option, None, Some, MatchOption, Result, IfOk}
use Rattle.std.specs.List.Sorted.{IsStrictlyIncreasing}
use Rattle.std.proofs.lemmas.List.{map-append}
use Rattle.std.proofs.lemmas.Result.{IfOk-weaker}
use Rattle.std.proofs.lemmas.List.Elements.{filter-append}
use Rattle.ann_types.specs.Codes.{Book, code}
use Rattle.ann_types.specs.Graph.{Graph, pids_of}
use Rattle.ann_types.specs.Index.{Index, IsBookOf}
use Rattle.ann_types.specs.Legal.{pid_end}
use Rattle.ann_types.specs.Merge.{without}
use Rattle.ann_types.specs.Order.{has}
use Rattle.ann_types.specs.declared.new_point.NewPoint.{NewPoint}
use Rattle.ann_types.proofs.Sets.{increasing_from_rises, rises_filter, rises_from_increasing}
use Rattle.ann_segment.specs.Directory.{Item, AreRising, item_of}
use Rattle.ann_segment.specs.Segment.{SegmentView}
use Rattle.ann_mdelete.proofs.Points.{map_twice}
use Rattle.ann_mpatch.specs.Plan.{IsPlan}
use Rattle.ann_mpatch.specs.declared.plan.PatchPlan.{PatchPlan}
use Rattle.ann_mlaws.specs.Plan.{IsLti, IsMergePlan}
use Rattle.ann_mlaws.specs.Rows.{IsPlanned, MayMerge, old_items, survivors_of}
use Rattle.ann_mphases.specs.Planned.{PlansMerge}
use Rattle.ann_mseal.specs.Merged.{merged_items}
use Rattle.ann_merge.specs.Gathered.{all_pids, frozen_points, merged_pids, new_of}
use Rattle.ann_merge.specs.Job.{IsOrder, IsPlanFor, Order, index_of}
use Rattle.ann_merge.proofs.Pids.{kept_pids, new_all, new_pids, old_all, rising_with_new}

module _ {S : Type 0} (bytes : S → List ℕ) (order : Order S) (is : IsOrder order) where
  -- the parts may be merged
  pub may_merge : IsBookOf order.params order.book.book → All (λ (x : NewPoint). length x.vector ≡ order.params.d) (new_of order.gone order.frozen) → MayMerge (index_of order) order.old (new_of order.gone order.frozen)
  may_merge book vectors = record {
    book = book;
    codes = is.codes;
    rising = rising_with_new (old_items order.old) order.frozen order.gone is.rising;
    old_small = old_all (old_items order.old) order.frozen (λ p. p < pid_end) is.small;
    small = new_all (old_items order.old) order.frozen (λ p. p < pid_end) order.gone is.small;
    vectors = vectors;
  }

  -- what is true of the new points
  abbrev pub AreSized : List NewPoint → Type 0
  AreSized points = All (λ (x : NewPoint). length x.vector ≡ order.params.d) points × All (λ (x : NewPoint). x.tag < 2 ^ 64) points

  module _ (tells : Type 0) (plan : PatchPlan S) (entry : Option ℕ) (planned : IsPlanned tells bytes (index_of order) order.gone order.old (new_of order.gone order.frozen) plan entry) where
    items_are : merged_items order.book.book plan ≡ map (item_of (old_items order.old)) (survivors_of order.gone order.old) ++ map (λ (x : NewPoint). (x.pid, code order.book.book x.vector)) (new_of order.gone order.frozen)
    items_are =
        ap (λ (old : Option (SegmentView S)). map (item_of (old_items old)) plan.survivors.items ++ map (λ (x : NewPoint). (x.pid, code order.book.book x.vector)) plan.points.items) planned.segment
        ∙ ap₂ (λ (rows : List ℕ) (points : List NewPoint). map (item_of (old_items order.old)) rows ++ map (λ (x : NewPoint). (x.pid, code order.book.book x.vector)) points) planned.survivors planned.points_are

    -- the merged rows have the Pids that stay
    pids_are : map (λ (item : Item). item.0) (merged_items order.book.book plan) ≡ merged_pids order.gone (old_items order.old) order.frozen
    pids_are =
        let first : List Item = map (item_of (old_items order.old)) (survivors_of order.gone order.old) in
        let points : List NewPoint = new_of order.gone order.frozen in
        ap (map (λ (item : Item). item.0)) items_are
        ∙ map-append (λ (item : Item). item.0) first (map (λ (x : NewPoint). (x.pid, code order.book.book x.vector)) points)
        ∙ ap₂ ◌++◌ (kept_pids order.gone (old_items order.old)) (map_twice (λ (x : NewPoint). (x.pid, code order.book.book x.vector)) (λ (item : Item). item.0) points ∙ new_pids order.gone order.frozen)
        ∙ sym (filter-append (λ p. not (has order.gone p)) (map (λ (item : Item). item.0) (old_items order.old)) (pids_of (frozen_points order.frozen)))

    rising_is : AreRising (merged_items order.book.book plan)
    rising_is =
        let all : List ℕ = all_pids (old_items order.old) order.frozen in
        subst IsStrictlyIncreasing (sym pids_are)
        (increasing_from_rises (without order.gone all) (rises_filter (λ p. not (has order.gone p)) all (rises_from_increasing all is.rising)))

    entered_is : MatchOption entry (length plan.decoded ≡ 0) (λ row. row < length plan.decoded)
    entered_is = entered entry planned.entered
      where
        entered : (e : Option ℕ) → MatchOption e (plan.decoded ≡ []) (λ row. row < length plan.decoded) → MatchOption e (length plan.decoded ≡ 0) (λ row. row < length plan.decoded)
        entered None none = ap length none
        entered (Some row) below = below

    pub plan_for : AreSized (new_of order.gone order.frozen) → IsPlan plan → (tells → (lti : Graph) → IsLti bytes (index_of order) order.old lti → IsMergePlan (index_of order) lti (new_of order.gone order.frozen) order.gone plan entry) → IsPlanFor tells bytes order plan entry
    plan_for sized sound merge = record {
      sound = sound;
      old_segment = planned.segment;
      params_are = planned.params;
      entered = entered_is;
      pids = pids_are;
      rising = rising_is;
      vectors = sized.0;
      tags = sized.1;
      merge = merge;
    }

  pub may_for : (book : Book) (points : List NewPoint) → book ≡ order.book.book → points ≡ new_of order.gone order.frozen → IsBookOf order.params order.book.book → All (λ (x : NewPoint). length x.vector ≡ order.params.d) points → MayMerge (record { params = order.params; book = book }) order.old points
  may_for book points same_book same_points is_book vectors =
      subst (λ b. MayMerge (record { params = order.params; book = b }) order.old points) (sym same_book)
      (subst (MayMerge (index_of order) order.old) (sym same_points)
      (may_merge is_book (subst (All (λ (x : NewPoint). length x.vector ≡ order.params.d)) same_points vectors)))

  -- ---- how planning ends

  module _ {X Y : Type 0} (tells : Type 0) (plan_in : X → PatchPlan S) (entry_in : X → Option ℕ) (result : Result X Y) where
    -- what the planning of these new points over this book gives
    abbrev pub PlansOf : Book → List NewPoint → Type 0
    PlansOf book points =
        let index : Index = record { params = order.params; book = book } in
        IfOk result (λ x. PlansMerge tells bytes index order.gone order.old points (plan_in x) (entry_in x))

    pub plans_for : (book : Book) (points : List NewPoint) → book ≡ order.book.book → points ≡ new_of order.gone order.frozen → AreSized points → PlansOf book points → IfOk result (λ x. IsPlanFor tells bytes order (plan_in x) (entry_in x))
    plans_for book points same_book same_points sized plans =
        let each = subst AreSized same_points sized in
        let all = subst (λ b. PlansOf b (new_of order.gone order.frozen)) same_book (subst (PlansOf book) same_points plans) in
        IfOk-weaker result
        (λ x. PlansMerge tells bytes (index_of order) order.gone order.old (new_of order.gone order.frozen) (plan_in x) (entry_in x))
        (λ x. IsPlanFor tells bytes order (plan_in x) (entry_in x))
        (λ x plans. plan_for tells (plan_in x) (entry_in x) plans.rows each plans.sound plans.merge) all
