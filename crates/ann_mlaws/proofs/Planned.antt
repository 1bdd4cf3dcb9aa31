-- A plan that is made row by row can be patched.
use Rattle.std.proofs.Common.{◌≡◌, ℕ, ◌+◌, ◌≤◌, ◌<◌, Bool, not, List, [], ◌∷◌, refl, sym, ap, ap₂, subst, ◌∙◌, arith, map, take, drop, length, get_or, length-append}
use Rattle.std.specs.Prelude.{All, Option, None, Some}
use Rattle.std.specs.List.{range_with_len}
use Rattle.std.proofs.lemmas.List.{length-map, take-append-drop}
use Rattle.std.proofs.lemmas.List.Elements.{All-from_get_or, All-from_recursion, All-weaker}
use Rattle.std.proofs.lemmas.List.FromFn.{length-map-range_with_len}
use Rattle.ann_types.specs.Codes.{decoded, decoded_points}
use Rattle.ann_types.specs.Graph.{Point, with_vector}
use Rattle.ann_types.specs.Index.{Index}
use Rattle.ann_types.specs.Merge.{base_of, base_size}
use Rattle.ann_types.specs.Order.{has}
use Rattle.ann_types.specs.Rows.{AreNeighbours}
use Rattle.ann_types.specs.declared.new_point.NewPoint.{NewPoint}
use Rattle.ann_types.specs.declared.params.Params.{Params}
use Rattle.ann_types.proofs.Sets.{all_filter}
use Rattle.ann_segment.specs.Directory.{Item}
use Rattle.ann_segment.specs.Segment.{SegmentView}
use Rattle.ann_mdelete.specs.Rows.{gone_rows}
use Rattle.ann_mdelete.proofs.Points.{below_range}
use Rattle.ann_minsert.specs.Base.{BaseView, IsBase}
use Rattle.ann_minsert.specs.Links.{linked_rows}
use Rattle.ann_mplan.specs.Back.{deltas_of, linking}
use Rattle.ann_mplan.proofs.Deltas.{AreLater, deltas_later}
use Rattle.ann_mpatch.specs.Plan.{AreRowsFrom, IsPlan, row_count}
use Rattle.ann_mpatch.specs.declared.plan.PatchPlan.{PatchPlan}
use Rattle.ann_mlaws.specs.Rows.{IsBaseFor, IsPlanned, MayMerge, gone_of, left_vectors, old_items, survivors_of}
use Rattle.ann_mlaws.proofs.Bare.{first_count}
use Rattle.ann_mlaws.proofs.Based.{first_stands, no_cons}
use Rattle.ann_mlaws.proofs.Linked.{linked_are}

-- ---- the survivors are rows of the segment

rows_are : {S : Type 0} (old : Option (SegmentView S)) → length (old_items old) ≡ row_count old
rows_are None = refl
rows_are (Some segment) = refl

survivors_below : {S : Type 0} (dead : List ℕ) (old : Option (SegmentView S)) → All (λ row. row < row_count old) (survivors_of dead old)
survivors_below dead old =
    let gone : List Bool = gone_of dead old in
    subst (λ (n : ℕ). All (λ row. row < n) (survivors_of dead old)) (length-map (old_items old) (λ (item : Item). has dead item.0) ∙ rows_are old)
    (All-from_recursion (λ row. row < length gone) (survivors_of dead old)
    (all_filter (λ row. row < length gone) (λ row. not (has (gone_rows gone) row)) (range_with_len 0 (length gone)) (below_range 0 (length gone) (length gone) (omega arith))))

-- ---- each merged row has its vector

first_rows : (index : Index) (points : List NewPoint) → length (base_of index [] points).points ≡ length (take base_size points)
unfolding base_of
first_rows index points = first_count index (take base_size points)

rows_in_all : (index : Index) (survivors : List ℕ) (lists vectors : List (List ℕ)) (points : List NewPoint) (base : BaseView) (rest : List NewPoint) → IsBaseFor index survivors lists vectors points base rest → length vectors ≡ length survivors → length base.vectors + length rest ≡ length survivors + length points
rows_in_all index [] lists vectors points base rest is same =
    let first = is.first refl in
    let stands = first_stands index points base first.0 in
    let made : List Point = (base_of index [] points).points in
    let count : length base.vectors ≡ length (take base_size points) =
    ap length (sym stands.rows.same)
    ∙ length-map (decoded_points index.book made) (λ (x : Point). x.vector)
    ∙ length-map made (λ (x : Point). with_vector (decoded index.book x.vector) x)
    ∙ first_rows index points in
    let outside : length rest ≡ length (drop base_size points) = ap length first.1 in
    let cut : length points ≡ length (take base_size points) + length (drop base_size points) =
    ap length (sym (take-append-drop base_size points)) ∙ length-append (take base_size points) (drop base_size points) in
    omega arith
rows_in_all index (s ∷ survivors) lists vectors points base rest is same =
    let some = is.left (no_cons s survivors) in
    ap₂ ◌+◌ (ap length some.0.vectors ∙ same) (ap length some.1)

-- ---- the lists

base_rows : (b : BaseView) → IsBase b → All (AreRowsFrom 0 (length b.lists)) b.lists
base_rows b sound =
    All-from_get_or (AreRowsFrom 0 (length b.lists)) b.lists []
    (λ i h. let links = sound.lists.links i h in record {
      rising = links.rising;
      inside = All-weaker (λ row. row < length b.lists) (λ row. (0 ≤ row) × (row < length b.lists)) (λ row k. (omega arith, k)) (get_or b.lists i []) links.inside;
    })

link_rows : (params : Params) (n : ℕ) (lists : List (List ℕ)) → All (AreNeighbours params n n) lists → All (AreRowsFrom 0 n) lists
link_rows params n lists may =
    All-weaker (AreNeighbours params n n) (AreRowsFrom 0 n)
    (λ list w. record { rising = w.rising; inside = All-weaker (λ row. row < n) (λ row. (0 ≤ row) × (row < n)) (λ row k. (omega arith, k)) list w.inside })
    lists may

delta_rows : (n : ℕ) (links : List (List ℕ)) → All (AreRowsFrom n (n + length links)) (deltas_of n links)
delta_rows n links =
    All-weaker (AreLater n (n + length links)) (AreRowsFrom n (n + length links)) (λ list w. record { rising = w.rising; inside = w.inside })
    (deltas_of n links) (deltas_later n links)

-- ---- the plan

module _ {S : Type 0} (tells : Type 0) (bytes : S → List ℕ) (index : Index) (dead : List ℕ) (old : Option (SegmentView S)) (points : List NewPoint) (plan : PatchPlan S) (entry : Option ℕ) (may : MayMerge index old points) (p : IsPlanned tells bytes index dead old points plan entry) where
  abbrev n : ℕ
  n = length p.base.vectors

  own_count : length plan.base ≡ n
  own_count = ap length p.own ∙ p.based.sound.lists.count

  links_count : length plan.links ≡ length p.outside
  links_count = ap length p.links ∙ length-map p.outside (linked_rows index.params index.book p.base)

  all_count : length plan.decoded ≡ n + length p.outside
  all_count =
      ap length p.vectors
      ∙ length-append p.base.vectors (map (λ (x : NewPoint). decoded index.book x.vector) p.outside)
      ∙ ap (λ (k : ℕ). n + k) (length-map p.outside (λ (x : NewPoint). decoded index.book x.vector))

  both_count : length plan.decoded ≡ length plan.survivors.items + length plan.points.items
  both_count =
      all_count
      ∙ rows_in_all index (survivors_of dead old) _ (left_vectors index dead old) points p.base p.outside p.based (length-map (survivors_of dead old) _)
      ∙ ap₂ (λ (xs : List ℕ) (ys : List NewPoint). length xs + length ys) (sym p.survivors) (sym p.points_are)

  linked : All (AreNeighbours index.params n n) plan.links
  linked = subst (All (AreNeighbours index.params n n)) (sym p.links) (linked_are index p.base p.based.sound p.outside)

  pub is_plan : IsPlan plan
  is_plan =
      let own = own_count in
      let links = links_count in
      let all = all_count in
      let lists : length p.base.lists ≡ length plan.base = sym (ap length p.own) in
      record {
        survivors =
            subst (λ (o : Option (SegmentView S)). All (λ row. row < row_count o) plan.survivors.items) (sym p.segment)
            (subst (All (λ row. row < row_count old)) (sym p.survivors) (survivors_below dead old));
        decoded = both_count;
        rows = omega arith;
        pairs = ap length p.added ∙ length-map-range_with_len (linking (length p.base.lists) plan.links (length plan.links)) 0 (length p.base.lists) ∙ lists;
        base = subst (λ (k : ℕ). All (AreRowsFrom 0 k) plan.base) lists (subst (All (AreRowsFrom 0 (length p.base.lists))) (sym p.own) (base_rows p.base p.based.sound));
        delta =
            subst (All (AreRowsFrom (length plan.base) (length plan.decoded))) (sym p.added)
            (subst (λ (k : ℕ). All (AreRowsFrom (length plan.base) (length plan.decoded)) (deltas_of k plan.links)) (sym lists)
            (subst (λ (high : ℕ). All (AreRowsFrom (length plan.base) high) (deltas_of (length plan.base) plan.links)) (let e : length plan.base + length plan.links ≡ length plan.decoded = omega arith in e)
            (delta_rows (length plan.base) plan.links)));
        links = subst (λ (k : ℕ). All (AreRowsFrom 0 k) plan.links) (sym own) (link_rows index.params n plan.links linked);
        few = subst (λ (ps : Params). All (λ list. length list ≤ ps.r) plan.links) (sym p.params) (All-weaker (AreNeighbours index.params n n) (λ list. length list ≤ index.params.r) (λ list w. w.few) plan.links linked);
        vectors = subst (λ (ps : Params). All (λ x. length x.vector ≡ ps.d) plan.points.items) (sym p.params) (subst (All (λ x. length x.vector ≡ index.params.d)) (sym p.points_are) may.vectors);
      }
