-- The Pids and codes of the merged rows.
use Rattle.std.proofs.Common.{◌≡◌, ℕ, ◌<◌, List, [], ◌∷◌, ◌++◌, refl, sym, ap, ap₂, ◌∙◌, arith, length, map}
use Rattle.std.specs.Prelude.{All, Option, None, Some}
use Rattle.std.proofs.lemmas.List.{length-append, length-map, map-append}
use Rattle.std.proofs.lemmas.List.Elements.{All-append, All-head, All-map, All-tail}
use Rattle.ann_types.specs.Codes.{Book}
use Rattle.ann_types.specs.Fold.{new_point}
use Rattle.ann_types.specs.Graph.{Point, Graph}
use Rattle.ann_types.specs.Index.{Index, IsBookOf}
use Rattle.ann_types.specs.Merge.{patch_phase}
use Rattle.ann_types.specs.declared.new_point.NewPoint.{NewPoint}
use Rattle.ann_types.proofs.Coded.{length_code}
use Rattle.ann_segment.specs.Directory.{Item, item_of}
use Rattle.ann_segment.specs.Segment.{SegmentView}
use Rattle.ann_segment.specs.Text.{items_for}
use Rattle.ann_segment.proofs.Holding.{holds_row}
use Rattle.ann_mpatch.specs.Phase.{HoldsOld, IsPlanOf, point_at}
use Rattle.ann_mpatch.specs.Plan.{IsPlan, row_count, segment_in}
use Rattle.ann_mpatch.specs.declared.plan.PatchPlan.{PatchPlan}
use Rattle.ann_mlaws.specs.Rows.{old_items}
use Rattle.ann_mseal.specs.Merged.{merged_items, new_item}

-- there are as many as there are merged rows
pub items_count : {S : Type 0} (book : Book) (plan : PatchPlan S) → IsPlan plan → length (merged_items book plan) ≡ length plan.decoded
items_count book plan w =
    let old : List Item = map (item_of (old_items (segment_in plan))) plan.survivors.items in
    let new : List Item = map (new_item book) plan.points.items in
    let both = length-append old new in
    let first = length-map plan.survivors.items (item_of (old_items (segment_in plan))) in
    let second = length-map plan.points.items (new_item book) in
    let all = w.decoded in
    omega arith

-- their codes have one length
pub items_coded : {S : Type 0} (book : Book) (plan : PatchPlan S) (m : ℕ) → length book ≡ m → All (λ row. length (item_of (old_items (segment_in plan)) row).1 ≡ m) plan.survivors.items → All (λ (item : Item). length item.1 ≡ m) (merged_items book plan)
items_coded book plan m parts codes =
    let P : Item → Type 0 = λ item. length item.1 ≡ m in
    All-append P (map (item_of (old_items (segment_in plan))) plan.survivors.items) (map (new_item book) plan.points.items)
    (All-map P (item_of (old_items (segment_in plan))) plan.survivors.items codes)
    (All-map P (new_item book) plan.points.items (λ k d within. length_code book _ ∙ parts))

-- ---- the items of the merged graph

pub map_through : {A B C : Type 0} (f : A → B) (g : B → C) (xs : List A) → map g (map f xs) ≡ map (λ x. g (f x)) xs
map_through f g [] = refl
map_through f g (x ∷ xs) = ap (λ t. g (f x) ∷ t) (map_through f g xs)

map_alike : {A B : Type 0} (f g : A → B) (xs : List A) → ((x : A) → f x ≡ g x) → map f xs ≡ map g xs
map_alike f g [] same = refl
map_alike f g (x ∷ xs) same = ap₂ (λ y t. y ∷ t) (same x) (map_alike f g xs same)

map_where : {A B : Type 0} (P : A → Type 0) (f g : A → B) (xs : List A) → ((x : A) → P x → f x ≡ g x) → All P xs → map f xs ≡ map g xs
map_where P f g [] same all = refl
map_where P f g (x ∷ xs) same all = ap₂ (λ y t. y ∷ t) (same x (All-head P x xs all)) (map_where P f g xs same (All-tail P x xs all))

module _ {S : Type 0} (bytes : S → List ℕ) (index : Index) (lti : Graph) where
  -- the item of a row of the old segment is that of the point there
  old_item_is : (o : Option (SegmentView S)) (row : ℕ) → HoldsOld bytes index o lti → IsBookOf index.params index.book → row < row_count o → item_of (old_items o) row ≡ new_item index.book (new_point (point_at lti row))
  old_item_is None row held book below = absurd (omega arith)
  old_item_is (Some segment) row held book below = (holds_row index.params index.book (bytes segment.seal) segment lti held book.parts row below).item

  module _ (plan : PatchPlan S) (w : IsPlan plan) (base new : List Point) (p : IsPlanOf index lti base new plan) (held : HoldsOld bytes index (segment_in plan) lti) where
    abbrev points : List Point
    points = (patch_phase index base new).points

    -- the points of the merged graph without their neighbours
    bare_are : map new_point points ≡ map new_point (base ++ new)
    unfolding patch_phase
    bare_are =
        map-append new_point _ new
        ∙ ap (λ t. t ++ map new_point new) (map_through _ new_point base ∙ map_alike _ new_point base (λ x. refl))
        ∙ sym (map-append new_point base new)

    pub items_merged : merged_items index.book plan ≡ items_for index.book (patch_phase index base new)
    items_merged =
        let item : NewPoint → Item = new_item index.book in
        let survivors : List NewPoint = map (λ row. new_point (point_at lti row)) plan.survivors.items in
        ap (λ t. t ++ map item plan.points.items)
        (map_where (λ row. row < row_count (segment_in plan)) (item_of (old_items (segment_in plan))) (λ row. item (new_point (point_at lti row))) plan.survivors.items
        (λ row below. old_item_is (segment_in plan) row held p.book below) w.survivors
        ∙ sym (map_through (λ row. new_point (point_at lti row)) item plan.survivors.items))
        ∙ sym (map-append item survivors plan.points.items)
        ∙ ap (map item) (sym p.points ∙ sym bare_are)
        ∙ map_through new_point item points
