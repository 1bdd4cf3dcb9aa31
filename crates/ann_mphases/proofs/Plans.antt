-- What the phases have made is what a merge's plan has.
use Rattle.std.proofs.Common.{◌≡◌, ℕ, ◌+◌, ◌≤◌, List, [], ◌∷◌, ◌++◌, refl, sym, ap, subst, ◌∙◌, arith, map, length, get_or}
use Rattle.std.specs.Prelude.{All, Option}
use Rattle.std.proofs.lemmas.List.{length-map}
use Rattle.ann_types.specs.Order.{has}
use Rattle.ann_types.specs.Codes.{decode}
use Rattle.ann_types.specs.Index.{Index}
use Rattle.ann_types.specs.Kept.{rule_of}
use Rattle.ann_types.specs.Legal.{pid_end}
use Rattle.ann_types.specs.declared.new_point.NewPoint.{NewPoint}
use Rattle.ann_types.proofs.Sets.{increasing_from_rises, rises_from_increasing, rises_right}
use Rattle.ann_segment.specs.Directory.{Item}
use Rattle.ann_segment.specs.Segment.{SegmentView}
use Rattle.ann_mdelete.specs.Rows.{AreLists, AreRows, repaired_row, repaired_rows}
use Rattle.ann_minsert.specs.Base.{AreListsOf, BaseView}
use Rattle.ann_mlaws.specs.Rows.{AreOldLists, IsBaseFor, MayMerge, gone_of, left_lists, left_vectors, old_items, survivors_of}
use Rattle.ann_mplan.specs.Old.{decoded_items}
use Rattle.ann_mplan.specs.Packing.{rank_in}
use Rattle.ann_mplan.proofs.Packed.{packed_graph}
use Rattle.ann_mplan.proofs.Ranked.{few_ranked}
use Rattle.ann_mphases.specs.Grown.{IsChosen, MayGrow}
use Rattle.ann_mphases.proofs.Counts.{few_rows}

module _ {S : Type 0} (tells : Type 0) (bytes : S → List ℕ) (index : Index) (dead : List ℕ) (old : Option (SegmentView S)) (before : List (List ℕ)) (read : AreOldLists tells bytes index.params old before) where
  -- the lists that were read are a graph, and each row has a vector and a truth value
  pub old_rows : AreRows index.params before (decoded_items index.book (old_items old)) (gone_of dead old)
  old_rows = record {
    graph = read.graph;
    with_vectors = length-map (old_items old) (λ (item : Item). decode index.book item.1) ∙ sym read.count;
    with_values = length-map (old_items old) (λ (item : Item). has dead item.0) ∙ sym read.count;
  }

  vectors_left : length (left_vectors index dead old) ≡ length (survivors_of dead old)
  vectors_left = length-map (survivors_of dead old) (λ row. get_or (decoded_items index.book (old_items old)) row [])

  lists_left : length (left_lists index dead old before) ≡ length (survivors_of dead old)
  lists_left =
      let new : List (List ℕ) = repaired_rows (rule_of index.params) before (decoded_items index.book (old_items old)) (gone_of dead old) 0 (length (gone_of dead old)) in
      length-map new (map (rank_in (survivors_of dead old)))
      ∙ length-map (survivors_of dead old) (repaired_row (rule_of index.params) before (decoded_items index.book (old_items old)) (gone_of dead old))

  graph_left : AreLists index.params (left_lists index dead old before)
  graph_left = packed_graph index.params before (decoded_items index.book (old_items old)) (gone_of dead old) old_rows

  -- the survivors' lists are a graph
  pub lists_of_left : AreListsOf (length (left_vectors index dead old)) (left_lists index dead old before)
  lists_of_left = record {
    count = lists_left ∙ sym vectors_left;
    links = λ row h. (let may = graph_left row h in record { rising = may.rising; inside = may.inside; others = may.others });
  }

  -- the rows are no more than Pids
  few_left : (points : List NewPoint) → MayMerge index old points → length (left_vectors index dead old) + length points ≤ pid_end
  few_left points may =
      let all = few_rows (λ (item : Item). item.0) (λ (x : NewPoint). x.pid) (old_items old) points pid_end may.rising may.old_small may.small in
      let some = few_ranked (gone_of dead old) (length (gone_of dead old)) in
      let rows = length-map (old_items old) (λ (item : Item). has dead item.0) in
      let left = vectors_left in
      omega arith

  -- The survivors and the new points may be put together.
  pub may_grow : (points : List NewPoint) (lists vectors : List (List ℕ)) (d : ℕ) → MayMerge index old points → index.params.d ≡ d → lists ≡ left_lists index dead old before → vectors ≡ left_vectors index dead old → All (λ v. length v ≡ index.params.d) vectors → MayGrow d lists vectors points
  may_grow points lists vectors d may same lists_are vectors_are wide =
      let olds : List ℕ = map (λ (item : Item). item.0) (old_items old) in
      let news : List ℕ = map (λ (x : NewPoint). x.pid) points in
      record {
        graph = subst (λ (v : List (List ℕ)). AreListsOf (length v) lists) (sym vectors_are) (subst (AreListsOf (length (left_vectors index dead old))) (sym lists_are) lists_of_left);
        wide = subst (λ (n : ℕ). All (λ v. length v ≡ n) vectors) same wide;
        rising = increasing_from_rises news (rises_right olds news (rises_from_increasing (olds ++ news) may.rising));
        small = may.small;
        new_wide = subst (λ (n : ℕ). All (λ (x : NewPoint). length x.vector ≡ n) points) same may.vectors;
        few = subst (λ (v : List (List ℕ)). length v + length points ≤ pid_end) (sym vectors_are) (few_left points may);
      }

  some_rows : {A : Type 0} (xs : List A) (ys : List ℕ) → length xs ≡ length ys → xs ≡ [] → ys ≡ []
  some_rows xs [] same none = refl
  some_rows xs (y ∷ ys) same none = let size = ap length none in absurd (omega arith)

  no_rows : {A : Type 0} (xs : List A) (ys : List ℕ) → length xs ≡ length ys → ys ≡ [] → xs ≡ []
  no_rows [] ys same none = refl
  no_rows (x ∷ xs) ys same none = let size = ap length none in absurd (omega arith)

  -- The base is that of the survivors and the new points.
  pub base_for : (points outside : List NewPoint) (base : BaseView) (lists vectors : List (List ℕ)) → lists ≡ left_lists index dead old before → vectors ≡ left_vectors index dead old → IsChosen index lists vectors points base outside → IsBaseFor index (survivors_of dead old) (left_lists index dead old before) (left_vectors index dead old) points base outside
  base_for points outside base lists vectors lists_are vectors_are chosen =
      let is : IsChosen index (left_lists index dead old before) (left_vectors index dead old) points base outside =
      subst (λ (v : List (List ℕ)). IsChosen index (left_lists index dead old before) v points base outside) vectors_are
      (subst (λ (l : List (List ℕ)). IsChosen index l vectors points base outside) lists_are chosen) in
      record {
        sound = is.sound;
        left = λ some. is.left (λ none. some (some_rows (left_vectors index dead old) (survivors_of dead old) vectors_left none));
        first = λ none. is.first (no_rows (left_vectors index dead old) (survivors_of dead old) vectors_left none);
      }
