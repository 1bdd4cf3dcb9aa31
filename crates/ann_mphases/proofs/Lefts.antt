-- What the Delete phase leaves: lists that may be named by ranks, and vectors.
use Rattle.std.proofs.Common.{◌≡◌, ℕ, ◌+◌, ◌≤◌, ◌<◌, Bool, true, not, List, [], sym, ap, subst, ◌∙◌, arith, map, length, get_or}
use Rattle.std.specs.Prelude.{All, Some}
use Rattle.std.specs.List.{range_with_len}
use Rattle.std.proofs.lemmas.List.{get_or-map, length-map}
use Rattle.std.proofs.lemmas.List.Elements.{All-from_recursion, All-map, All-weaker}
use Rattle.ann_types.specs.Order.{has}
use Rattle.ann_types.specs.Codes.{Book, decode}
use Rattle.ann_types.specs.Index.{Index}
use Rattle.ann_types.specs.Kept.{rule_of}
use Rattle.ann_types.specs.declared.params.Params.{Params}
use Rattle.ann_types.proofs.Graphs.{has_all}
use Rattle.ann_types.proofs.Renamed.{below_filter}
use Rattle.ann_types.proofs.Sets.{filter_has, has_filter}
use Rattle.ann_segment.specs.Directory.{Item}
use Rattle.ann_segment.specs.Segment.{SegmentView}
use Rattle.ann_mdelete.specs.Rows.{AreRows, gone_rows, left_rows, repaired_row, repaired_rows}
use Rattle.ann_mdelete.proofs.Gone.{has_range}
use Rattle.ann_mdelete.proofs.Left.{repaired_left}
use Rattle.ann_mdelete.proofs.Points.{below_range}
use Rattle.ann_mlaws.specs.Rows.{AreOldLists}
use Rattle.ann_mplan.specs.Old.{decoded_items, gone_in}
use Rattle.ann_mplan.specs.Packing.{IsRanked}
use Rattle.ann_mplan.proofs.Packed.{left_inside, survivor_in}
use Rattle.ann_mplan.proofs.Rising.{has_at}
use Rattle.ann_mphases.specs.Left.{IsLeft, IsPacked}
use Rattle.ann_mphases.specs.declared.left.Left.{Left}

-- a survivor of a piece is one of all
survives_all : (gone : List Bool) (first count row : ℕ) → first + count ≤ length gone → has (left_rows gone first count) row ≡ true → has (left_rows gone 0 (length gone)) row ≡ true
survives_all gone first count row within there =
    let both = has_filter (λ p. not (has (gone_rows gone) p)) (range_with_len first count) row there in
    let below : row < length gone = has_all (λ r. r < length gone) (range_with_len first count) row (below_range first count (length gone) within) both.0 in
    filter_has (λ p. not (has (gone_rows gone) p)) (range_with_len 0 (length gone)) row (has_range (length gone) 0 row (omega arith) (omega arith)) both.1

module _ (params : Params) (lists vectors : List (List ℕ)) (gone : List Bool) (w : AreRows params lists vectors gone) where
  pub ranked_each : (first count : ℕ) (piece : List (List ℕ)) → first + count ≤ length gone → piece ≡ repaired_rows (rule_of params) lists vectors gone first count → (i : ℕ) → i < length piece → IsRanked (left_rows gone 0 (length gone)) (get_or piece i [])
  ranked_each first count piece within is i h =
      let rows : List ℕ = left_rows gone first count in
      let all : List ℕ = left_rows gone 0 (length gone) in
      let new : ℕ → List ℕ = repaired_row (rule_of params) lists vectors gone in
      let size = ap length is ∙ length-map rows new in
      let here : i < length rows = omega arith in
      let row : ℕ = get_or rows i 0 in
      let at : get_or piece i [] ≡ new row = ap (λ (t : List (List ℕ)). get_or t i []) is ∙ get_or-map new rows i 0 [] here in
      let there : has all row ≡ true = survives_all gone first count row within (has_at rows i here) in
      let below = (survivor_in gone row there).below in
      let same = w.with_values in
      let may = (repaired_left params lists vectors gone row w (omega arith)).may in
      subst (IsRanked all) (sym at) (record {
        few = (let few = may.few in let limit = params.in_limits.neighbours.1 in omega arith);
        inside = All-from_recursion (λ r. has all r ≡ true) (new row) (left_inside params lists vectors gone w row there);
      })

-- ---- the rows that survive

pub left_below : (gone : List Bool) (n : ℕ) → All (λ row. row < n) (left_rows gone 0 n)
left_below gone n =
    All-from_recursion (λ row. row < n) (left_rows gone 0 n)
    (below_filter n (λ q. not (has (gone_rows gone) q)) (range_with_len 0 n) (below_range 0 n n (omega arith)))

-- ---- all that the phase leaves

-- the vectors of rows are as long as those of all
wide_left : (book : Book) (d : ℕ) (items : List Item) (gone : List Bool) → length gone ≡ length items → All (λ (item : Item). length (decode book item.1) ≡ d) items → All (λ v. length v ≡ d) (map (λ row. get_or (decoded_items book items) row []) (left_rows gone 0 (length gone)))
wide_left book d items gone same wide =
    All-map (λ v. length v ≡ d) (λ row. get_or (decoded_items book items) row []) (left_rows gone 0 (length gone))
    (All-weaker (λ row. row < length gone) (λ row. length (get_or (decoded_items book items) row []) ≡ d)
    (λ row h. let here : row < length items = omega arith in
    ap length (get_or-map (λ (item : Item). decode book item.1) items row (0, []) [] here) ∙ wide row (0, []) here)
    (left_rows gone 0 (length gone)) (left_below gone (length gone)))

pub left_is : {S : Type 0} (tells : Type 0) (bytes : S → List ℕ) (index : Index) (dead : List ℕ) (segment : SegmentView S) (lists vectors : List (List ℕ)) (gone : List Bool) (left : Left) → AreOldLists tells bytes index.params (Some segment) lists → gone ≡ gone_in dead segment.items → vectors ≡ decoded_items index.book segment.items → All (λ (item : Item). length (decode index.book item.1) ≡ index.params.d) segment.items → IsPacked (record { lists = lists; vectors = vectors; gone = gone; params = index.params }) left → IsLeft tells bytes index dead (Some segment) left
left_is tells bytes index dead segment lists vectors gone left read gone_are vectors_are wide packed =
    let is : IsPacked (record { lists = lists; vectors = decoded_items index.book segment.items; gone = gone_in dead segment.items; params = index.params }) left =
    subst (λ (v : List (List ℕ)). IsPacked (record { lists = lists; vectors = v; gone = gone_in dead segment.items; params = index.params }) left) vectors_are
    (subst (λ (g : List Bool). IsPacked (record { lists = lists; vectors = vectors; gone = g; params = index.params }) left) gone_are packed) in
    record {
      before = lists;
      read = read;
      survivors = is.survivors;
      lists = is.lists;
      vectors = is.vectors;
      wide = subst (All (λ v. length v ≡ index.params.d)) (sym is.vectors)
          (wide_left index.book index.params.d segment.items (gone_in dead segment.items) (length-map segment.items (λ (item : Item). has dead item.0)) wide);
    }
