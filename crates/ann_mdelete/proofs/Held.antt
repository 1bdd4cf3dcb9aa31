-- A piece of a segment that holds a graph has the tags and the neighbours of the graph's points.
use Rattle.std.proofs.Common.{◌≡◌, ◌≢◌, ℕ, ◌+◌, ◌-◌, ◌*◌, ◌≤◌, ◌<◌, List, [], ◌∷◌, None, map, length, take, drop, get_or, min, refl, sym, ap, ap₂, subst, ◌∙◌, arith}
use Rattle.std.specs.Prelude.{Result, Ok, Err, IfErr}
use Rattle.std.specs.List.{slice_range}
use Rattle.std.proofs.lemmas.List.{drop-drop, drop-take, take-take}
use Rattle.std.proofs.lemmas.List.FromFn.{get_or-map-range_with_len}
use Rattle.ann_types.specs.Codes.{Book}
use Rattle.ann_types.specs.Graph.{Point, Graph, pids_of}
use Rattle.ann_types.specs.Rows.{pid_at}
use Rattle.ann_types.specs.declared.params.Params.{Params}
use Rattle.ann_types.proofs.Renamed.{Below}
use Rattle.ann_block.specs.Node.{NodeFields, node_of}
use Rattle.ann_segment.specs.Segment.{SegmentView, node_block}
use Rattle.ann_segment.specs.Rows.{block_at, judged, row_block}
use Rattle.ann_segment.specs.Text.{row_of}
use Rattle.ann_segment.specs.Holds.{Holds}
use Rattle.ann_segment.proofs.Holding.{point_at, names_back, below_mapped, holds_linked, holds_row}
use Rattle.ann_mdelete.specs.Loaded.{IsPiece, LoadedView, node_on, piece_bytes, piece_rows}
use Rattle.ann_mdelete.specs.Refusals.{Counts, HasBadRow, IsBadRow, IsUnloaded}
use Rattle.ann_mdelete.specs.declared.refused.WorkRefused.{WorkRefused}
use Rattle.ann_mdelete.specs.declared.refused.WorkRefused.TheVariants.{Disk, BadSegment, Memory}

-- a part of a part
part_of_part : (xs : List ℕ) (start n at m : ℕ) → at + m ≤ n → slice_range (slice_range xs start (start + n)) at (at + m) ≡ slice_range xs (start + at) (start + at + m)
part_of_part xs start n at m within =
    let whole : (start + n) - start ≡ at + (n - at) = omega arith in
    let rest : n - at ≡ m + (n - at - m) = omega arith in
    ap₂ (λ (k : ℕ) (ys : List ℕ). take k ys) (let e : (at + m) - at ≡ m = omega arith in e)
    (ap (λ k. drop at (take k (drop start xs))) whole ∙ drop-take at (n - at) (drop start xs) ∙ ap (take (n - at)) (drop-drop at start xs))
    ∙ take-take m (n - at) (drop (start + at) xs) (omega arith)
    ∙ ap (λ k. take k (drop (start + at) xs)) (let e : m ≡ (start + at + m) - (start + at) = omega arith in e)

-- block i of what was read is the block of its row
pub page_block : {S : Type 0} (segment : SegmentView S) (bytes page : List ℕ) (first i : ℕ) → i < piece_rows (length segment.items) first → page ≡ piece_bytes segment bytes first → block_at page i ≡ row_block segment bytes (first + i)
page_block segment bytes page first i within told =
    let start : ℕ = 4096 * node_block segment first in
    let n : ℕ = 4096 * piece_rows (length segment.items) first in
    let here : start + 4096 * i ≡ 4096 * node_block segment (first + i) = omega arith in
    ap (λ t. block_at t i) told
    ∙ part_of_part bytes start n (4096 * i) 4096 (omega arith)
    ∙ ap (λ k. slice_range bytes k (k + 4096)) here

-- the tag and the neighbours of a point stand in its row
pub record IsRowIn {S : Type 0} (segment : SegmentView S) (graph : Graph) (first i : ℕ) (piece : LoadedView) : Type 0 where
  pub tag : get_or piece.tags i 0 ≡ (point_at graph (first + i)).tag
  pub links : map (pid_at graph.points) (get_or piece.lists i []) ≡ (point_at graph (first + i)).links
  pub below : Below (length graph.points) (get_or piece.lists i [])

module _ {S : Type 0} (params : Params) (book : Book) (bytes : List ℕ) (segment : SegmentView S) (graph : Graph) (h : Holds params book bytes segment graph) (parts : length book ≡ params.m) where
  pub held_row : (first i : ℕ) (piece : LoadedView) → i < piece_rows (length segment.items) first → IsPiece segment params first (piece_rows (length segment.items) first) piece → piece.page ≡ piece_bytes segment bytes first → IsRowIn segment graph first i piece
  held_row first i piece within is told =
      let rows : ℕ = piece_rows (length segment.items) first in
      let row = holds_row params book bytes segment graph h parts (first + i) (omega arith) in
      let node : node_on params piece.page i ≡ record { tag = (point_at graph (first + i)).tag; vector = (point_at graph (first + i)).vector; neighbours = map (row_of graph.points) (point_at graph (first + i)).links } =
      ap (node_of params.d) (page_block segment bytes piece.page first i within told) ∙ row.node in
      let rises = (holds_linked params book bytes segment graph h).rises in
      let list : get_or piece.lists i [] ≡ map (row_of graph.points) (point_at graph (first + i)).links =
      ap (λ t. get_or t i []) is.listed ∙ get_or-map-range_with_len (λ k. (node_on params piece.page k).neighbours) 0 rows i i [] within (omega arith)
      ∙ ap (λ (n : NodeFields). n.neighbours) node in
      record {
        tag = ap (λ t. get_or t i 0) is.tagged ∙ get_or-map-range_with_len (λ k. (node_on params piece.page k).tag) 0 rows i i 0 within (omega arith)
            ∙ ap (λ (n : NodeFields). n.tag) node;
        links = ap (map (pid_at graph.points)) list ∙ names_back graph.points (point_at graph (first + i)).links rises row.links;
        below = subst (Below (length graph.points)) (sym list) (below_mapped graph.points (point_at graph (first + i)).links rises row.links);
      }

  -- no block is bad
  pub none_bad : (first block : ℕ) (page : List ℕ) → IsBadRow segment params first (piece_rows (length segment.items) first) page block → page ≡ piece_bytes segment bytes first → ⊥
  none_bad first block page bad told =
      let row = holds_row params book bytes segment graph h parts (first + bad.at) (let w = bad.within in omega arith) in
      bad.bad (ap (λ t. judged segment params t (first + bad.at)) (page_block segment bytes page first bad.at bad.within told) ∙ row.sound)
