-- What is read of a segment that holds a graph stands for the graph's points.
use Rattle.std.proofs.Common.{◌≡◌, ℕ, ◌+◌, ◌<◌, Bool, false, List, [], ◌∷◌, refl, sym, ap, subst, ◌∙◌, arith, map, length, get_or}
use Rattle.std.specs.List.{range_with_len}
use Rattle.std.proofs.lemmas.List.{get_or-map, length-map}
use Rattle.std.proofs.lemmas.List.FromFn.{get_or-map-range_with_len, length-map-range_with_len}
use Rattle.ann_types.specs.Order.{has}
use Rattle.ann_types.specs.Codes.{Book, code, decode, decoded}
use Rattle.ann_types.specs.Graph.{Point, Graph, pids_of}
use Rattle.ann_types.specs.Rows.{pid_at}
use Rattle.ann_types.specs.declared.params.Params.{Params}
use Rattle.ann_types.proofs.Renamed.{Below}
use Rattle.ann_types.proofs.Rowed.{pid_of_at}
use Rattle.ann_block.specs.Node.{NodeFields}
use Rattle.ann_segment.specs.Directory.{Item}
use Rattle.ann_segment.specs.Segment.{SegmentView}
use Rattle.ann_segment.specs.Rows.{links_in}
use Rattle.ann_segment.specs.Text.{items_for, row_of}
use Rattle.ann_segment.specs.Holds.{Holds}
use Rattle.ann_segment.proofs.Holding.{point_at, names_back, below_mapped, holds_count, holds_linked, holds_row}
use Rattle.ann_mdelete.proofs.Points.{StandFor, map_twice}
use Rattle.ann_mplan.specs.Old.{decoded_items, gone_in, lists_in_segment}

module _ {S : Type 0} (params : Params) (book : Book) (bytes : List ℕ) (segment : SegmentView S) (graph : Graph) (h : Holds params book bytes segment graph) (parts : length book ≡ params.m) where
  -- the neighbours in a row are those of its point, as rows
  list_at : (row : ℕ) → row < length graph.points → get_or (lists_in_segment segment bytes params.d) row [] ≡ map (row_of graph.points) (point_at graph row).links
  list_at row below =
      let count = holds_count params book bytes segment graph h in
      get_or-map-range_with_len (links_in segment bytes params.d) 0 (length segment.items) row row [] (omega arith) (omega arith)
      ∙ ap (λ (n : NodeFields). n.neighbours) (holds_row params book bytes segment graph h parts row (omega arith)).node

  -- the codes of the directory are decoded
  pub vectors_are : decoded_items book segment.items ≡ map (λ (x : Point). decoded book x.vector) graph.points
  vectors_are = ap (decoded_items book) h.items ∙ map_twice (λ (x : Point). (x.pid, code book x.vector)) (λ (item : Item). decode book item.1) graph.points

  gone_are : (dead : List ℕ) → gone_in dead segment.items ≡ map (λ (x : Point). has dead x.pid) graph.points
  gone_are dead = ap (gone_in dead) h.items ∙ map_twice (λ (x : Point). (x.pid, code book x.vector)) (λ (item : Item). has dead item.0) graph.points

  -- The rows of the segment stand for the points of the graph.
  pub stands : (dead : List ℕ) → StandFor book graph.points dead (lists_in_segment segment bytes params.d) (decoded_items book segment.items) (gone_in dead segment.items)
  stands dead =
      let count = holds_count params book bytes segment graph h in
      let rises = (holds_linked params book bytes segment graph h).rises in
      record {
        rises = rises;
        count = length-map-range_with_len (links_in segment bytes params.d) 0 (length segment.items) ∙ count;
        coded = vectors_are;
        below = λ row b. subst (Below (length graph.points)) (sym (list_at row b)) (below_mapped graph.points (point_at graph row).links rises (holds_row params book bytes segment graph h parts row (omega arith)).links);
        links = λ row b. ap (map (pid_at graph.points)) (list_at row b) ∙ names_back graph.points (point_at graph row).links rises (holds_row params book bytes segment graph h parts row (omega arith)).links;
        judged = length-map segment.items (λ (item : Item). has dead item.0) ∙ count;
        deleted = λ row b. ap (λ (t : List Bool). get_or t row false) (gone_are dead)
            ∙ get_or-map (λ (x : Point). has dead x.pid) graph.points row (record { pid = 0; tag = 0; vector = []; links = [] }) false b
            ∙ ap (has dead) (sym (pid_of_at graph.points row (record { pid = 0; tag = 0; vector = []; links = [] }) b));
      }
