-- The rows that survive are those of the points that the Delete phase leaves of the graph that the old segment holds.
use Rattle.std.proofs.Common.{◌≡◌, ℕ, Bool, List, refl, sym, ap, subst, ◌∙◌, map}
use Rattle.std.specs.Prelude.{Option, None, Some}
use Rattle.std.proofs.lemmas.List.{length-map}
use Rattle.ann_types.specs.Codes.{decode, decoded, code}
use Rattle.ann_types.specs.Fold.{new_point}
use Rattle.ann_types.specs.Graph.{Point, Graph, empty_graph, pids_of}
use Rattle.ann_types.specs.Index.{Index, IsBookOf}
use Rattle.ann_types.specs.Merge.{delete_phase}
use Rattle.ann_types.specs.Order.{has}
use Rattle.ann_types.specs.Rows.{pid_at}
use Rattle.ann_segment.specs.Directory.{Item}
use Rattle.ann_segment.specs.Segment.{SegmentView}
use Rattle.ann_mdelete.specs.Rows.{AreRows}
use Rattle.ann_mdelete.proofs.Points.{StandFor, map_twice}
use Rattle.ann_mplan.specs.Old.{decoded_items, gone_in}
use Rattle.ann_mplan.proofs.Packed.{packed_links, packed_points, packed_vectors}
use Rattle.ann_mplan.proofs.Standing.{stands}
use Rattle.ann_mpatch.specs.Phase.{point_at}
use Rattle.ann_mlaws.specs.Plan.{IsLti}
use Rattle.ann_mlaws.specs.Rows.{AreOldLists, left_lists, left_vectors, old_items, survivors_of}

-- the points that a merge's Delete phase leaves of a long-term graph
abbrev pub left_of : Index → List ℕ → Graph → List Point
left_of index dead lti = delete_phase index lti.points dead

-- they are the surviving rows by the Pids
pub record AreLeft {S : Type 0} (index : Index) (dead : List ℕ) (old : Option (SegmentView S)) (lists : List (List ℕ)) (lti : Graph) : Type 0 where
  pub links : map (λ (x : Point). x.links) (left_of index dead lti) ≡ map (map (pid_at (left_of index dead lti))) (left_lists index dead old lists)
  pub coded : map (λ (x : Point). decoded index.book x.vector) (left_of index dead lti) ≡ left_vectors index dead old
  pub bare : map new_point (left_of index dead lti) ≡ map (λ row. new_point (point_at lti row)) (survivors_of dead old)
  pub pids : pids_of lti.points ≡ map (λ (item : Item). item.0) (old_items old)

-- without a segment there is none
none_left : {S : Type 0} (index : Index) (dead : List ℕ) (lists : List (List ℕ)) → AreLeft {S = S} index dead None lists empty_graph
unfolding delete_phase
none_left index dead lists = record { links = refl; coded = refl; bare = refl; pids = refl }

module _ {S : Type 0} (tells : Type 0) (bytes : S → List ℕ) (index : Index) (book : IsBookOf index.params index.book) (dead : List ℕ) (lists : List (List ℕ)) (lti : Graph) (told : tells) where
  pub are_left : (old : Option (SegmentView S)) → AreOldLists tells bytes index.params old lists → IsLti bytes index old lti → AreLeft index dead old lists lti
  are_left None read is = subst (AreLeft {S = S} index dead None lists) (sym is) (none_left index dead lists)
  are_left (Some segment) read held =
      let items : List Item = segment.items in
      let vectors : List (List ℕ) = decoded_items index.book items in
      let gone : List Bool = gone_in dead items in
      let rows : AreRows index.params lists vectors gone = record {
        graph = read.graph;
        with_vectors = length-map items (λ (item : Item). decode index.book item.1) ∙ sym read.count;
        with_values = length-map items (λ (item : Item). has dead item.0) ∙ sym read.count;
      } in
      let stand : StandFor index.book lti.points dead lists vectors gone =
      subst (λ (t : List (List ℕ)). StandFor index.book lti.points dead t vectors gone) (sym (read.told told)) (stands index.params index.book (bytes segment.seal) segment lti held book.parts dead) in
      record {
        links = packed_links index lti.points dead lists vectors gone rows stand;
        coded = packed_vectors index lti.points dead lists vectors gone rows stand;
        bare = packed_points index lti.points dead lists vectors gone rows stand;
        pids = sym (ap (map (λ (item : Item). item.0)) held.items ∙ map_twice (λ (x : Point). (x.pid, code index.book x.vector)) (λ (item : Item). item.0) lti.points);
      }
