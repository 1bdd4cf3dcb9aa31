-- The merged graph is a graph of the index, and its Pids and tags fit a segment.
use Rattle.std.proofs.Common.{◌≡◌, ℕ, ◌<◌, ◌^◌, List, ◌++◌, not, map, length, sym, ap, subst, ◌∙◌, arith}
use Rattle.std.specs.Prelude.{Option, None, Some, All}
use Rattle.std.specs.List.{AllByRecursion}
use Rattle.std.proofs.lemmas.List.Elements.{All-from_recursion, recursion_from_All}
use Rattle.ann_types.specs.Codes.{code}
use Rattle.ann_types.specs.Graph.{Point, Graph, pids_of, IsGraphOf}
use Rattle.ann_types.specs.Legal.{pid_end}
use Rattle.ann_types.specs.Lists.{names_of}
use Rattle.ann_types.specs.Merge.{survivors}
use Rattle.ann_types.specs.Order.{has}
use Rattle.ann_types.specs.declared.new_point.NewPoint.{NewPoint}
use Rattle.ann_types.proofs.Graphs.{all_two, empty_is_graph}
use Rattle.ann_types.proofs.Merges.{merged_graph, new_pids}
use Rattle.ann_types.proofs.Named.{name, names_merged, new_names}
use Rattle.ann_types.proofs.Sets.{Rises, all_append, all_filter, all_map, all_of_map, rises_from_increasing}
use Rattle.ann_segment.specs.Directory.{Item}
use Rattle.ann_segment.specs.Holds.{AreNumbered}
use Rattle.ann_segment.specs.Segment.{SegmentView}
use Rattle.ann_mdelete.proofs.Points.{map_twice}
use Rattle.ann_mlaws.specs.Plan.{IsLti}
use Rattle.ann_mlaws.specs.Rows.{old_items}
use Rattle.ann_merge.specs.Gathered.{new_of}
use Rattle.ann_merge.specs.Job.{IsOrder, Order, index_of, merged_for}
use Rattle.ann_merge.proofs.Pids.{new_all, rising_with_new}

-- a name has a Pid of four bytes, and a tag of eight
abbrev IsShort : ℕ × ℕ → Type 0
IsShort e = (e.1 < 2 ^ 32) × (e.0 < 2 ^ 64)

module _ {S : Type 0} (bytes : S → List ℕ) (order : Order S) (is : IsOrder order) (vectors : All (λ (x : NewPoint). length x.vector ≡ order.params.d) (new_of order.gone order.frozen)) (tags : All (λ (x : NewPoint). x.tag < 2 ^ 64) (new_of order.gone order.frozen)) (lti : Graph) (held : IsLti bytes (index_of order) order.old lti) where
  abbrev new : List NewPoint
  new = new_of order.gone order.frozen

  -- ---- the old graph

  sound_in : (old : Option (SegmentView S)) → IsLti bytes (index_of order) old lti → IsGraphOf order.params lti
  sound_in None is_empty = subst (IsGraphOf order.params) (sym is_empty) (empty_is_graph order.params)
  sound_in (Some segment) held = held.sound

  pids_in : (old : Option (SegmentView S)) → IsLti bytes (index_of order) old lti → map (λ (item : Item). item.0) (old_items old) ≡ pids_of lti.points
  pids_in None is_empty = sym (ap (λ (g : Graph). pids_of g.points) is_empty)
  pids_in (Some segment) held =
      ap (map (λ (item : Item). item.0)) held.items
      ∙ map_twice (λ (x : Point). (x.pid, code order.book.book x.vector)) (λ (item : Item). item.0) lti.points

  numbers_in : (old : Option (SegmentView S)) → IsLti bytes (index_of order) old lti → AreNumbered lti.points
  numbers_in None is_empty = subst (λ (g : Graph). AreNumbered g.points) (sym is_empty) (λ k d h. absurd (omega arith))
  numbers_in (Some segment) held = held.numbers

  -- ---- the merged graph

  rises : Rises (pids_of lti.points ++ new_pids new)
  rises =
      subst (λ (t : List ℕ). Rises (t ++ new_pids new)) (pids_in order.old held)
      (rises_from_increasing (map (λ (item : Item). item.0) (old_items order.old) ++ new_pids new) (rising_with_new (old_items order.old) order.frozen order.gone is.rising))

  pub merged_sound : IsGraphOf order.params (merged_for order lti)
  merged_sound =
      merged_graph (index_of order) lti new order.gone (sound_in order.old held) rises
      (recursion_from_All (λ (x : NewPoint). length x.vector ≡ order.params.d) new vectors)

  old_short : AllByRecursion IsShort (names_of (survivors order.gone lti.points))
  old_short =
      all_map IsShort name (survivors order.gone lti.points)
      (all_filter (λ (x : Point). IsShort (name x)) (λ (x : Point). not (has order.gone x.pid)) lti.points
      (recursion_from_All (λ (x : Point). IsShort (name x)) lti.points (numbers_in order.old held)))

  new_short : AllByRecursion IsShort (new_names new)
  new_short =
      let small : All (λ (x : NewPoint). x.pid < pid_end) new = new_all (old_items order.old) order.frozen (λ p. p < pid_end) order.gone is.small in
      all_map IsShort (λ (x : NewPoint). (x.tag, x.pid)) new
      (all_two (λ (x : NewPoint). x.pid < pid_end) (λ (x : NewPoint). x.tag < 2 ^ 64) (λ (x : NewPoint). (x.pid < 2 ^ 32) × (x.tag < 2 ^ 64)) new
      (λ x low short. (omega arith, short))
      (recursion_from_All (λ (x : NewPoint). x.pid < pid_end) new small)
      (recursion_from_All (λ (x : NewPoint). x.tag < 2 ^ 64) new tags))

  pub merged_numbers : AreNumbered (merged_for order lti).points
  merged_numbers =
      All-from_recursion (λ (x : Point). IsShort (name x)) (merged_for order lti).points
      (all_of_map IsShort name (merged_for order lti).points
      (subst (AllByRecursion IsShort) (sym (names_merged (index_of order) lti new order.gone))
      (all_append IsShort (names_of (survivors order.gone lti.points)) (new_names new) old_short new_short)))
