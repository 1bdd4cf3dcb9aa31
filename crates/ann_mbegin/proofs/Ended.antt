-- The segment that a list's job makes may end its merge.
use Rattle.std.proofs.Common.{◌≡◌, ℕ, ◌+◌, ◌*◌, ◌<◌, true, List, [], ◌∷◌, ◌++◌, not, map, take, refl, sym, ap, ap₂, ◌∙◌, subst, arith, eq-eqb}
use Rattle.std.specs.Prelude.{Option, Some, None, All}
use Rattle.std.specs.List.{AllByRecursion}
use Rattle.std.proofs.lemmas.List.Elements.{All-from_recursion, recursion_from_All}
use Rattle.ann_types.specs.Graph.{Point, pids_of}
use Rattle.ann_types.specs.Index.{Index}
use Rattle.ann_types.specs.Lists.{BasedList, next_pid, upto}
use Rattle.ann_types.specs.Fold.{Begun, State, fold_of, merge_of, new_point, new_points}
use Rattle.ann_types.specs.Legal.{IsLegal, names_segment}
use Rattle.ann_types.specs.Merge.{merged, survivors}
use Rattle.ann_types.specs.Order.{has}
use Rattle.ann_types.specs.declared.new_point.NewPoint.{NewPoint}
use Rattle.ann_types.specs.declared.params.Params.{Params}
use Rattle.ann_types.proofs.Alive.{frozen_points as points_in}
use Rattle.ann_types.proofs.Sets.{all_append, all_filter, all_map, all_of_map}
use Rattle.ann_laws.proofs.Newer.{next_upto}
use Rattle.ann_frozen.specs.Frozen.{FrozenView}
use Rattle.ann_table.specs.Node.{graph_of}
use Rattle.ann_segment.specs.Directory.{Item}
use Rattle.ann_segment.specs.Holds.{Holds}
use Rattle.ann_segment.specs.Segment.{SegmentView}
use Rattle.ann_view.specs.View.{IndexView, index_of}
use Rattle.ann_view.specs.Stands.{StandsFor}
use Rattle.ann_view.specs.Steps.{MayEnd}
use Rattle.ann_view.proofs.Ending.{may_end_from}
use Rattle.ann_mlaws.specs.Plan.{IsLti}
use Rattle.ann_mlaws.specs.Rows.{old_items}
use Rattle.ann_merge.specs.Gathered.{all_pids, frozen_points, new_of}
use Rattle.ann_merge.specs.Job.{IsMergeOf, Order, index_of as index_for}
use Rattle.ann_named.specs.Named.{AreBelow}
use Rattle.ann_mbegin.specs.Begun.{IsJobOf}
use Rattle.ann_mbegin.specs.Ended.{MayEndMerge}
use Rattle.ann_mbegin.proofs.Before.{taken_before}

-- the points of frozen graphs are those of the graphs that they are
pub points_of_graphs : (frozen : List FrozenView) → frozen_points frozen ≡ points_in (map (λ (f : FrozenView). graph_of f.nodes) frozen)
points_of_graphs [] = refl
points_of_graphs (f ∷ frozen) = ap (λ t. (graph_of f.nodes).points ++ t) (points_of_graphs frozen)

old_below : {S : Type 0} (bound : ℕ) (old : Option (SegmentView S)) → AreBelow bound old → AllByRecursion (λ p. p < bound) (map (λ (item : Item). item.0) (old_items old))
old_below bound None below = tt
old_below bound (Some segment) below =
    all_map (λ p. p < bound) (λ (item : Item). item.0) segment.items (recursion_from_All (λ (item : Item). item.0 < bound) segment.items below)

module _ {S : Type 0} (tells : Type 0) (bytes : S → List ℕ) (index : Index) (h : BasedList) (order : Order S) (segment : SegmentView S) (l : IsLegal index h) (job : IsJobOf index h order) (is : IsMergeOf tells bytes order segment) where
  -- the Pids from this one on are those of points since the Begin
  abbrev bound : ℕ
  bound = next_pid (upto h job.begun.position)

  abbrev state : State
  state = fold_of index h

  frozen_are : frozen_points order.frozen ≡ points_in (take job.begun.frozen state.ros)
  frozen_are = points_of_graphs order.frozen ∙ ap points_in job.frozen

  -- ---- its Pids

  pids_below : AllByRecursion (λ p. p < bound) (map (λ (item : Item). item.0) segment.items)
  pids_below =
      subst (AllByRecursion (λ p. p < bound)) (sym is.pids)
      (all_filter (λ p. p < bound) (λ p. not (has order.gone p)) (all_pids (old_items order.old) order.frozen)
      (all_append (λ p. p < bound) (map (λ (item : Item). item.0) (old_items order.old)) (pids_of (frozen_points order.frozen))
      (old_below bound order.old job.older)
      (subst (λ (ps : List Point). AllByRecursion (λ p. p < bound) (pids_of ps)) (sym frozen_are) (taken_before index h l job.begun job.open_now))))

  items_below : All (λ (x : Item). x.0 < bound) segment.items
  items_below =
      All-from_recursion (λ (x : Item). x.0 < bound) segment.items
      (all_of_map (λ p. p < bound) (λ (x : Item). x.0) segment.items pids_below)

  below_next : All (λ (x : Item). x.0 < next_pid h) segment.items
  below_next k d inside = let less = items_below k d inside in let first = next_upto h job.begun.position in omega arith

  -- ---- the End

  names : names_segment segment.number state.begun ≡ true
  names =
      subst (λ (o : Option Begun). names_segment segment.number o ≡ true) (sym job.open_now)
      (eq-eqb segment.number (2 * job.begun.position + 1) (is.numbered ∙ job.numbered))

  code_bytes : segment.m ≡ index.params.m
  code_bytes = is.code_bytes ∙ ap (λ (p : Params). p.m) job.of_index.0

  views_end : (view : IndexView S) → index_of view ≡ index → StandsFor view h → MayEnd view segment
  views_end view same stands =
      may_end_from view h job.begun segment stands
      (subst (λ (i : Index). IsLegal i h) (sym same) l)
      (subst (λ (i : Index). (fold_of i h).begun ≡ Some job.begun) (sym same) job.open_now)
      (code_bytes ∙ ap (λ (i : Index). i.params.m) (sym same))
      items_below

  -- ---- its graph

  same_index : index_for order ≡ index
  same_index = ap₂ (λ params book. let i : Index = record { params = params; book = book } in i) job.of_index.0 job.of_index.1

  new_are : new_of order.gone order.frozen ≡ new_points state job.begun
  new_are = ap₂ (λ (gone : List ℕ) (points : List Point). map new_point (survivors gone points)) job.gone frozen_are

  graph_is : merged index state.lti (new_of order.gone order.frozen) order.gone ≡ merge_of index state state.begun
  graph_is =
      ap₂ (λ (new : List NewPoint) (gone : List ℕ). merged index state.lti new gone) new_are job.gone
      ∙ ap (merge_of index state) (sym job.open_now)

  holds_merge : tells → IsLti bytes index order.old state.lti → Holds index.params index.book (bytes segment.seal) segment (merge_of index state state.begun)
  holds_merge told held =
      subst (Holds index.params index.book (bytes segment.seal) segment) graph_is
      (subst (λ (i : Index). Holds i.params i.book (bytes segment.seal) segment (merged i state.lti (new_of order.gone order.frozen) order.gone)) same_index
      (is.holds told state.lti (subst (λ (i : Index). IsLti bytes i order.old state.lti) (sym same_index) held)))

  pub may_end_merge : MayEndMerge tells bytes index h order segment
  may_end_merge = record {
    follows = λ by. names;
    views = views_end;
    below = below_next;
    holds = holds_merge;
  }
