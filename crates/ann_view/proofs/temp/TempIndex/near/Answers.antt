use Rattle.std.proofs.Common.{List, sym, ap, ◌∙◌, subst}
use Rattle.std.specs.List.{AllByRecursion, flat_map}
use Rattle.std.specs.List.Sorted.{IsStrictlyIncreasing}
use Rattle.ann_types.specs.Graph.{Graph, pids_of}
use Rattle.ann_types.specs.Fold.{State, all_points}
use Rattle.ann_types.proofs.Sets.{rises_from_increasing, all_map}
use Rattle.ann_table.specs.Node.{graph_of}
use Rattle.ann_frozen.specs.Frozen.{FrozenView}
use Rattle.ann_beam.specs.Desk.{result_of}
use Rattle.ann_beam.specs.Ranking.{Ranked, with_all}
use Rattle.ann_view.specs.Temp.{Temp, state_of}
use Rattle.ann_view.specs.Near.{near_points, AreInside}
use Rattle.ann_view.specs.Search.{near_result}
use Rattle.ann_view.proofs.Joined.{result_is, by_graph}
use Rattle.ann_view.proofs.temp.TempIndex.near.Goals as goal

pub returns : goal.returns
returns c =
    let s : State = state_of c.self.inside.rw c.self.inside.ros c.self.inside.dead c.self.inside.begun in
    let query = c.args.ask.now.vector in
    let width = c.args.ask.now.l in
    let points : Graph → List Ranked = λ (g : Graph). near_points c.self.inside.dead g query width in
    let rising : IsStrictlyIncreasing (pids_of (all_points s)) = subst (λ (t : Temp). IsStrictlyIncreasing (pids_of (all_points t.state))) (sym c.self.view_is) c.requires.ages in
    let frozen : AllByRecursion (AreInside query width) s.ros =
    all_map (AreInside query width) (λ (f : FrozenView). graph_of f.nodes) c.self.inside.ros
    (subst (AllByRecursion (λ (f : FrozenView). AreInside query width (graph_of f.nodes))) c.graphs.ensures c.add_near_frozen.ensures.inside) in
    result_is s query width (rises_from_increasing (pids_of (all_points s)) rising) c.add_near.ensures.inside frozen c.args.ask.now.k (result_of c.args.desk.now) (result_of c.add_near.new.desk) (result_of c.add_near_frozen.new.desk) c.requires.empty c.add_near.ensures.limit c.add_near.ensures.points c.add_near_frozen.ensures.limit
    (c.add_near_frozen.ensures.points
    ∙ ap (λ (t : List FrozenView). with_all (result_of c.add_near.new.desk).limit (flat_map (λ (f : FrozenView). points (graph_of f.nodes)) t) (result_of c.add_near.new.desk).points) c.graphs.ensures
    ∙ ap (λ (t : List Ranked). with_all (result_of c.add_near.new.desk).limit t (result_of c.add_near.new.desk).points) (by_graph points (λ (f : FrozenView). graph_of f.nodes) c.self.inside.ros))
    ∙ ap (λ (t : Temp). near_result t.state c.args.ask.now) c.self.view_is
