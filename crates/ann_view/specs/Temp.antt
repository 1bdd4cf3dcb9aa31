-- The part of an index that is in memory: the graph that takes new points, the frozen graphs, the deleted points and the
-- open merge.
use Rattle.std.specs.Prelude.{◌≡◌, ◌≤◌, ◌<◌, ℕ, List, [], ◌∷◌, ◌++◌, Option, MatchOption, map, length}
use Rattle.std.specs.List.{AllByRecursion}
use Rattle.ann_types.specs.Graph.{empty_graph}
use Rattle.ann_types.specs.Fold.{Begun, State}
use Rattle.ann_types.specs.declared.params.Params.{Params}
use Rattle.ann_dead.specs.Pids.{IsAscending}
use Rattle.ann_types.specs.Put.{put}
use Rattle.ann_table.specs.Node.{Node, graph_of}
use Rattle.ann_table.specs.Table.{TableView}
use Rattle.ann_frozen.specs.Frozen.{FrozenView, frozen_of}

-- the parameters, and the state without its long-term graph, which isn't in memory
pub record Temp : Type 0 where
  pub params : Params
  pub state : State

abbrev pub with_state : Temp → State → Temp
with_state temp state = record temp { state = state }

-- the state of a table, frozen graphs, deleted points and an open merge
abbrev pub state_of : TableView → List FrozenView → List ℕ → Option Begun → State
state_of rw ros dead begun =
    record { rw = graph_of rw.nodes; ros = map (λ (f : FrozenView). graph_of f.nodes) ros; lti = empty_graph; dead = dead; begun = begun }

-- the open merge takes no more frozen graphs than there are
abbrev pub IsOpenOver : Option Begun → ℕ → Type 0
IsOpenOver begun count = MatchOption begun (Unit {0}) (λ b. b.frozen ≤ count)

-- what is true of every such part: there is no long-term graph, a graph that takes points isn't full, and each point is
-- deleted once
pub record IsTemp (temp : Temp) : Type 0 where
  pub lti : temp.state.lti ≡ empty_graph
  pub few : length temp.state.rw.points < temp.params.freeze_at
  pub once : IsAscending temp.state.dead
  pub merge : IsOpenOver temp.state.begun (length temp.state.ros)

-- how it is kept: all graphs have the parameters, and the table isn't full
pub record AreKept (params : Params) (rw : TableView) (ros : List FrozenView) (dead : List ℕ) (begun : Option Begun) : Type 0 where
  pub table : rw.params ≡ params
  pub graphs : AllByRecursion (λ (f : FrozenView). f.params ≡ params) ros
  pub few : length rw.nodes < params.freeze_at
  pub once : IsAscending dead
  pub merge : IsOpenOver begun (length ros)

-- frozen graphs with one more: a table with a point more, as it freezes
pub record IsFrozenWith (table : TableView) (pid tag : ℕ) (vector : List ℕ) (ros ros' : List FrozenView) : Type 0 where
  pub full : List Node
  pub point : graph_of full ≡ put table.params (graph_of table.nodes) pid tag vector
  pub added : ros' ≡ ros ++ (record { params = table.params; nodes = frozen_of full }) ∷ []
