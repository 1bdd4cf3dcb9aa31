-- A graph with one more point (Insert of FreshDiskANN).
use Rattle.std.specs.Prelude.{ℕ, List, [], ◌∷◌, ◌++◌, Some, map, unwrap_or, if◌then◌else◌}
use Rattle.ann_types.specs.Order.{has, ascending}
use Rattle.ann_types.specs.Kept.{Rule, rule_of, kept, within}
use Rattle.ann_types.specs.Graph.{Point, Graph, apart_in, visited}
use Rattle.ann_types.specs.declared.params.Params.{Params}

-- a point without neighbours
abbrev pub alone : ℕ → ℕ → List ℕ → Point
alone n tag vector = record { pid = n; tag = tag; vector = vector; links = [] }

-- the point with n among its neighbours
abbrev pub linked_back : Rule → (ℕ → ℕ → ℕ) → ℕ → Point → Point
linked_back rule apart n x = record x { links = within rule apart x.pid (ascending (n ∷ x.links)) }

-- Put(G, n, tag, x): n is linked to what it keeps of the points that a walk for x visits, each of them is
-- linked back, and all other points stay; n is the entry of a graph that was empty
unfoldable pub put : Params → Graph → ℕ → ℕ → List ℕ → Graph
put params graph n tag vector =
    let rule : Rule = rule_of params in
    let apart : ℕ → ℕ → ℕ = apart_in (graph.points ++ alone n tag vector ∷ []) in
    let out : List ℕ = kept rule apart n (visited graph vector params.l_build) in
    let new : Point = record { pid = n; tag = tag; vector = vector; links = out } in
    record {
      entry = Some (unwrap_or graph.entry n);
      points = map (λ x. if has out x.pid then linked_back rule apart n x else x) graph.points ++ new ∷ [];
    }
