-- The walk through a graph to the points near a query (GreedySearch of DiskANN, section 2.1, Algorithm 1).
use Rattle.std.specs.Prelude.{ℕ, zero, suc, List, [], ◌∷◌, ◌++◌, not, Option, Some, None, flat_map, find}
use Rattle.ann_types.specs.Order.{top, has}

-- what a walk sees: the entry, each point's neighbours, and how far each point is from the query
pub record Ground : Type 0 where
  pub entry : ℕ
  pub links : ℕ → List ℕ
  pub far : ℕ → ℕ

-- Met: the entry and the neighbours of every visited point
abbrev pub met : Ground → List ℕ → List ℕ
met g visited = g.entry ∷ flat_map g.links visited

-- Near: the least of all points met, as many as the walk is wide
abbrev pub near : Ground → ℕ → List ℕ → List ℕ
near g width visited = top g.far width (met g visited)

-- Next: the least point of these that wasn't visited, or none
abbrev pub next : Ground → ℕ → List ℕ → Option ℕ
next g width visited = find (λ p. not (has visited p)) (near g width visited)

-- the visited points with `Next` appended until there is none, at most n times
abbrev pub walk_on : Ground → ℕ → ℕ → List ℕ → List ℕ
walk_on g width zero visited = visited
walk_on g width (suc n) visited = elim (next g width visited) [
  | None ↦ visited
  | Some p ↦ walk_on g width n (visited ++ p ∷ [])
]

-- Visited: the points that a walk visits in a graph of this many points, in order of visit; in a
-- graph they differ, so as many turns as points leave none out
abbrev pub visited_of : Ground → ℕ → ℕ → List ℕ
visited_of g width count = walk_on g width count []
