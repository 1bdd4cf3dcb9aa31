-- The walk through a graph by guided distances, some points at a time (BeamSearch of DiskANN, section 3.3).
use Rattle.std.specs.Prelude.{ℕ, zero, suc, List, [], ◌∷◌, ◌++◌, not, Option, Some, None, filter, take, length}
use Rattle.ann_types.specs.Order.{has}
use Rattle.ann_types.specs.Walk.{Ground, near}
use Rattle.ann_types.specs.Graph.{Point, Graph, ground}
use Rattle.ann_types.specs.Codes.{Book, decoded_points}

-- the first w of the least points met that weren't visited, or fewer where there are fewer
abbrev pub round : Ground → ℕ → ℕ → List ℕ → List ℕ
round g width w visited = take w (filter (λ p. not (has visited p)) (near g width visited))

-- the visited points with rounds appended until one is empty, at most n rounds
abbrev pub rounds_on : Ground → ℕ → ℕ → ℕ → List ℕ → List ℕ
rounds_on g width w zero visited = visited
rounds_on g width w (suc n) visited = elim (round g width w visited) [
  | [] ↦ visited
  | p ∷ ps ↦ rounds_on g width w n (visited ++ p ∷ ps)
]

-- Visited: the points that rounds of w visit in a graph of this many points, in order of visit
abbrev pub rounds_of : Ground → ℕ → ℕ → ℕ → List ℕ
rounds_of g width w count = rounds_on g width w count []

-- Visited of the rounds of a graph for a query and a width, in Dec(G); an empty graph has none
abbrev pub rounds_from : Book → List Point → List ℕ → ℕ → ℕ → Option ℕ → List ℕ
rounds_from book points query width w None = []
rounds_from book points query width w (Some entry) =
    let known : List Point = decoded_points book points in
    rounds_of (ground known query entry) width w (length points)

abbrev pub rounds : Book → Graph → List ℕ → ℕ → ℕ → List ℕ
rounds book graph query width w = rounds_from book graph.points query width w graph.entry
