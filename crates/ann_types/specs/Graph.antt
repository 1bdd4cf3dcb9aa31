-- A graph: an entry, and a finite map from Pid to a tag, a vector and a set of neighbours.
use Rattle.std.specs.Prelude.{◌≡◌, ◌≢◌, ℕ, ◌≤◌, Bool, IsTrue, List, [], ◌∷◌, ◌==◌, Option, Some, None, MatchOption, All, map, length, if◌then◌else◌}
use Rattle.std.specs.List.Sorted.{IsStrictlyIncreasing}
use Rattle.ann_types.specs.Distance.{distance}
use Rattle.ann_types.specs.Order.{has}
use Rattle.ann_types.specs.Walk.{Ground, near, visited_of}
use Rattle.ann_types.specs.declared.params.Params.{Params}

-- a point: its number, the client's name for it, its vector and its set of neighbours (its out-neighbours,
-- Nout)
pub record Point : Type 0 where
  pub pid : ℕ
  pub tag : ℕ
  pub vector : List ℕ
  pub links : List ℕ

-- a point with another vector
abbrev pub with_vector : List ℕ → Point → Point
with_vector vector x = record x { vector = vector }

-- the map is the list of its points in order of Pid
pub record Graph : Type 0 where
  pub entry : Option ℕ
  pub points : List Point

abbrev pub empty_graph : Graph
empty_graph = record { entry = None; points = [] }

abbrev pub is_empty : Graph → Bool
is_empty graph = length graph.points == 0

abbrev pub pids_of : List Point → List ℕ
pids_of points = map (λ x. x.pid) points

-- the vector, the neighbours and the tag at a Pid
abbrev pub vector_of : List Point → ℕ → List ℕ
vector_of [] p = []
vector_of (x ∷ xs) p = if x.pid == p then x.vector else vector_of xs p

abbrev pub links_of : List Point → ℕ → List ℕ
links_of [] p = []
links_of (x ∷ xs) p = if x.pid == p then x.links else links_of xs p

abbrev pub tag_of : List Point → ℕ → ℕ
tag_of [] p = 0
tag_of (x ∷ xs) p = if x.pid == p then x.tag else tag_of xs p

-- what a list of points and an entry must be to be a graph: Pids rise; each point's neighbours are a set
-- of other points; the entry is a point, and is none exactly where there is no point
pub record IsGraph (graph : Graph) : Type 0 where
  pub pids : IsStrictlyIncreasing (pids_of graph.points)
  pub sets : All (λ x. IsStrictlyIncreasing x.links) graph.points
  pub others : All (λ x. All (λ p. IsTrue (has (pids_of graph.points) p) × (p ≢ x.pid)) x.links) graph.points
  pub entry : MatchOption graph.entry (graph.points ≡ []) (λ e. IsTrue (has (pids_of graph.points) e))

-- a graph of an index: vectors of d components, and at most R neighbours of each point
pub record IsGraphOf (params : Params) (graph : Graph) : Type 0 where
  pub sound : IsGraph graph
  pub vectors : All (λ x. length x.vector ≡ params.d) graph.points
  pub degrees : All (λ x. length x.links ≤ params.r) graph.points

-- how far a point is from a query
abbrev pub far_from : List Point → List ℕ → ℕ → ℕ
far_from points query p = distance query (vector_of points p)

-- how far two points are from each other
abbrev pub apart_in : List Point → ℕ → ℕ → ℕ
apart_in points x y = distance (vector_of points x) (vector_of points y)

-- what a walk for a query sees of these points from an entry
abbrev pub ground : List Point → List ℕ → ℕ → Ground
ground points query entry = record { entry = entry; links = links_of points; far = far_from points query }

-- Visited of the walk of a graph for a query and a width; an empty graph has the empty walk
abbrev pub visited_from : List Point → List ℕ → ℕ → Option ℕ → List ℕ
visited_from points query width None = []
visited_from points query width (Some entry) = visited_of (ground points query entry) width (length points)

abbrev pub visited : Graph → List ℕ → ℕ → List ℕ
visited graph query width = visited_from graph.points query width graph.entry

-- Near of that walk
abbrev pub near_from : List Point → List ℕ → ℕ → Option ℕ → List ℕ
near_from points query width None = []
near_from points query width (Some entry) = near (ground points query entry) width (visited_from points query width (Some entry))

abbrev pub near_to : Graph → List ℕ → ℕ → List ℕ
near_to graph query width = near_from graph.points query width graph.entry
