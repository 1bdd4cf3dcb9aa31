-- Codes of vectors over a codebook (product quantisation; DiskANN, section 3.1).
use Rattle.std.specs.Prelude.{ℕ, ◌/◌, min, List, [], ◌∷◌, ◌++◌, ◌==◌, map, take, drop, length, slice_index_or}
use Rattle.std.specs.List.{position_or_len}
use Rattle.ann_types.specs.Distance.{distance}
use Rattle.ann_types.specs.Graph.{Point, Graph, with_vector}

-- a codebook: for each part of a vector the list of its centroids
abbrev pub Book : Type 0
Book = List (List (List ℕ))

-- the least of some numbers, 0 where there are none
abbrev pub least : List ℕ → ℕ
least [] = 0
least (n ∷ []) = n
least (n ∷ m ∷ ns) = min n (least (m ∷ ns))

-- the number of the centroid that is nearest to this part of a vector, the lowest on a tie
abbrev pub nearest : List (List ℕ) → List ℕ → ℕ
nearest centroids part =
    let nearest_distance : ℕ = least (map (distance part) centroids) in
    position_or_len (λ c. distance part c == nearest_distance) centroids

-- a code of the parts of this width
abbrev pub code_of_parts : ℕ → Book → List ℕ → List ℕ
code_of_parts width [] vector = []
code_of_parts width (centroids ∷ book) vector = nearest centroids (take width vector) ∷ code_of_parts width book (drop width vector)

-- code(x): a vector has as many parts of equal width as the codebook, and its code has for each the number
-- of the nearest centroid
abbrev pub code : Book → List ℕ → List ℕ
code book vector = code_of_parts (length vector / length book) book vector

-- decode joins the centroids that a code names
abbrev pub decode : Book → List ℕ → List ℕ
decode [] code = []
decode (centroids ∷ book) [] = []
decode (centroids ∷ book) (n ∷ code) = slice_index_or centroids n [] ++ decode book code

-- decode(code(x))
abbrev pub decoded : Book → List ℕ → List ℕ
decoded book vector = decode book (code book vector)

-- the guided distance of a query to a point with this vector
abbrev pub guided : Book → List ℕ → List ℕ → ℕ
guided book query vector = distance query (decoded book vector)

-- Dec(G): a graph with each vector x replaced by decode(code(x))
abbrev pub decoded_points : Book → List Point → List Point
decoded_points book points = map (λ (x : Point). with_vector (decoded book x.vector) x) points

abbrev pub decoded_graph : Book → Graph → Graph
decoded_graph book graph = record { entry = graph.entry; points = decoded_points book graph.points }
