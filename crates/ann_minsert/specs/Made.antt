-- The base that the first new points make, where none survives.
use Rattle.std.specs.Prelude.{ℕ, List, [], map}
use Rattle.ann_types.specs.Codes.{Book, decoded_graph}
use Rattle.ann_types.specs.Merge.{base_of}
use Rattle.ann_types.specs.declared.params.Params.{Params}
use Rattle.ann_types.specs.declared.new_point.NewPoint.{NewPoint}
use Rattle.ann_table.specs.Node.{Node}
use Rattle.ann_minsert.specs.Base.{BaseView, StandsFor}

-- a base stands for the one that the definition makes of new points where none survives
abbrev pub IsMade : Params → Book → List NewPoint → BaseView → Type 0
IsMade params book new b = StandsFor (decoded_graph book (base_of (record { params = params; book = book }) [] new)) b

-- the vectors and the neighbours of a table's rows
abbrev pub vectors_in : List Node → List (List ℕ)
vectors_in nodes = map (λ (x : Node). x.vector) nodes

abbrev pub links_in : List Node → List (List ℕ)
links_in nodes = map (λ (x : Node). x.links) nodes
