-- Rows side by side: labels in one list, bytes of vectors in another, neighbours in a third.
use Rattle.std.specs.Prelude.{◌≡◌, ◌≤◌, ℕ, ◌+◌, ◌*◌, List, [], ◌∷◌, take, drop, length}
use Rattle.std.specs.List.{AllByRecursion}
use Rattle.ann_table.specs.Node.{Node}
use Rattle.ann_frozen.specs.declared.label.Label.{Label}

-- how many components a vector has, and the rows
pub record Packs : Type 0 where
  pub width : ℕ
  pub nodes : List Node

-- a label's row, whose neighbours follow each other from its start on
abbrev pub row_in : Label → List ℕ → List ℕ → Node
row_in x vector numbers = record { pid = x.pid; tag = x.tag; vector = vector; links = take x.count (drop x.start numbers); newer = 0 }

-- the rows of labels whose vectors follow each other
abbrev pub rows_in : ℕ → List Label → List ℕ → List ℕ → List Node
rows_in width [] bytes numbers = []
rows_in width (x ∷ labels) bytes numbers = row_in x (take width bytes) numbers ∷ rows_in width labels (drop width bytes) numbers

-- there is a vector for each label and no byte more, and each label's neighbours are there
pub record ArePacked (width : ℕ) (labels : List Label) (bytes numbers : List ℕ) : Type 0 where
  pub whole : length bytes ≡ length labels * width
  pub ends : AllByRecursion (λ x. x.start + x.count ≤ length numbers) labels
