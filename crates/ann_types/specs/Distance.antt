-- The squared Euclidean distance of two vectors, on whole numbers. It puts points in the order that the distance
-- itself gives them.
use Rattle.std.specs.Prelude.{ℕ, ◌+◌, ◌*◌, List, [], ◌∷◌}
use Rattle.std.specs.Int.{abs_diff}

-- the sum of the squared differences of the components of two vectors of equal length; of two unequal ones it
-- reads as far as both go, and whoever takes a distance has vectors of one length
abbrev pub distance : List ℕ → List ℕ → ℕ
distance [] ys = 0
distance (x ∷ xs) [] = 0
distance (x ∷ xs) (y ∷ ys) = abs_diff x y * abs_diff x y + distance xs ys
