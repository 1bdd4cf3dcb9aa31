-- Points ten apart, in rows of three, by which the tests know what is kept.
use Rattle.std.specs.Prelude.{◌≡◌, ℕ, ◌*◌, ◌/◌, ◌%◌, List, [], ◌∷◌}
use Rattle.ann_types.specs.Distance.{distance}
use Rattle.ann_types.proofs.Distances.{distance_itself, distance_symmetric}

abbrev pub point_on_grid : ℕ → List ℕ
point_on_grid row = 10 * (row % 3) ∷ 10 * (row / 3) ∷ []

abbrev pub apart_on_grid : ℕ → ℕ → ℕ
apart_on_grid x y = distance (point_on_grid x) (point_on_grid y)

-- a point has no distance to itself
pub grid_itself : (row : ℕ) → apart_on_grid row row ≡ 0
grid_itself row = distance_itself (point_on_grid row)

-- two are as far apart from either side
pub grid_symmetric : (x y : ℕ) → apart_on_grid x y ≡ apart_on_grid y x
grid_symmetric x y = distance_symmetric (point_on_grid x) (point_on_grid y)
