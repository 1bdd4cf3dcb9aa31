-- A walk visits few rows.
use Rattle.std.proofs.Common.{ℕ, ◌≤◌, List, [], arith, length}
use Rattle.std.specs.Prelude.{Option, Some, None}
use Rattle.ann_types.proofs.Walks.{walk_short}
use Rattle.ann_greedy.specs.Rows.{Rows, ground_at, visited_rows}

-- A walk visits at most as many rows as there are.
pub visited_few : (rows : Rows) (query : List ℕ) (width : ℕ) (start : Option ℕ) → length (visited_rows rows query width start) ≤ rows.count
visited_few rows query width None = omega arith
visited_few rows query width (Some entry) = let few = walk_short (ground_at rows query entry) width rows.count [] in omega arith
