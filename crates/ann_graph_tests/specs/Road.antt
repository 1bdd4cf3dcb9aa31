-- The graph of the tests: five points on a line, each with those beside it as its neighbours.
use Rattle.std.specs.Prelude.{ℕ, List, [], ◌∷◌, ◌==◌, Some, if◌then◌else◌}
use Rattle.ann_greedy.specs.Rows.{Rows}

abbrev pub place_of : ℕ → List ℕ
place_of row = if row == 0 then 0 ∷ [] else (if row == 1 then 10 ∷ [] else (if row == 2 then 20 ∷ [] else (if row == 3 then 30 ∷ [] else 40 ∷ [])))

abbrev pub beside : ℕ → List ℕ
beside row = if row == 0 then 1 ∷ [] else (if row == 1 then 0 ∷ 2 ∷ [] else (if row == 2 then 1 ∷ 3 ∷ [] else (if row == 3 then 2 ∷ 4 ∷ [] else 3 ∷ [])))

abbrev pub road : Rows
road = record { count = 5; width = 1; start = Some 0; vector = place_of; links = beside }
