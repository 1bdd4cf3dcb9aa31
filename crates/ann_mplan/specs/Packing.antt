-- The ranks of rows among those that survive.
use Rattle.std.specs.Prelude.{◌≡◌, ◌≤◌, ◌<◌, ℕ, ◌==◌, IsTrue, All, List, length, get_or}
use Rattle.std.specs.List.{position_or_len}
use Rattle.ann_types.specs.Order.{has}

-- the place of a row among some rows
abbrev pub rank_in : List ℕ → ℕ → ℕ
rank_in rows row = position_or_len (λ r. r == row) rows

-- a list that may be added by ranks: of those rows alone, and no longer than any list of neighbours
pub record IsRanked (rows list : List ℕ) : Type 0 where
  pub few : length list ≤ 128
  pub inside : All (λ row. IsTrue (has rows row)) list

-- a table that has the place of each of some rows
pub record AreRanks (rows ranks : List ℕ) : Type 0 where
  pub inside : (i : ℕ) → i < length rows → get_or rows i 0 < length ranks
  pub placed : (i : ℕ) → i < length rows → get_or ranks (get_or rows i 0) 0 ≡ i
