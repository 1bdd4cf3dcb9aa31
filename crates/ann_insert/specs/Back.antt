-- Rows that are linked back to a new one.
use Rattle.std.specs.Prelude.{◌≡◌, ◌≤◌, ◌<◌, ℕ, true, false, List, length, All}
use Rattle.ann_types.specs.Order.{has}
use Rattle.ann_types.specs.Kept.{Rule}
use Rattle.ann_types.specs.Put.{linked_back}
use Rattle.ann_table.specs.Node.{Node, node_at, row_pid, row_pids, apart_rows, point_of}

-- the most candidates of a prune that links back: R neighbours and one more
abbrev pub most : ℕ
most = 129

-- a new row comes behind all that this row is linked to
pub record IsBehind (new : ℕ) (x : Node) : Type 0 where
  pub above : All (λ other. other < new) x.links
  pub newer : x.newer ≤ new

-- the distances between points are those between their rows
abbrev pub AreApart : (ℕ → ℕ → ℕ) → List Node → Type 0
AreApart apart nodes = (r s : ℕ) → r < length nodes → s < length nodes → apart (row_pid nodes r) (row_pid nodes s) ≡ apart_rows nodes r s

-- the same rows, save their neighbours
pub record AreSameButLinks (old now : List Node) : Type 0 where
  pub count : length now ≡ length old
  pub pids : row_pids now ≡ row_pids old
  pub vectors : (row : ℕ) → (node_at now row).vector ≡ (node_at old row).vector

-- a row's point has the new row's point among its neighbours, and the others stay
pub record AreLinkedBack (rule : Rule) (apart : ℕ → ℕ → ℕ) (new : ℕ) (rows : List ℕ) (old now : List Node) : Type 0 where
  pub linked : (row : ℕ) → row < length old → has rows row ≡ true → point_of old (node_at now row) ≡ linked_back rule apart (row_pid old new) (point_of old (node_at old row))
  pub others : (row : ℕ) → row < length old → has rows row ≡ false → node_at now row ≡ node_at old row
