-- The directory of a segment: for each row, in order, the Pid (4 bytes) and the code (m bytes) of its point, and zeros up
-- to whole blocks of 4096 bytes.
use Rattle.std.specs.Prelude.{ℕ, zero, suc, ◌+◌, ◌-◌, ◌*◌, ◌/◌, ◌^◌, ◌<◌, ◌≤◌, All, List, [], ◌∷◌, ◌++◌, map, length, take, drop, get_or}
use Rattle.std.specs.List.{flat_map}
use Rattle.std.specs.List.Sorted.{IsStrictlyIncreasing}
use Rattle.ann_bytes.specs.LittleEndian.{number_of, bytes_of, field}
use Rattle.ann_block.specs.Block.{zeros}

-- the Pid and the code in a row
abbrev pub Item : Type 0
Item = ℕ × List ℕ

abbrev pub item_of : List Item → ℕ → Item
item_of items row = get_or items row (0, [])

-- each row's Pid is above that of the row before
abbrev pub AreRising : List Item → Type 0
AreRising items = IsStrictlyIncreasing (map (λ item. item.0) items)

-- the Pids have four bytes
abbrev pub AreSmall : List Item → Type 0
AreSmall items = All (λ item. item.0 < 2 ^ 32) items

-- ---- the bytes of a directory

abbrev pub item_bytes : Item → List ℕ
item_bytes item = bytes_of 4 item.0 ++ item.1

unfoldable pub directory_bytes : List Item → List ℕ
directory_bytes items = flat_map item_bytes items

-- how many blocks so many bytes fill
abbrev pub blocks_of : ℕ → ℕ
blocks_of n = (n + 4095) / 4096

-- how many blocks the directory of so many rows fills, with codes of m bytes
abbrev pub directory_blocks : ℕ → ℕ → ℕ
directory_blocks count m = blocks_of (count * (4 + m))

-- bytes with zeros up to whole blocks
unfoldable pub filled : List ℕ → List ℕ
filled bytes = bytes ++ zeros (4096 * blocks_of (length bytes) - length bytes)

-- ---- the directory of bytes

-- so many items with codes of m bytes
abbrev pub items_in : ℕ → ℕ → List ℕ → List Item
items_in m zero bytes = []
items_in m (suc n) bytes = (number_of (take 4 bytes), field bytes 4 m) ∷ items_in m n (drop (4 + m) bytes)

-- the Pid in a row
unfoldable pub pid_at : ℕ → List ℕ → ℕ → ℕ
pid_at m bytes row = number_of (field bytes (row * (4 + m)) 4)

-- the Pids of the rows before this one rise
abbrev pub RiseBefore : ℕ → List ℕ → ℕ → Type 0
RiseBefore m directory end = (row : ℕ) → 1 ≤ row → row < end → pid_at m directory (row - 1) < pid_at m directory row
