-- The node block of a point.
use Rattle.std.specs.Prelude.{◌≡◌, ◌≢◌, ℕ, zero, suc, ◌+◌, ◌-◌, ◌*◌, ◌≤◌, ◌<◌, Bool, true, List, [], ◌∷◌, ◌++◌, length, take, drop, ◌==◌, ◌&&◌, ◌||◌, not, nat_le, nat_lt, All, Option}
use Rattle.std.specs.List.{concat, flat_map, list_any}
use Rattle.std.specs.List.Sorted.{IsStrictlyIncreasing}
use Rattle.ann_bytes.specs.LittleEndian.{number_of, bytes_of, field}
use Rattle.ann_types.specs.declared.params.Params.{Params}
use Rattle.ann_block.specs.Block.{zeros, is_zeros, first_broken}
use Rattle.ann_block.specs.declared.node.NodeHead.{NodeHead}
use Rattle.ann_block.specs.declared.refused.BlockRefused.{BlockRefused}
use Rattle.ann_block.specs.declared.refused.BlockRefused.TheVariants.{Length, Number, Degree, Order, Padding}

-- what a node block says of its point, beside the Pid; neighbours are rows
pub record NodeFields : Type 0 where
  pub tag : ℕ
  pub vector : List ℕ
  pub neighbours : List ℕ

-- what the node in a row of so many must be: d components, at most R neighbours, which are other rows in ascending order
pub record IsNodeOf (row count : ℕ) (params : Params) (node : NodeFields) : Type 0 where
  pub dimension : length node.vector ≡ params.d
  pub degree : length node.neighbours ≤ params.r
  pub others : All (λ neighbour. (neighbour ≢ row) × (neighbour < count)) node.neighbours
  pub ascending : IsStrictlyIncreasing node.neighbours

-- ---- the bytes of a node

-- Pid, degree, two zeros, tag, vector, the rows of the neighbours, and zeros to the end
unfoldable pub node_bytes : ℕ → ℕ → List ℕ → List ℕ → List ℕ
node_bytes pid tag vector neighbours =
    concat (bytes_of 4 pid ∷ bytes_of 2 (length neighbours) ∷ bytes_of 2 0 ∷ bytes_of 8 tag ∷ vector ∷ flat_map (bytes_of 4) neighbours ∷ zeros (4080 - length vector - 4 * length neighbours) ∷ [])

-- ---- the node of bytes

-- n numbers of four bytes
abbrev pub numbers_in : ℕ → List ℕ → List ℕ
numbers_in zero bytes = []
numbers_in (suc n) bytes = number_of (take 4 bytes) ∷ numbers_in n (drop 4 bytes)

-- the fields before the vector, as they stand
unfoldable pub head_in : List ℕ → NodeHead
head_in block = record { pid = number_of (field block 0 4); degree = number_of (field block 4 2); zero = number_of (field block 6 2); tag = number_of (field block 8 8) }

abbrev pub neighbours_of : ℕ → List ℕ → List ℕ
neighbours_of d block = numbers_in (head_in block).degree (drop (16 + d) block)

-- the node of a block, for vectors of d components
unfoldable pub node_of : ℕ → List ℕ → NodeFields
node_of d block = record { tag = (head_in block).tag; vector = field block 16 d; neighbours = neighbours_of d block }

-- ---- the rules

-- the row itself, or no row of so many
abbrev pub is_stranger : ℕ → ℕ → ℕ → Bool
is_stranger row count neighbour = (neighbour == row) || nat_le count neighbour

-- each number is below the next
abbrev pub is_ascending : List ℕ → Bool
is_ascending [] = true
is_ascending (x ∷ []) = true
is_ascending (x ∷ y ∷ rest) = nat_lt x y && is_ascending (y ∷ rest)

-- the rules on the neighbours of a row of so many
abbrev pub neighbour_rules : ℕ → ℕ → List ℕ → List (Bool × BlockRefused)
neighbour_rules row count neighbours =
    (not (list_any (is_stranger row count) neighbours), Number)
    ∷ (is_ascending neighbours, Order)
    ∷ []

-- the zeros before the tag, and those at the end
abbrev pub has_zeros : ℕ → List ℕ → Bool
has_zeros d block = ((head_in block).zero == 0) && is_zeros (drop (16 + d + 4 * (head_in block).degree) block)

-- the rules of the node block of a Pid in a row of so many, in their order
abbrev pub node_rules : List ℕ → ℕ → ℕ → ℕ → Params → List (Bool × BlockRefused)
node_rules block pid row count params =
    (length block == 4096, Length)
    ∷ ((head_in block).pid == pid, Number)
    ∷ (nat_le (head_in block).degree params.r, Degree)
    ∷ neighbour_rules row count (neighbours_of params.d block)
    ++ (has_zeros params.d block, Padding)
    ∷ []

-- why a block isn't the node block of a Pid in a row of so many; none where it is
unfoldable pub judge_node : List ℕ → ℕ → ℕ → ℕ → Params → Option BlockRefused
judge_node block pid row count params = first_broken (node_rules block pid row count params)
