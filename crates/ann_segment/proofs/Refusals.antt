-- Which directory block is the first that is refused.
use Rattle.std.proofs.Common.{◌≢◌, inl, inr, ℕ, ◌+◌, ◌-◌, ◌*◌, ◌/◌, ◌≤◌, ◌<◌, List, drop, refl, arith}
use Rattle.std.specs.Prelude.{Any}
use Rattle.std.proofs.Math.Nat.{mul-le-mul_right}
use Rattle.ann_segment.proofs.Rows.{row_within}
use Rattle.ann_segment.specs.Directory.{directory_blocks, pid_at, RiseBefore}
use Rattle.ann_segment.specs.Opening.{HasFall, IsRefused, IsDirectory, IsFirstRefused}

-- where the Pids before a row rise, none of those rows has a fall
fall_behind : (m count end block : ℕ) (directory : List ℕ) → RiseBefore m directory end → (fall : HasFall m count directory block) → end ≤ fall.row
fall_behind m count end block directory rise fall = grind (arith, rise fall.row fall.within.0, fall.falls)

-- a block with a fall in a later row isn't before that of an earlier one
block_behind : (m row later : ℕ) → row ≤ later → 1 + row * (4 + m) / 4096 ≤ 1 + later * (4 + m) / 4096
block_behind m row later below = omega (arith, mul-le-mul_right {m = row} {n = later} (4 + m) below)

-- a row begins before the end of the last block
block_within : (m count row : ℕ) → row < count → 1 + row * (4 + m) / 4096 ≤ directory_blocks count m
block_within m count row below = omega (arith, row_within row count m below)

pub first_at_fall : (m count row : ℕ) (directory : List ℕ) → 1 ≤ row → row < count → pid_at m directory row ≤ pid_at m directory (row - 1) → RiseBefore m directory row → IsFirstRefused m count directory (1 + row * (4 + m) / 4096)
first_at_fall m count row directory some below falls rise = record {
  refused = inl (record { row = row; within = (some, below); falls = falls; begins = refl });
  first = λ earlier before. none earlier before;
}
  where
    none : (earlier : ℕ) → earlier < 1 + row * (4 + m) / 4096 → IsRefused m count directory earlier → ⊥
    none earlier before (inl fall) = omega (arith, block_behind m row fall.row (fall_behind m count row earlier directory rise fall), fall.begins)
    none earlier before (inr unfilled) = omega (arith, block_within m count row below, unfilled.last)

pub first_at_end : (m count : ℕ) (directory : List ℕ) → RiseBefore m directory count → Any (λ byte. byte ≢ 0) (drop (count * (4 + m)) directory) → IsFirstRefused m count directory (directory_blocks count m)
first_at_end m count directory rise other = record {
  refused = inr (record { last = refl; other = other });
  first = λ earlier before. none earlier before;
}
  where
    none : (earlier : ℕ) → earlier < directory_blocks count m → IsRefused m count directory earlier → ⊥
    none earlier before (inl fall) = omega (arith, fall_behind m count count earlier directory rise fall, fall.within.1)
    none earlier before (inr unfilled) = omega (arith, unfilled.last)

pub none_refused : (m count : ℕ) (directory : List ℕ) → RiseBefore m directory count → (Any (λ byte. byte ≢ 0) (drop (count * (4 + m)) directory) → ⊥) → IsDirectory m count directory
none_refused m count directory rise filled block (inl fall) = omega (arith, fall_behind m count count block directory rise fall, fall.within.1)
none_refused m count directory rise filled block (inr unfilled) = filled unfilled.other
