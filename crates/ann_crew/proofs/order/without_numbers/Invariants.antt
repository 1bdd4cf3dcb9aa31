use Rattle.std.proofs.Common.{◌≡◌, ◌≤◌, ◌+◌, ◌++◌, map, reverse, vec_len, vec_capacity}
use Rattle.ann_crew.specs.Members.{piece_of}
use Rattle.ann_crew.proofs.order.without_numbers.Given as goal

-- those that are left, and those taken from the last one on, are all
abbrev pub invariant-loop-number : goal.invariant-loop-number
invariant-loop-number g l = record {
  pieces : map piece_of l.results.items ++ reverse l.pieces.items ≡ map piece_of l.fn.results.items;
  room : vec_len l.pieces + vec_len l.results ≤ vec_capacity l.pieces;
}

abbrev pub decreases-loop-number : goal.decreases-loop-number
decreases-loop-number g l = vec_len l.results
