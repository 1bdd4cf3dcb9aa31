use Rattle.std.proofs.Common.{◌≡◌, ◌==◌, take}
use Rattle.ann_block.specs.Block.{is_zeros}
use Rattle.ann_block.proofs.bytes.are_zeros.Given as goal

abbrev pub invariant-loop-byte : goal.invariant-loop-byte
invariant-loop-byte l = record { so_far : is_zeros (take l.byte-index l.bytes) ≡ (l.greatest == 0) }
