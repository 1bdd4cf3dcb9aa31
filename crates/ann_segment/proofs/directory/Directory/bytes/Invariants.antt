use Rattle.std.proofs.Common.{◌≡◌, take}
use Rattle.ann_segment.specs.Directory.{directory_bytes}
use Rattle.ann_segment.proofs.directory.Directory.bytes.Given as goal

-- the rows so far
abbrev pub invariant-loop-row : goal.invariant-loop-row
invariant-loop-row l = record { written : l.bytes.items ≡ directory_bytes (take l.row-index l.self) }
