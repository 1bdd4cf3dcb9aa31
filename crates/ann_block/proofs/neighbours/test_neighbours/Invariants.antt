use Rattle.std.proofs.Common.{◌≡◌, ◌&&◌, map, drop}
use Rattle.std.specs.List.{list_any}
use Rattle.ann_bytes.specs.LittleEndian.{number_of}
use Rattle.ann_block.specs.Node.{is_stranger, is_ascending}
use Rattle.ann_block.proofs.Listed.{rises_from}
use Rattle.ann_block.proofs.neighbours.test_neighbours.Given as goal

-- what is left decides
abbrev pub invariant-loop-bytes : goal.invariant-loop-bytes
invariant-loop-bytes l = record {
  strangers : list_any (is_stranger l.row l.count) (map number_of (drop l.bytes-index l.neighbours)) ≡ list_any (is_stranger l.row l.count) (map number_of l.neighbours);
  order : (l.ascending && rises_from l.least (map number_of (drop l.bytes-index l.neighbours))) ≡ is_ascending (map number_of l.neighbours);
}
