use Rattle.std.proofs.Common.{◌≡◌, map}
use Rattle.std.specs.List.{range_with_len}
use Rattle.ann_disk.specs.Chosen.{byte_of, end_of}
use Rattle.ann_disk.specs.Stretch.{unsynced_of}
use Rattle.ann_disk.proofs.stretch.Stretch.image.Given as goal

abbrev pub invariant-loop-place : goal.invariant-loop-place
invariant-loop-place l = record {
  so_far : l.image.items ≡ map (byte_of (unsynced_of l.self) l.seen l.chooser) (range_with_len 0 l.place);
  end : l.end ≡ end_of (unsynced_of l.self) l.chooser;
}
