-- What was done to a file in memory since its last sync.
use Rattle.ann_disk.specs.Image.{Unsynced}
use Rattle.ann_disk.specs.declared.stretch.Stretch.{Stretch}

abbrev pub unsynced_of : Stretch → Unsynced
unsynced_of s = record { kept = s.kept.items; covered = s.covered.items; low = s.low; high = s.high }
