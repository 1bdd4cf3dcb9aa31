use Rattle.std.proofs.Common.{◌≡◌, ◌+◌, ℕ, length, take}
use Rattle.ann_bytes.specs.LittleEndian.{with_field}
use Rattle.ann_entry.specs.EntryBytes.{entries_bytes}
use Rattle.ann_frame.specs.Frames.{AreEntries, HaveComponents}
use Rattle.ann_frame.proofs.writing.put_entries.Given as goal

abbrev pub invariant-loop-entry : goal.invariant-loop-entry
invariant-loop-entry l = record {
  place : l.end ≡ l.at + length (entries_bytes (take l.entry-index l.entries));
  written : l.out ≡ with_field l.fn.out l.at (entries_bytes (take l.entry-index l.entries));
  each : (d : ℕ) → HaveComponents d l.entries → AreEntries d (take l.entry-index l.entries);
}
