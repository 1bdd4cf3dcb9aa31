-- A log whose call failed.
use Rattle.std.proofs.Common.{List, subst, sym}
use Rattle.ann_types.specs.declared.entry.Entry.{Entry}
use Rattle.ann_disk.specs.declared.file.LogFile.{Ghosts}
use Rattle.ann_log.specs.Appended.{HasNotAppended}
use Rattle.ann_log.specs.LogView.{LogView, files_of, held_of, IsBeforeOrAfter}
use Rattle.ann_log.specs.Pairs.{EachPair}
use Rattle.ann_log.specs.Text.{Held}
use Rattle.ann_log.specs.Told.{LeaveFiles}
use Rattle.ann_log.proofs.Pairs.{last_pair}
use Rattle.ann_index.specs.Doubt.{IsInDoubt}

-- what a crash leaves during the call, it leaves after it
pub doubt_after : {F : Type 0} (D : Ghosts F) (old new : LogView F) (entries : List Entry) → HasNotAppended D old new → LeaveFiles D (files_of old) (files_of new) (IsBeforeOrAfter (held_of old) entries) → IsInDoubt D new entries
doubt_after D old new entries w run tells =
    subst (λ (held : Held). EachPair D.unsynced (IsBeforeOrAfter held entries) (files_of new)) (sym (w.kept tells))
    (last_pair D.past D.unsynced (files_of old) (files_of new) (IsBeforeOrAfter (held_of old) entries) (run tells))
