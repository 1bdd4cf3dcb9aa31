-- What a line lets its client count on: how long the list of each later search must be at least.
use Rattle.std.specs.Prelude.{ℕ, max, List, take}
use Rattle.ann_transcript.specs.declared.reply.UpdateWord.{UpdateWord}
use Rattle.ann_transcript.specs.declared.reply.UpdateWord.TheVariants as update
use Rattle.ann_transcript.specs.declared.reply.MergeWord.{MergeWord}
use Rattle.ann_transcript.specs.declared.reply.MergeWord.TheVariants as merge
use Rattle.ann_transcript.specs.declared.reply.Reply.{Reply}
use Rattle.ann_transcript.specs.declared.reply.Reply.TheVariants as reply
use Rattle.ann_said.specs.Owned.{Placed, reach}

-- the prefix by which an update was judged
abbrev pub refusal_seen : UpdateWord → ℕ
refusal_seen (update.Dimension index got want at) = at
refusal_seen (update.Full index at) = at
refusal_seen (update.Present index tag at) = at
refusal_seen (update.Absent index tag at) = at
refusal_seen update.LogFault = 0
refusal_seen (update.Stopped at) = 0
refusal_seen update.Memory = 0
refusal_seen (update.MemoryLogged at) = 0

-- the entries of a merge that ended, or the prefix that had nothing to merge, or an open merge
abbrev pub merge_seen : List Placed → MergeWord → ℕ
merge_seen own (merge.Merged segment at) = reach own
merge_seen own (merge.Nothing at) = at
merge_seen own (merge.Running at since) = at
merge_seen own merge.Shut = 0
merge_seen own merge.Disk = 0
merge_seen own (merge.BadSegment block) = 0
merge_seen own merge.LogFault = 0
merge_seen own (merge.Stopped at) = 0
merge_seen own merge.Memory = 0
merge_seen own (merge.MemoryLogged at) = 0

-- the entries that a line acknowledges, of those of its command, and the prefix of which it speaks
abbrev pub line_seen : List Placed → Reply → ℕ
line_seen own (reply.Accepted kind tag count at) = reach own
line_seen own (reply.Update refused batch) = refusal_seen refused
line_seen own (reply.Found at hits) = at
line_seen own (reply.Search refused) = 0
line_seen own (reply.Merge word) = merge_seen own word
line_seen own (reply.Filled count at) = reach own
line_seen own (reply.Cut count refused) = max (reach (take count own)) (refusal_seen refused)
line_seen own (reply.Truth at exact found got of) = 0
