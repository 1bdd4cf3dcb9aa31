-- The text of a transcript.
use Rattle.std.specs.Prelude.{ℕ, ◌+◌, Bool, true, List, [], ◌∷◌, ◌++◌, codes, decimal, if◌then◌else◌}
use Rattle.ann_types.specs.declared.hit.Hit.{Hit}
use Rattle.ann_transcript.specs.declared.reply.Kind.{Kind}
use Rattle.ann_transcript.specs.declared.reply.Kind.TheVariants as kind
use Rattle.ann_transcript.specs.declared.reply.UpdateWord.{UpdateWord}
use Rattle.ann_transcript.specs.declared.reply.UpdateWord.TheVariants as update
use Rattle.ann_transcript.specs.declared.reply.SearchWord.{SearchWord}
use Rattle.ann_transcript.specs.declared.reply.SearchWord.TheVariants as search_word
use Rattle.ann_transcript.specs.declared.reply.MergeWord.{MergeWord}
use Rattle.ann_transcript.specs.declared.reply.MergeWord.TheVariants as merge
use Rattle.ann_transcript.specs.declared.reply.Reply.{Reply}
use Rattle.ann_transcript.specs.declared.reply.Reply.TheVariants as reply

-- where in the log's list a reply stands
abbrev pub at_text : ℕ → List ℕ
at_text at = codes " at " ++ decimal at

abbrev pub accepted_text : Kind → ℕ → ℕ → List ℕ
accepted_text kind.Insert tag count = codes "inserted " ++ decimal tag
accepted_text kind.Delete tag count = codes "deleted " ++ decimal tag
accepted_text kind.Replace tag count = codes "replaced " ++ decimal tag
accepted_text kind.Batch tag count = codes "accepted " ++ decimal count

-- components that a vector has, and those that it should have
abbrev pub dimension_text : ℕ → ℕ → List ℕ
dimension_text got want = codes "dimension " ++ decimal got ++ codes " of " ++ decimal want

-- which change of a batch it is, counted from 1
abbrev pub change_text : Bool → ℕ → List ℕ
change_text batch index = if batch then codes "change " ++ decimal (index + 1) ++ codes " " else []

-- the log's device failed
abbrev pub log_fault_text : List ℕ
log_fault_text = codes "log fault"

-- the log failed earlier
abbrev pub stopped_text : ℕ → List ℕ
stopped_text at = codes "stopped" ++ at_text at

-- no memory was left, and nothing was logged
abbrev pub memory_text : List ℕ
memory_text = codes "memory"

-- no memory was left after the entries were logged
abbrev pub logged_text : ℕ → List ℕ
logged_text at = codes "memory, logged" ++ at_text at

-- the view can't be entered
abbrev pub shut_text : List ℕ
shut_text = codes "shut"

-- a read failed
abbrev pub disk_text : List ℕ
disk_text = codes "disk"

-- this block of a segment is at fault
abbrev pub bad_segment_text : ℕ → List ℕ
bad_segment_text block = codes "bad segment " ++ decimal block

-- why an update was refused, and where it is a batch which of its changes
abbrev pub update_text : UpdateWord → Bool → List ℕ
update_text (update.Dimension index got want at) batch = change_text batch index ++ dimension_text got want ++ at_text at
update_text (update.Full index at) batch = change_text batch index ++ codes "full" ++ at_text at
update_text (update.Present index tag at) batch = change_text batch index ++ codes "present " ++ decimal tag ++ at_text at
update_text (update.Absent index tag at) batch = change_text batch index ++ codes "absent " ++ decimal tag ++ at_text at
update_text update.LogFault batch = log_fault_text
update_text (update.Stopped at) batch = stopped_text at
update_text update.Memory batch = memory_text
update_text (update.MemoryLogged at) batch = logged_text at

abbrev pub search_text : SearchWord → List ℕ
search_text (search_word.Dimension got want) = dimension_text got want
search_text search_word.Disk = disk_text
search_text (search_word.BadSegment block) = bad_segment_text block
search_text search_word.Shut = shut_text

-- what came of a merge
abbrev pub merge_text : MergeWord → List ℕ
merge_text (merge.Merged segment at) = codes "merged " ++ decimal segment ++ at_text at
merge_text (merge.Nothing at) = codes "nothing" ++ at_text at
merge_text (merge.Running at since) = codes "running" ++ at_text at ++ codes " since " ++ decimal since
merge_text merge.Shut = shut_text
merge_text merge.Disk = disk_text
merge_text (merge.BadSegment block) = bad_segment_text block
merge_text merge.LogFault = log_fault_text
merge_text (merge.Stopped at) = stopped_text at
merge_text merge.Memory = memory_text
merge_text (merge.MemoryLogged at) = logged_text at

-- each hit as its tag and its distance
abbrev pub items_text : List Hit → List ℕ
items_text [] = []
items_text (hit ∷ hits) = codes " " ++ decimal hit.tag ++ codes ":" ++ decimal hit.distance ++ items_text hits

abbrev pub hits_text : List Hit → List ℕ
hits_text [] = codes " none"
hits_text (hit ∷ hits) = items_text (hit ∷ hits)

-- how many of the nearest points were found
abbrev pub recall_text : ℕ → ℕ → List ℕ
recall_text got of = codes "recall " ++ decimal got ++ codes " of " ++ decimal of

-- so many inserts of a fill were accepted
abbrev pub filled_text : ℕ → List ℕ
filled_text count = codes "filled " ++ decimal count

-- the exact nearest points, and those that the index found
abbrev pub truth_text : ℕ → List Hit → List Hit → List ℕ
truth_text at exact found = codes "truth" ++ at_text at ++ hits_text exact ++ codes " found" ++ hits_text found

abbrev pub reply_text : Reply → List ℕ
reply_text (reply.Accepted kind tag count at) = accepted_text kind tag count ++ at_text at
reply_text (reply.Update refused batch) = update_text refused batch
reply_text (reply.Found at hits) = codes "found" ++ at_text at ++ hits_text hits
reply_text (reply.Search refused) = search_text refused
reply_text (reply.Merge word) = merge_text word
reply_text (reply.Filled count at) = filled_text count ++ at_text at
reply_text (reply.Cut count refused) = filled_text count ++ codes " then " ++ update_text refused true
reply_text (reply.Truth at exact found got of) = truth_text at exact found ++ codes " " ++ recall_text got of

-- a reply alone
abbrev pub lone_text : Reply → List ℕ
lone_text reply = reply_text reply ++ codes "\n"

-- a client's name, the number of its command, and the reply
abbrev pub line_text : List ℕ → ℕ → Reply → List ℕ
line_text name command reply = name ++ codes " " ++ decimal command ++ codes " " ++ reply_text reply ++ codes "\n"

-- the last line: the length of the log's list, and the number of live tags
abbrev pub last_text : ℕ → ℕ → List ℕ
last_text entries live = codes "log " ++ decimal entries ++ codes " entries, " ++ decimal live ++ codes " live\n"

-- the last line of a comparison with the exact nearest points: the sums
abbrev pub sums_text : ℕ → ℕ → List ℕ
sums_text got of = recall_text got of ++ codes "\n"
