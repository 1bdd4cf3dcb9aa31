-- What the command `once` writes for a script.
use Rattle.std.specs.Prelude.{ℕ, ◌+◌, Bool, List, [], ◌∷◌, ◌++◌, ◌==◌, Option, None, Some, length, if◌then◌else◌}
use Rattle.ann_types.specs.Index.{Index}
use Rattle.ann_types.specs.Lists.{BasedList, empty_list, length_of, live_of}
use Rattle.ann_types.specs.Fold.{fold_of}
use Rattle.ann_types.specs.Answer.{hits}
use Rattle.ann_types.specs.Judge.{Refusal, judge_all}
use Rattle.ann_types.specs.declared.params.Params.{Params}
use Rattle.ann_types.specs.declared.change.Change.{Change}
use Rattle.ann_judge.specs.Standing.{behind}
use Rattle.ann_script.specs.Order.{Order, Apply, Find, Merge, Fill}
use Rattle.ann_script.specs.Script.{Client}
use Rattle.ann_transcript.specs.Transcript.{line_text, last_text}
use Rattle.ann_reply.specs.Reply.{accepted, word_of}
use Rattle.ann_once.specs.Book.{zeros}
use Rattle.ann_transcript.specs.declared.reply.SearchWord.TheVariants as search_word
use Rattle.ann_transcript.specs.declared.reply.MergeWord.TheVariants as merge
use Rattle.ann_transcript.specs.declared.reply.Reply.{Reply}
use Rattle.ann_transcript.specs.declared.reply.Reply.TheVariants as reply

-- the index of `once`, whose long-term graph stays empty
abbrev pub once_index : Params → Index
once_index params = record { params = params; book = zeros params.d }

-- ---- The reply to a command, after a list of entries

-- an update is judged as a whole: its first refusal, or it is accepted
abbrev pub update_reply : List Change → Bool → ℕ → Option (ℕ × Refusal) → Reply
update_reply changes batch at None = accepted changes batch (at + length changes)
update_reply changes batch at (Some r) = reply.Update (word_of r.0 r.1 at) batch

abbrev pub search_reply : Index → BasedList → ℕ → ℕ → List ℕ → Reply
search_reply index h k l vector =
    if length vector == index.params.d then reply.Found (length_of h) (hits index (fold_of index h) k l vector)
    else reply.Search (search_word.Dimension (length vector) index.params.d)

-- a script of `once` has no merge and no fill, so that none is replied to
abbrev pub no_reply : Reply
no_reply = reply.Merge merge.Shut

abbrev pub reply_to : Index → BasedList → Order → Reply
reply_to index h (Apply changes batch) = update_reply changes batch (length_of h) (judge_all index.params h 0 changes)
reply_to index h (Find k l vector) = search_reply index h k l vector
reply_to index h Merge = no_reply
reply_to index h (Fill seed count first) = no_reply

-- ---- The list after a command

-- an accepted update extends the list by its entries, and a refused one leaves it
abbrev pub updated : BasedList → List Change → Option (ℕ × Refusal) → BasedList
updated h changes None = behind h changes
updated h changes (Some r) = h

abbrev pub list_after : Index → BasedList → Order → BasedList
list_after index h (Apply changes batch) = updated h changes (judge_all index.params h 0 changes)
list_after index h (Find k l vector) = h
list_after index h Merge = h
list_after index h (Fill seed count first) = h

-- ---- The transcript

-- the lines of a client's commands from this list and this number on, and the last line
abbrev pub lines_from : Index → List ℕ → ℕ → BasedList → List Order → List ℕ
lines_from index name number h [] = last_text (length_of h) (length (live_of h))
lines_from index name number h (order ∷ orders) = line_text name number (reply_to index h order) ++ lines_from index name (number + 1) (list_after index h order) orders

-- the transcript of a script of one client, or of none
abbrev pub once_text : Index → List Client → List ℕ
once_text index [] = last_text 0 0
once_text index (client ∷ others) = lines_from index client.name 1 empty_list client.orders
