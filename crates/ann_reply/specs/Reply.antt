-- The replies to updates that were accepted, and the words of those that weren't.
use Rattle.std.specs.Prelude.{◌≡◌, ℕ, Bool, List, [], ◌∷◌, length, if◌then◌else◌}
use Rattle.ann_types.specs.Judge.{Refusal, Dimension, Full, Present, Absent}
use Rattle.ann_types.specs.declared.change.Change.{Change}
use Rattle.ann_types.specs.declared.change.Change.TheVariants as change
use Rattle.ann_judge.specs.Standing.{tag_of, refusal_of}
use Rattle.ann_judge.specs.declared.refusal.Refusal.{Refusal as CodeRefusal}
use Rattle.ann_transcript.specs.declared.reply.Kind.{Kind}
use Rattle.ann_transcript.specs.declared.reply.Kind.TheVariants as kind
use Rattle.ann_transcript.specs.declared.reply.UpdateWord.{UpdateWord}
use Rattle.ann_transcript.specs.declared.reply.UpdateWord.TheVariants as update
use Rattle.ann_transcript.specs.declared.reply.Reply.{Reply}
use Rattle.ann_transcript.specs.declared.reply.Reply.TheVariants as reply

abbrev pub kind_of : Change → Kind
kind_of (change.Insert tag vector) = kind.Insert
kind_of (change.Delete tag) = kind.Delete
kind_of (change.Replace tag vector) = kind.Replace

-- an update was accepted, and the list is then so long
abbrev pub accepted : List Change → Bool → ℕ → Reply
accepted [] batch at = reply.Accepted kind.Batch 0 0 at
accepted (c ∷ cs) batch at = reply.Accepted (if batch then kind.Batch else kind_of c) (tag_of c) (length (c ∷ cs)) at

-- the word of a refusal, of the change with this index
abbrev pub word_of : ℕ → Refusal → ℕ → UpdateWord
word_of index (Dimension got want) at = update.Dimension index got want at
word_of index Full at = update.Full index at
word_of index (Present tag) at = update.Present index tag at
word_of index (Absent tag) at = update.Absent index tag at

-- the word of a refusal as code has it
abbrev pub IsWordOf : ℕ → CodeRefusal → ℕ → UpdateWord → Type 0
IsWordOf index refusal at word = (of : Refusal) → refusal ≡ refusal_of of → word ≡ word_of index of at
