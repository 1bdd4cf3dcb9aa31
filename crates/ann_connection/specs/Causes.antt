-- Why a command has a reply that no list explains.
use Rattle.std.specs.Prelude.{◌≡◌, List, [], ◌∷◌, Result, Err}
use Rattle.ann_fault.specs.Counts.{Rose}
use Rattle.ann_transcript.specs.declared.reply.UpdateWord.{UpdateWord}
use Rattle.ann_transcript.specs.declared.reply.UpdateWord.TheVariants as update
use Rattle.ann_transcript.specs.declared.reply.SearchWord.{SearchWord}
use Rattle.ann_transcript.specs.declared.reply.SearchWord.TheVariants as search
use Rattle.ann_transcript.specs.declared.reply.MergeWord.{MergeWord}
use Rattle.ann_transcript.specs.declared.reply.MergeWord.TheVariants as merge
use Rattle.ann_transcript.specs.declared.reply.Reply.{Reply}
use Rattle.ann_transcript.specs.declared.reply.Reply.TheVariants as reply
use Rattle.ann_said.specs.Said.{Line}
use Rattle.ann_connection.specs.Opening.{Counts, GoOn, OneRose}

-- `alone` says that the run has one client, and `first` has the counts at its beginning
module _ (alone : Type 0) (first before now : Counts) where
  -- A fault was counted in this call; where the log has stopped, in this run. No block of a sound place is bad.
  abbrev pub UpdateCause : UpdateWord → Type 0
  UpdateCause (update.Dimension place got want at) = Unit {0}
  UpdateCause (update.Full place at) = Unit {0}
  UpdateCause (update.Present place tag at) = Unit {0}
  UpdateCause (update.Absent place tag at) = Unit {0}
  UpdateCause update.LogFault = Rose before.log now.log
  UpdateCause (update.Stopped at) = Rose first.log now.log
  UpdateCause update.Memory = Unit {0}
  UpdateCause (update.MemoryLogged at) = Unit {0}

  abbrev pub SearchCause : SearchWord → Type 0
  SearchCause (search.Dimension got want) = Unit {0}
  SearchCause search.Disk = Rose before.eye now.eye
  SearchCause (search.BadSegment block) = ⊥
  SearchCause search.Shut = Rose before.door now.door

  -- the one client of a run meets no merge of another one
  abbrev pub MergeCause : MergeWord → Type 0
  MergeCause (merge.Merged segment at) = Unit {0}
  MergeCause (merge.Nothing at) = Unit {0}
  MergeCause (merge.Running at since) = alone → ⊥
  MergeCause merge.Shut = Rose before.door now.door
  MergeCause merge.Disk = OneRose before.merge now.merge
  MergeCause (merge.BadSegment block) = ⊥
  MergeCause merge.LogFault = Rose before.log now.log
  MergeCause (merge.Stopped at) = Rose first.log now.log
  MergeCause merge.Memory = Unit {0}
  MergeCause (merge.MemoryLogged at) = Unit {0}

  abbrev pub ReplyCause : Reply → Type 0
  ReplyCause (reply.Accepted kind tag count at) = Unit {0}
  ReplyCause (reply.Update refused batch) = UpdateCause refused
  ReplyCause (reply.Found at hits) = Unit {0}
  ReplyCause (reply.Search refused) = SearchCause refused
  ReplyCause (reply.Merge word) = MergeCause word
  ReplyCause (reply.Filled count at) = Unit {0}
  ReplyCause (reply.Cut count refused) = UpdateCause refused
  ReplyCause (reply.Truth at exact found got of) = Unit {0}

  pub record IsUpdateCaused {T : Type 0} (result : Result T UpdateWord) : Type 0 where
    pub on : GoOn before now
    pub cause : (word : UpdateWord) → result ≡ Err word → UpdateCause word

  pub record IsReplyCaused (reply : Reply) : Type 0 where
    pub on : GoOn before now
    pub cause : ReplyCause reply

-- the lines of a client have their causes, one after the other
abbrev pub AreCaused : Type 0 → Counts → Counts → List Line → Counts → Type 0
AreCaused alone first before [] now = GoOn before now
AreCaused alone first before (l ∷ ls) now =
    (between : Counts) × IsReplyCaused alone first before between l.reply × AreCaused alone first between ls now
