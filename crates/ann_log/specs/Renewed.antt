-- What renewing a log leaves.
use Rattle.std.specs.Prelude.{◌≡◌, ◌+◌, ◌-◌, ◌<◌, ◌^◌, ◌⊎◌, ℕ, true, false, List, [], length}
use Rattle.ann_types.specs.declared.entry.Entry.{Entry}
use Rattle.ann_preamble.specs.declared.base.Base.{Base}
use Rattle.ann_preamble.specs.declared.choice.Side.{Side}
use Rattle.ann_preamble.specs.declared.choice.Side.TheVariants.{First, Second}
use Rattle.ann_disk.specs.declared.file.LogFile.{Ghosts}
use Rattle.ann_frame.specs.Frames.{HaveComponents}
use Rattle.ann_preamble.specs.Base.{is_base}
use Rattle.ann_log.specs.Anew.{IsWritten}
use Rattle.ann_log.specs.Causes.{AreCalm, HaveFault}
use Rattle.ann_log.specs.LogView.{LogView, files_of, held_of}
use Rattle.ann_log.specs.Text.{Held, StandsFor}
use Rattle.ann_log.specs.Told.{MayLeave}

-- another base with other entries
abbrev pub renewed : Held → Base → List Entry → Held
renewed held base tail = record held { base = base; entries = tail }

-- the files stand for the one or for the other
abbrev pub IsOldOrNew : Held → Held → List ℕ → List ℕ → Type 0
IsOldOrNew old new first second = StandsFor old first second ⊎ StandsFor new first second

-- the log holds this, at this generation
abbrev pub HoldsAt : {F : Type 0} → Held → ℕ → LogView F → Type 0
HoldsAt held generation log = (held_of log ≡ held) × (log.generation ≡ generation)

-- the other one of two files
abbrev pub opposite : Side → Side
opposite First = Second
opposite Second = First

-- the other file is the log now, one generation higher and with this base
pub record IsTurned {F : Type 0} (old : LogView F) (base : Base) (new : LogView F) : Type 0 where
  pub side : new.side ≡ opposite old.side
  pub generation : new.generation ≡ old.generation + 1
  pub behind : new.base ≡ base

-- the log can be renewed with this base and tail
pub record IsRenewable {F : Type 0} (log : LogView F) (b : Base) (tail : List Entry) : Type 0 where
  pub base : is_base b ≡ true
  pub components : HaveComponents log.params.d tail
  pub open_now : log.is_closed ≡ false
  pub generation : log.generation < 2 ^ 64 - 1

-- the parameters and the codebook stay
pub record IsSameIndex {F : Type 0} (old new : LogView F) : Type 0 where
  pub params : new.params ≡ old.params
  pub book : new.book ≡ old.book

module _ {F : Type 0} (D : Ghosts F) where
  -- The other file was written anew, and is the log now.
  pub record HasTurned (old : LogView F) (base : Base) (tail : List Entry) (new : LogView F) : Type 0 where
    pub renewed : D.tells → held_of new ≡ renewed (held_of old) base tail
    pub count : new.count ≡ length tail
    pub turned : IsTurned old base new
    pub constant : IsSameIndex old new
    -- its file is a preamble and frames, byte for byte
    pub written : D.tells → IsWritten (held_of new) new.generation (D.seen new.log)
    pub calm : AreCalm D (files_of old) (files_of new)

  -- The log holds what it held.
  pub record HasNotTurned (old new : LogView F) : Type 0 where
    pub kept : D.tells → HoldsAt (held_of old) old.generation new
    pub count : new.count ≡ old.count
    pub constant : IsSameIndex old new
    pub fault : HaveFault D (files_of old) (files_of new)

  -- all but the other file and whether it is closed is as it was
  pub record IsOnItsFile (old new : LogView F) : Type 0 where
    pub held : D.tells → held_of new ≡ held_of old
    pub log : new.log ≡ old.log
    pub side : new.side ≡ old.side
    pub base : new.base ≡ old.base
    pub generation : new.generation ≡ old.generation
    pub count : new.count ≡ old.count
    pub constant : IsSameIndex old new

  -- the other file is empty now
  pub record HasCutOther (old new : LogView F) : Type 0 where
    pub cut : D.tells → D.seen new.other ≡ []
    pub after : MayLeave D (files_of new) (StandsFor (held_of new))
    pub calm : AreCalm D (files_of old) (files_of new)

  -- The log is on the other file, with this base and these entries.
  pub record HasRenewed (old : LogView F) (base : Base) (tail : List Entry) (new : LogView F) : Type 0 where
    pub renewed : D.tells → held_of new ≡ renewed (held_of old) base tail
    pub count : new.count ≡ length tail
    pub turned : IsTurned old base new
    pub constant : IsSameIndex old new
    -- its file is a preamble and frames, byte for byte, and the other file is empty
    pub written : D.tells → IsWritten (held_of new) new.generation (D.seen new.log) × (D.seen new.other ≡ [])
    -- a crash after the call leaves what is new
    pub after : MayLeave D (files_of new) (StandsFor (held_of new))
    pub calm : AreCalm D (files_of old) (files_of new)

  -- A call of a file failed. The log holds what it held, or all that is new.
  pub record HasNotRenewed (old : LogView F) (base : Base) (tail : List Entry) (new : LogView F) : Type 0 where
    pub refused : D.tells → HoldsAt (held_of old) old.generation new ⊎ HoldsAt (renewed (held_of old) base tail) (old.generation + 1) new
    pub count : (new.count ≡ old.count) ⊎ (new.count ≡ length tail)
    pub constant : IsSameIndex old new
    pub fault : HaveFault D (files_of old) (files_of new)
