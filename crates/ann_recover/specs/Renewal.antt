-- When the log of an index that is opened again is written anew, and what that leaves.
use Rattle.std.specs.Prelude.{◌≡◌, ◌<◌, ◌+◌, ◌*◌, ◌-◌, ◌^◌, ◌==◌, ◌&&◌, nat_lt, ℕ, false, List, Option, Some, None, MatchOption, if◌then◌else◌}
use Rattle.ann_types.specs.declared.entry.Entry.{Entry}
use Rattle.ann_disk.specs.declared.file.LogFile.{Ghosts}
use Rattle.ann_preamble.specs.declared.base.Base.{Base}
use Rattle.ann_log.specs.LogView.{LogView, files_of, held_of}
use Rattle.ann_log.specs.Renewed.{HasRenewed, HasNotRenewed, IsOldOrNew, renewed}
use Rattle.ann_log.specs.Text.{Held, StandsFor}
use Rattle.ann_log.specs.Told.{MayLeave}
use Rattle.ann_frame.specs.Frames.{HaveComponents}
use Rattle.ann_reopen.specs.declared.judged.Merge.{Merge}

-- the base that counts a merge as passed
abbrev pub base_of : Merge → Base
base_of merge = record { position = merge.position + 2; next = merge.next; segment = merge.segment }

-- The base with which a log is written anew: that of its last merge, where one has ended; or else its own, where its file is of
-- version 1, which has the generation 0. At the last generation, and where a segment's number has no place in a base, none.
abbrev pub renewal_of : Base → ℕ → Option Merge → Option Base
renewal_of base generation None = if generation == 0 then Some base else None
renewal_of base generation (Some merge) = if nat_lt generation (2 ^ 64 - 1) && nat_lt merge.segment (2 ^ 63) then Some (base_of merge) else None

-- the number of the segment that the last End names, and 0 without one
abbrev pub number_of : Option Merge → ℕ
number_of None = 0
number_of (Some merge) = merge.segment

-- a merge's segment has a number by the position of its Begin
abbrev pub IsNumbered : Option Merge → Type 0
IsNumbered merge = MatchOption merge (Unit {0}) (λ m. (m.position < 2 ^ 63) × (m.segment ≡ 2 * m.position + 1))

-- what a log holds then: its list with that base and this tail, or as it was
abbrev pub renewed_on : Held → Option Base → List Entry → Held
renewed_on held None tail = held
renewed_on held (Some base) tail = renewed held base tail

-- a log holds its list, and may be written anew with this base and tail
pub record IsAtRest {F : Type 0} (D : Ghosts F) (log : LogView F) (merge : Option Merge) (tail : List Entry) : Type 0 where
  pub open_now : log.is_closed ≡ false
  pub components : HaveComponents log.params.d tail
  pub numbered : IsNumbered merge
  pub after : MayLeave D (files_of log) (StandsFor (held_of log))

-- the files stand for what was held, or for it with another base and tail
abbrev pub IsOldOrRenewed : Held → Option Base → List Entry → List ℕ → List ℕ → Type 0
IsOldOrRenewed held None tail first second = StandsFor held first second
IsOldOrRenewed held (Some base) tail first second = IsOldOrNew held (renewed held base tail) first second

module _ {F : Type 0} (D : Ghosts F) where
  -- a log was written anew with a base, if there is one
  abbrev pub IsRenewed : LogView F → Option Base → List Entry → LogView F → Type 0
  IsRenewed old None tail new = new ≡ old
  IsRenewed old (Some base) tail new = HasRenewed D old base tail new

  -- there is a base, and a call of a file failed
  abbrev pub IsNotRenewed : LogView F → Option Base → List Entry → LogView F → Type 0
  IsNotRenewed old None tail new = ⊥
  IsNotRenewed old (Some base) tail new = HasNotRenewed D old base tail new
