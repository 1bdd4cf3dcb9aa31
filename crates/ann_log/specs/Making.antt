-- What making a log leaves.
use Rattle.std.specs.Prelude.{◌≡◌, ◌⊎◌, ℕ, false, List, []}
use Rattle.ann_types.specs.declared.params.Params.{Params}
use Rattle.ann_pq.specs.Codebook.{CodebookView}
use Rattle.ann_pq.specs.Format.{codebook}
use Rattle.ann_disk.specs.Image.{Unsynced, IsImage}
use Rattle.ann_disk.specs.declared.file.LogFile.{Ghosts}
use Rattle.ann_preamble.specs.Preamble.{Said, no_base}
use Rattle.ann_preamble.specs.declared.base.Base.{Base}
use Rattle.ann_preamble.specs.declared.choice.Side.TheVariants.{First}
use Rattle.ann_log.specs.Anew.{IsWritten, HasWritten}
use Rattle.ann_log.specs.Causes.{AreCalm, AreCausedBy}
use Rattle.ann_log.specs.LogView.{LogView, HasRoom, files_of, held_of}
use Rattle.ann_log.specs.Pairs.{EachPair, LeavePairs, AreUntouched}
use Rattle.ann_log.specs.Text.{holds, log_text, Held, StandsFor, IsNoIndex}
use Rattle.ann_log.specs.Told.{IsSynced, MayLeave}
use Rattle.ann_log.specs.declared.files.Files.{Files}
use Rattle.ann_log.specs.declared.refused.MakeWhy.{MakeWhy}
use Rattle.ann_log.specs.declared.refused.MakeWhy.TheVariants.{IndexThere, Disk, Memory}
use Rattle.ann_log.specs.declared.room.Room.{Room}

-- a base and no entries
abbrev pub held_with : Params → CodebookView → Base → Held
held_with params book base = record { params = params; book = book; base = base; entries = [] }

-- the same with the codebook of these bytes
abbrev pub base_alone : Params → List ℕ → Base → Held
base_alone params book base = held_with params (codebook params.d params.m book) base

-- the files stand for the empty list: nothing stood before it, and it has no entries
abbrev pub IsEmpty : List ℕ → List ℕ → Type 0
IsEmpty first second = (s : Said) × (s.fields.base ≡ no_base) × (log_text first second ≡ holds s [])

-- no index, or an empty one
abbrev pub HoldsNothing : List ℕ → List ℕ → Type 0
HoldsNothing first second = IsNoIndex first second ⊎ IsEmpty first second

-- a crash might leave the empty list
pub record MayBeEmpty (u v : Unsynced) : Type 0 where
  pub first : List ℕ
  pub second : List ℕ
  pub first_image : IsImage u first
  pub second_image : IsImage v second
  pub empty : IsEmpty first second

-- no index, the empty list where a crash might have left it before, or what is to be made
abbrev pub IsNothingOr : Unsynced → Unsynced → Held → List ℕ → List ℕ → Type 0
IsNothingOr u v held first second = IsNoIndex first second ⊎ ((IsEmpty first second × MayBeEmpty u v) ⊎ StandsFor held first second)

-- no index, or what is to be made
abbrev pub IsNoIndexOr : Held → List ℕ → List ℕ → Type 0
IsNoIndexOr held first second = IsNoIndex first second ⊎ StandsFor held first second

-- a log that was just made: the first file is the log, it has no entries, and it isn't closed
pub record IsFresh {F : Type 0} (p : Params) (shown : CodebookView) (b : Base) (log : LogView F) : Type 0 where
  pub params : log.params ≡ p
  pub book : log.book ≡ shown
  pub base : log.base ≡ b
  pub generation : log.generation ≡ 1
  pub side : log.side ≡ First
  pub count : log.count ≡ 0
  pub open_now : log.is_closed ≡ false

module _ {F : Type 0} (seen : F → List ℕ) (unsynced : F → Unsynced) (past : F → List Unsynced) where
  -- What a refusal leaves. An index is there exactly where it says so, and is untouched. After a fault the files are untouched,
  -- or there was no index and there is none, or what was to be made.
  abbrev pub IsUnmadeBy : Held → Files F → Files F → MakeWhy → Type 0
  IsUnmadeBy held old new IndexThere = (IsNoIndex (seen old.first) (seen old.second) → ⊥) × AreUntouched seen unsynced past old new
  IsUnmadeBy held old new Disk =
      AreUntouched seen unsynced past old new ⊎ (IsNoIndex (seen old.first) (seen old.second) × IsNoIndexOr held (seen new.first) (seen new.second))
  IsUnmadeBy held old new Memory = AreUntouched seen unsynced past old new

module _ {F : Type 0} (D : Ghosts F) where
  -- neither file begins with a preamble
  abbrev pub HaveNone : Files F → Type 0
  HaveNone files = D.tells → IsNoIndex (D.seen files.first) (D.seen files.second)

  -- an index is there where the refusal says so
  abbrev pub IsThere : Files F → MakeWhy → Type 0
  IsThere files why = D.tells → why ≡ IndexThere → IsNoIndex (D.seen files.first) (D.seen files.second) → ⊥

  -- no index is there, and this is the codebook of the bytes with room for writing
  pub record HasGathered (p : Params) (bytes : List ℕ) (files : Files F) (shown : CodebookView) (space : Room) : Type 0 where
    pub none : HaveNone files
    pub book : shown ≡ codebook p.d p.m bytes
    pub room : HasRoom p.d space.frame.items space.preamble.items

  -- the first file was written anew, and the second is empty, all on the disk
  pub record AreWritten (held : Held) (files : Files F) (gate : ℕ) : Type 0 where
    pub first : HasWritten D held 1 files.first gate
    pub second : D.tells → D.seen files.second ≡ []
    pub rest : IsSynced D files.second

  -- what a call leaves that writes them, where no index was
  pub record LeavesMade (held : Held) (old new : Files F) : Type 0 where
    -- where a crash before it leaves no index or an empty one, a crash at any moment of it does, or it leaves what is made
    pub during : D.tells → EachPair D.unsynced HoldsNothing old → LeavePairs D.past D.unsynced old new (IsNothingOr (D.unsynced old.first) (D.unsynced old.second) held)
    pub read : D.tells → IsNoIndexOr held (D.seen new.first) (D.seen new.second)

  -- A log was made. Where a crash before the call leaves no index or an empty one, a crash meanwhile leaves what has P.
  pub record IsMade (old : Files F) (p : Params) (shown : CodebookView) (b : Base) (P : List ℕ → List ℕ → Type 0) (log : LogView F) : Type 0 where
    pub none : HaveNone old
    pub held : D.tells → held_of log ≡ held_with p shown b
    pub constant : IsFresh p shown b log
    -- its file is a preamble and a gate, byte for byte, and the other one is empty
    pub written : D.tells → IsWritten (held_of log) 1 (D.seen log.log) × (D.seen log.other ≡ [])
    pub during : D.tells → EachPair D.unsynced HoldsNothing old → LeavePairs D.past D.unsynced old (files_of log) P
    -- a crash after the call leaves the log that was made
    pub after : MayLeave D (files_of log) (StandsFor (held_of log))
    pub calm : AreCalm D old (files_of log)

  -- A log wasn't made.
  pub record IsNotMade (old : Files F) (held : Held) (P : List ℕ → List ℕ → Type 0) (new : Files F) (why : MakeWhy) : Type 0 where
    pub refused : D.tells → IsUnmadeBy D.seen D.unsynced D.past held old new why
    pub during : D.tells → EachPair D.unsynced HoldsNothing old → LeavePairs D.past D.unsynced old new P
    pub cause : AreCausedBy D old new (why ≡ Disk)
