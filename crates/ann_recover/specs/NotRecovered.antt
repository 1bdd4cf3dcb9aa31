-- Why an index isn't opened again, and what such a refusal leaves of its files and of its vault.
use Rattle.std.specs.Prelude.{◌≡◌, ◌⊎◌, ℕ, List, Option}
use Rattle.ann_types.specs.declared.entry.Entry.{Entry}
use Rattle.ann_disk.specs.declared.file.LogFile.{Ghosts}
use Rattle.ann_log.specs.LogView.{LogView, files_of}
use Rattle.ann_log.specs.Opened.{seen_on, seen_off}
use Rattle.ann_log.specs.Text.{Held, IsNoIndex, StandsAt, StandsFor, bad_log, log_text, said_of, upto_gate}
use Rattle.ann_log.specs.Told.{HoldSame}
use Rattle.ann_log.specs.declared.files.Files.{Files}
use Rattle.ann_preamble.specs.declared.choice.Side.{Side}
use Rattle.ann_vault.specs.Held.{Holding}
use Rattle.ann_reopen.specs.declared.judged.Merge.{Merge}
use Rattle.ann_resume.specs.Removed.{is_named, MayLack}
use Rattle.ann_recover.specs.Causes.{IsOfStore}
use Rattle.ann_recover.specs.Fresh.{held_with}
use Rattle.ann_recover.specs.Loaded.{IsReplayed, IsLoadRefused}
use Rattle.ann_recover.specs.Recovered.{HaveStood}
use Rattle.ann_recover.specs.Renewal.{renewal_of, renewed_on, number_of}
use Rattle.ann_recover.specs.declared.refused.RecoverWhy.{RecoverWhy}
use Rattle.ann_recover.specs.declared.refused.RecoverWhy.TheVariants.{NoIndex, BadLog, BadSegment, Disk, Memory}

-- ---- why

-- the list for which the files stood is refused so
pub record IsUnread {F S : Type 0} (D : Ghosts F) (tells : Type 0) (bytes : S → List ℕ) (held : Holding) (files : Files F) (why : RecoverWhy) : Type 0 where
  pub was : Held
  pub generation : ℕ
  pub stood : HaveStood D files was generation
  pub refused : IsLoadRefused tells bytes held was.params was.base was.entries why

-- An index is refused by what the files say, or else by the list for which they stand; or for a fault or want of memory.
abbrev pub IsRefusedFor : {F S : Type 0} → Ghosts F → Type 0 → (S → List ℕ) → Holding → Files F → RecoverWhy → Type 0
IsRefusedFor D tells bytes held files NoIndex = D.tells → IsNoIndex (D.seen files.first) (D.seen files.second)
IsRefusedFor D tells bytes held files (BadLog entry) =
    (D.tells → log_text (D.seen files.first) (D.seen files.second) ≡ bad_log entry)
    ⊎ IsUnread D tells bytes held files (BadLog entry)
IsRefusedFor D tells bytes held files (BadSegment block) = IsUnread D tells bytes held files (BadSegment block)
IsRefusedFor D tells bytes held files Disk = Unit {0}
IsRefusedFor D tells bytes held files Memory = Unit {0}

-- ---- what is left of the files

module _ {F : Type 0} (D : Ghosts F) where
  -- The files stand for the list for which they stood. What was behind the last gate of one of them is cut off, and the other
  -- one holds what it held.
  pub record AreTrimmed (old new : Files F) : Type 0 where
    pub was : Held
    pub generation : ℕ
    pub stood : StandsAt generation was (D.seen old.first) (D.seen old.second)
    pub stand : StandsFor was (D.seen new.first) (D.seen new.second)
    pub side : Side
    pub log : seen_on D side new ≡ upto_gate (said_of was generation) (seen_on D side old)
    pub other : seen_off D side new ≡ seen_off D side old

  -- the files hold what they held, up to the last gate of the log
  abbrev pub HoldList : Files F → Files F → Type 0
  HoldList old new = HoldSame D old new ⊎ AreTrimmed old new

-- ---- what is left of the vault

-- The list was read, and the log was written anew before, where it must. Of the segments that neither the log's base nor the
-- last End names some may be gone.
pub record IsCleared {F S : Type 0} (D : Ghosts F) (tells : Type 0) (bytes : S → List ℕ) (held after : Holding) (was : Held) (generation : ℕ) (new : Files F) : Type 0 where
  pub merge : Option Merge
  pub replayed : IsReplayed tells bytes held was.params was.book was.base was.entries merge
  pub now : Held
  pub renewed : now ≡ renewed_on was (renewal_of was.base generation merge) replayed.left.entries
  pub stand : D.tells → StandsFor now (D.seen new.first) (D.seen new.second)
  pub lacks : MayLack (is_named now.base.segment (number_of merge)) held after

-- so it is for the list for which the files stood
pub record IsReadAndCleared {F S : Type 0} (D : Ghosts F) (tells : Type 0) (bytes : S → List ℕ) (held after : Holding) (old new : Files F) : Type 0 where
  pub was : Held
  pub generation : ℕ
  pub stood : HaveStood D old was generation
  pub cleared : IsCleared D tells bytes held after was generation new

-- A vault holds what it held; after a refusal of the store alone it may be cleared instead.
pub record IsVaultLeft (held after : Holding) (refusal : RecoverWhy) (cleared : Type 0) : Type 0 where
  pub kept : (IsOfStore refusal → ⊥) → after ≡ held
  pub lacks : (after ≡ held) ⊎ cleared

-- ---- refusals

-- the list of a log isn't revived
pub record IsNotRevived {F S : Type 0} (D : Ghosts F) (tells : Type 0) (bytes : S → List ℕ) (held after : Holding) (log : LogView F) (entries : List Entry) (new : Files F) (refusal : RecoverWhy) : Type 0 where
  pub why : IsLoadRefused tells bytes held log.params log.base entries refusal
  pub vault : tells → IsVaultLeft held after refusal (IsCleared D tells bytes held after (held_with log entries) log.generation new)
  pub files : (IsOfStore refusal → ⊥) → new ≡ files_of log

-- An index isn't opened. A refusal that isn't of the store leaves what the vault holds, and what the files do.
pub record IsNotRecovered {F S : Type 0} (D : Ghosts F) (tells : Type 0) (bytes : S → List ℕ) (held after : Holding) (old new : Files F) (refusal : RecoverWhy) : Type 0 where
  pub why : IsRefusedFor D tells bytes held old refusal
  pub vault : tells → IsVaultLeft held after refusal (IsReadAndCleared D tells bytes held after old new)
  pub files : (IsOfStore refusal → ⊥) → D.tells → HoldList D old new
