-- How `check` ends.
use Rattle.std.specs.Prelude.{◌≡◌, ℕ, List, ◌++◌, Option, None, Some, Result, Ok, Err, IfOk, IfErr, codes, decimal}
use Rattle.ann_types.specs.declared.params.Params.{Params}
use Rattle.ann_disk.specs.declared.file.LogFile.{Ghosts}
use Rattle.ann_log.specs.Told.{AreSame}
use Rattle.ann_log.specs.declared.files.Files.{Files}
use Rattle.ann_pq.specs.Codebook.{CodebookView}
use Rattle.ann_vault.specs.Held.{Holding}
use Rattle.ann_recover.specs.Causes.{AreCounted, IsOfStore, faults_of}
use Rattle.ann_recover.specs.Inspected.{IsInspected, IsNotInspected}
use Rattle.ann_recover.specs.Places.{IsSoundPlace}
use Rattle.ann_recover.specs.declared.looking.Summary.{Summary}
use Rattle.ann_recover.specs.declared.refused.RecoverWhy.{RecoverWhy}
use Rattle.ann_recover.specs.declared.refused.RecoverWhy.TheVariants as why
use Rattle.ann_commands.specs.Place.{GetsParts}
use Rattle.ann_commands.specs.declared.place.Place.{Place}

-- what the devices of a place tell, and count: its files, the bytes of a seal, what its vault holds, and the faults of its
-- vault and of its eyes
pub record Devices (F V E S : Type 0) : Type 1 where
  pub log : Ghosts F
  pub tells : Type 0
  pub bytes : S → List ℕ
  pub held : V → Holding
  pub vault_faults : V → ℕ
  pub eye_faults : E → ℕ

abbrev pub devices : {F V E S : Type 0} → Ghosts F → Type 0 → (S → List ℕ) → (V → Holding) → (V → ℕ) → (E → ℕ) → Devices F V E S
devices log tells bytes held vault_faults eye_faults = record { log = log; tells = tells; bytes = bytes; held = held; vault_faults = vault_faults; eye_faults = eye_faults }

-- `ok N entries, M live, segment`, and what follows
abbrev pub summary_line : ℕ → ℕ → List ℕ → List ℕ
summary_line entries live rest = codes "ok " ++ (decimal entries ++ (codes " entries, " ++ (decimal live ++ (codes " live, segment " ++ rest))))

abbrev pub segment_text : Option ℕ → List ℕ
segment_text None = codes "none\n"
segment_text (Some number) = decimal number ++ codes "\n"

abbrev pub summary_text : Summary → List ℕ
summary_text summary = summary_line summary.entries summary.live (segment_text summary.segment)

abbrev pub bad_log_text : ℕ → List ℕ
bad_log_text entry = codes "bad log " ++ decimal entry ++ codes "\n"

abbrev pub bad_segment_text : ℕ → List ℕ
bad_segment_text block = codes "bad segment " ++ decimal block ++ codes "\n"

abbrev pub check_status : Result Summary RecoverWhy → ℕ
check_status (Ok summary) = 0
check_status (Err why.NoIndex) = 7
check_status (Err (why.BadLog entry)) = 8
check_status (Err (why.BadSegment block)) = 8
check_status (Err why.Disk) = 6
check_status (Err why.Memory) = 9

abbrev pub check_text : Result Summary RecoverWhy → List ℕ
check_text (Ok summary) = summary_text summary
check_text (Err why.NoIndex) = codes "no index\n"
check_text (Err (why.BadLog entry)) = bad_log_text entry
check_text (Err (why.BadSegment block)) = bad_segment_text block
check_text (Err why.Disk) = codes "store fault\n"
check_text (Err why.Memory) = codes "memory\n"

-- `check` ended so in a place, which has its parts again: files that read as before, a vault that holds what it held, and the
-- first worker eye; all else is as it was
pub record HasChecked {F V E S : Type 0} (D : Devices F V E S) (old new : Place F V E) (ended : Result Summary RecoverWhy) : Type 0 where
  pub before : Files F
  pub after : Files F
  pub vault : V
  pub vault' : V
  pub eye : E
  pub eye' : E
  pub parts : GetsParts old new before after vault vault' eye eye'
  pub inspected : IfOk ended (IsInspected D.log D.tells D.bytes (D.held vault) before)
  pub refused : IfErr ended (IsNotInspected D.log D.tells D.bytes (D.held vault) before)
  -- a sound place is never refused as bad
  pub never_bad : D.log.tells → D.tells → (params : Params) (book : CodebookView) → IsSoundPlace D.log before (D.held vault) params book → IfErr ended IsOfStore
  pub same : AreSame D.log before after
  pub held : D.tells → D.held vault' ≡ D.held vault
  -- a call of a device failed exactly where it says so
  pub stores : AreCounted why.Disk ended (faults_of D.log.faults before (D.vault_faults vault) (D.eye_faults eye)) (faults_of D.log.faults after (D.vault_faults vault') (D.eye_faults eye'))
