-- How a command ends.
use Rattle.std.specs.Prelude.{◌≡◌, ◌≢◌, ℕ, true, false, List, ◌++◌, Option, None, Result, Ok, Err, OnOk, IfErr, codes, decimal}
use Rattle.std.specs.Io.KnownBytes.{Appends}
use Rattle.ann_types.specs.declared.params.Params.{Params}
use Rattle.ann_script.specs.Script.{Client, rules}
use Rattle.ann_script.specs.declared.verbs.Verbs.TheVariants.{Once}
use Rattle.ann_script.specs.Reading.{ReadsAll, FindsFault, IsCut, BreaksOff}
use Rattle.ann_outside.specs.Outputs.{AppendsFront}
use Rattle.ann_disk.specs.declared.file.LogFile.{Ghosts}
use Rattle.ann_log.specs.Causes.{HaveCauses}
use Rattle.ann_log.specs.declared.files.Files.{Files}
use Rattle.ann_init.specs.Ends.{HasMade, IsRefusedFor}
use Rattle.ann_init.specs.Input.{ReadsBook}
use Rattle.ann_log.specs.Making.{base_alone}
use Rattle.ann_preamble.specs.Preamble.{no_base}
use Rattle.ann_recover.specs.Places.{IsSoundPlace}
use Rattle.ann_vault.specs.Held.{Holding}
use Rattle.ann_init.specs.declared.refused.BookFault.{BookFault}
use Rattle.ann_init.specs.declared.refused.BookFault.TheVariants as book
use Rattle.ann_init.specs.declared.refused.InitWhy.{InitWhy}
use Rattle.ann_init.specs.declared.refused.InitWhy.TheVariants as why
use Rattle.ann_recover.specs.declared.looking.Summary.{Summary}
use Rattle.ann_recover.specs.declared.refused.RecoverWhy.{RecoverWhy}
use Rattle.ann_commands.specs.Checked.{Devices, HasChecked, check_status, check_text}
use Rattle.ann_commands.specs.Place.{GetsFiles}
use Rattle.ann_commands.specs.Words.{once_setting, init_setting, is_check, IsOnce, IsInit}
use Rattle.ann_commands.specs.declared.place.Place.{Place}
use Rattle.ann_once.specs.Once.{once_index, once_text}

-- what came of a command: a script was served, the words or a line were at fault, a read failed, there was no memory, or
-- `init` or `check` ended so
pub data Outcome : Type 0 where
  Served : Params → List Client → Outcome
  Usage : Outcome
  LineFault : ℕ → Outcome
  ReadFault : Outcome
  NoMemory : Outcome
  Init : Result (Unit {0}) InitWhy → Outcome
  Check : Result Summary RecoverWhy → Outcome

abbrev pub init_status : Result (Unit {0}) InitWhy → ℕ
init_status (Ok made) = 0
init_status (Err why.ReadFault) = 4
init_status (Err why.StoreFault) = 6
init_status (Err why.Memory) = 9
init_status (Err why.IndexThere) = 10
init_status (Err (why.BadBook found)) = 11

abbrev pub book_text : BookFault → List ℕ
book_text book.Length = codes "bad codebook length\n"
book_text book.Magic = codes "bad codebook magic\n"
book_text book.Shape = codes "bad codebook shape\n"

abbrev pub init_text : Result (Unit {0}) InitWhy → List ℕ
init_text (Ok made) = codes "made\n"
init_text (Err why.ReadFault) = codes "read fault\n"
init_text (Err why.StoreFault) = codes "store fault\n"
init_text (Err why.Memory) = codes "memory\n"
init_text (Err why.IndexThere) = codes "index exists\n"
init_text (Err (why.BadBook found)) = book_text found

abbrev pub status_of : Outcome → ℕ
status_of (Served params script) = 0
status_of Usage = 2
status_of (LineFault number) = 3
status_of ReadFault = 4
status_of NoMemory = 9
status_of (Init ended) = init_status ended
status_of (Check ended) = check_status ended

abbrev pub line_fault_text : ℕ → List ℕ
line_fault_text number = codes "line " ++ decimal number ++ codes "\n"

-- what is due to be written
abbrev pub text_of : Outcome → List ℕ
text_of (Served params script) = once_text (once_index params) script
text_of Usage = codes "usage\n"
text_of (LineFault number) = line_fault_text number
text_of ReadFault = codes "read fault\n"
text_of NoMemory = codes "memory\n"
text_of (Init ended) = init_text ended
text_of (Check ended) = check_text ended

-- What happens without the place. The words are those of `once`: a script, what was read of the input before a line at
-- fault, a failed read, or want of memory. Or they are those of no command.
abbrev pub HappensAway : List (List ℕ) → Option (List ℕ) → Option (List ℕ) → Outcome → Type 0
HappensAway words left left' (Served params script) = IsOnce words params × ReadsAll (rules Once 1) left left' script
HappensAway words left left' Usage = (once_setting words ≡ None) × (init_setting words ≡ None) × (is_check words ≡ false) × (left' ≡ left)
HappensAway words left left' (LineFault number) = (params : Params) × IsOnce words params × FindsFault (rules Once 1) left left' number
HappensAway words left left' ReadFault = (params : Params) × IsOnce words params × IsCut (rules Once 1) left left'
HappensAway words left left' NoMemory = (params : Params) × IsOnce words params × BreaksOff left left'
HappensAway words left left' (Init ended) = ⊥
HappensAway words left left' (Check ended) = ⊥

-- The files are a sound place of an index without entries, with these parameters and the codebook that was read; whatever a
-- vault holds, since the empty list names no segment.
pub record IsSoundlyMade {F : Type 0} (D : Ghosts F) (p : Params) (left left' : Option (List ℕ)) (files : Files F) : Type 0 where
  pub bytes : List ℕ
  pub book : ReadsBook p left left' bytes
  pub sound : D.tells → (held : Holding) → IsSoundPlace D files held p (base_alone p bytes no_base).book

module _ {F V E : Type 0} (D : Ghosts F) where
  -- `init` with these parameters ended so in a place, which has its files again, and all else as it was
  pub record HasInited (p : Params) (left left' : Option (List ℕ)) (old new : Place F V E) (ended : Result (Unit {0}) InitWhy) : Type 0 where
    pub before : Files F
    pub after : Files F
    pub files : GetsFiles old new before after
    pub made : OnOk ended (HasMade D p left left' before after)
    pub sound : OnOk ended (IsSoundlyMade D p left left' after)
    pub refused : IfErr ended (IsRefusedFor D p left left' before after)
    -- a call of the files failed exactly where it says so
    pub stores : HaveCauses D before after why.StoreFault ended

module _ {F V E S : Type 0} (D : Devices F V E S) where
  -- The words are those of `init` or of `check`, which ended so; `check` reads no input. Or all else happened, and the place is
  -- as it was.
  abbrev pub Happens : List (List ℕ) → Option (List ℕ) → Option (List ℕ) → Place F V E → Place F V E → Outcome → Type 0
  Happens words left left' old new (Served params script) = HappensAway words left left' (Served params script) × (new ≡ old)
  Happens words left left' old new Usage = HappensAway words left left' Usage × (new ≡ old)
  Happens words left left' old new (LineFault number) = HappensAway words left left' (LineFault number) × (new ≡ old)
  Happens words left left' old new ReadFault = HappensAway words left left' ReadFault × (new ≡ old)
  Happens words left left' old new NoMemory = HappensAway words left left' NoMemory × (new ≡ old)
  Happens words left left' old new (Init ended) = (params : Params) × IsInit words params × HasInited D.log params left left' old new ended
  Happens words left left' old new (Check ended) = (is_check words ≡ true) × (left' ≡ left) × HasChecked D old new ended

  -- A command ends with the status of what happened, and its text was written; or a write failed, so that the status is 5
  -- and a front of that text was written.
  pub record Ends (words : List (List ℕ)) (left left' taken taken' : Option (List ℕ)) (old new : Place F V E) (status : ℕ) : Type 0 where
    pub outcome : Outcome
    pub happens : Happens words left left' old new outcome
    pub done : status ≢ 5 → (status ≡ status_of outcome) × Appends taken taken' (text_of outcome)
    pub broken : status ≡ 5 → AppendsFront taken taken' (text_of outcome)
