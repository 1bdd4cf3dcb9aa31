-- What the program owes its output.
use Rattle.std.specs.Prelude.{◌≡◌, ◌≢◌, ℕ, ◌⊎◌, List, Option, Result, Err, codes, string_bytes}
use Rattle.std.specs.Io.KnownBytes.{Appends}
use Rattle.ann_outside.specs.Outputs.{AppendsFront}
use Rattle.ann_commands.specs.Status.{Outcome, Happens, status_of, text_of, init_status, init_text}
use Rattle.ann_recover.specs.declared.looking.Summary.{Summary}
use Rattle.ann_recover.specs.declared.refused.RecoverWhy.{RecoverWhy}
use Rattle.ann_recover.specs.declared.refused.RecoverWhy.TheVariants.{Disk}
use Rattle.ann_commands.specs.Checked.{Devices, check_status, check_text}
use Rattle.ann_commands.specs.declared.place.Place.{Place}
use Rattle.ann_commands.specs.declared.owed.Owed.{Owed}
use Rattle.ann_commands.specs.declared.owed.Owed.TheVariants.{Transcribed, Usage, Line, ReadFault, Memory, Init, Summed, NoIndex, Bad, StoreFault}

abbrev pub owed_status : Owed → ℕ
owed_status (Transcribed transcript) = 0
owed_status Usage = 2
owed_status (Line text) = 3
owed_status ReadFault = 4
owed_status Memory = 9
owed_status (Init ended) = init_status ended
owed_status (Summed text) = 0
owed_status NoIndex = 7
owed_status (Bad text) = 8
owed_status StoreFault = 6

abbrev pub owed_text : Owed → List ℕ
owed_text (Transcribed transcript) = transcript
owed_text Usage = codes "usage\n"
owed_text (Line text) = string_bytes text
owed_text ReadFault = codes "read fault\n"
owed_text Memory = codes "memory\n"
owed_text (Init ended) = init_text ended
owed_text (Summed text) = string_bytes text
owed_text NoIndex = codes "no index\n"
owed_text (Bad text) = string_bytes text
owed_text StoreFault = codes "store fault\n"

-- it is the status and the text of what happened
pub record IsOwed {F V E S : Type 0} (D : Devices F V E S) (words : List (List ℕ)) (left left' : Option (List ℕ)) (old new : Place F V E) (owed : Owed) : Type 0 where
  pub outcome : Outcome
  pub happens : Happens D words left left' old new outcome
  pub status_is : owed_status owed ≡ status_of outcome
  pub text_is : owed_text owed ≡ text_of outcome

-- it is the status and the text of this outcome, or there was no memory to make that text
abbrev pub IsDue : Owed → Outcome → Type 0
IsDue owed outcome = (owed ≡ Memory) ⊎ ((owed_status owed ≡ status_of outcome) × (owed_text owed ≡ text_of outcome))

-- it is the status and the text of a check that ended so, or there was no memory to make that text, which a fault of the store
-- doesn't need
abbrev pub IsSaid : Owed → Result Summary RecoverWhy → Type 0
IsSaid owed ended = ((owed ≡ Memory) × (ended ≢ Err Disk)) ⊎ ((owed_status owed ≡ check_status ended) × (owed_text owed ≡ check_text ended))

-- what is owed was written, or a write failed, so that the status is 5 and a front of it was
pub record IsPaid (taken taken' : Option (List ℕ)) (owed : Owed) (status : ℕ) : Type 0 where
  pub done : status ≢ 5 → (status ≡ owed_status owed) × Appends taken taken' (owed_text owed)
  pub broken : status ≡ 5 → AppendsFront taken taken' (owed_text owed)
