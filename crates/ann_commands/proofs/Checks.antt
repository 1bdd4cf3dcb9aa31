-- What is owed for a check.
use Rattle.std.proofs.Common.{◌≡◌, ◌≢◌, ℕ, List, ap, refl, inl, inr, arith, sym}
use Rattle.std.specs.Prelude.{Option, Result, Ok, Err, true}
use Rattle.ann_recover.specs.declared.looking.Summary.{Summary}
use Rattle.ann_recover.specs.declared.refused.RecoverWhy.{RecoverWhy}
use Rattle.ann_recover.specs.declared.refused.RecoverWhy.TheVariants as why
use Rattle.ann_init.specs.declared.refused.InitWhy.TheVariants as init
use Rattle.ann_recover.specs.Causes.{Faults, AreCounted}
use Rattle.ann_commands.specs.Checked.{Devices, HasChecked, check_status}
use Rattle.ann_commands.specs.Counts.{CountsDue}
use Rattle.ann_commands.specs.Owed.{IsOwed, IsSaid, owed_status, owed_text}
use Rattle.ann_commands.specs.Status.{Check}
use Rattle.ann_commands.specs.Words.{is_check}
use Rattle.ann_commands.specs.declared.place.Place.{Place}
use Rattle.ann_commands.specs.declared.owed.Owed.{Owed}
use Rattle.ann_commands.specs.declared.owed.Owed.TheVariants as owed

-- where no device failed there may be no memory
calm_memory : (ended : Result Summary RecoverWhy) (old new : Faults) → ended ≢ Err why.Disk → AreCounted why.Disk ended old new → new ≡ old
calm_memory (Ok summary) old new other counted = counted.calm
calm_memory (Err refused) old new other counted = counted.caused.calm (λ same. other (ap (λ (w : RecoverWhy). Err w) same))

-- a check for whose text there was no memory is one for which there was none
no_memory : {F V E S : Type 0} (D : Devices F V E S) (old new : Place F V E) (ended : Result Summary RecoverWhy) → ended ≢ Err why.Disk → HasChecked D old new ended → HasChecked D old new (Err why.Memory)
no_memory D old new ended other has = record {
  before = has.before;
  after = has.after;
  vault = has.vault;
  vault' = has.vault';
  eye = has.eye;
  eye' = has.eye';
  parts = has.parts;
  inspected = tt;
  refused = tt;
  never_bad = λ told seals params book sound. tt;
  same = has.same;
  held = has.held;
  stores = record { calm = tt; caused = record { failed = λ is. absurd cc; calm = λ _. calm_memory ended _ _ other has.stores } };
}

pub checked : {F V E S : Type 0} (D : Devices F V E S) (words : List (List ℕ)) (left : Option (List ℕ)) (old new : Place F V E) (ended : Result Summary RecoverWhy) (o : Owed) → is_check words ≡ true → HasChecked D old new ended → IsSaid o ended → IsOwed D words left left old new o
checked D words left old new ended o is has (inl none) = record { outcome = Check (Err why.Memory); happens = (is, refl, no_memory D old new ended none.1 has); status_is = ap owed_status none.0; text_is = ap owed_text none.0 }
checked D words left old new ended o is has (inr said) = record { outcome = Check ended; happens = (is, refl, has); status_is = said.0; text_is = said.1 }

-- the status of a check is none of a read that failed
no_read : (ended : Result Summary RecoverWhy) → 4 ≡ check_status ended → ⊥
no_read (Ok summary) four = absurd (omega (arith, four))
no_read (Err why.NoIndex) four = absurd (omega (arith, four))
no_read (Err (why.BadLog entry)) four = absurd (omega (arith, four))
no_read (Err (why.BadSegment block)) four = absurd (omega (arith, four))
no_read (Err why.Disk) four = absurd (omega (arith, four))
no_read (Err why.Memory) four = absurd (omega (arith, four))

-- what is owed for a check is no read that failed
pub said_calm : (ended : Result Summary RecoverWhy) (o : Owed) (count : ℕ) → IsSaid o ended → CountsDue o count count
said_calm ended (owed.Transcribed transcript) count said = refl
said_calm ended owed.Usage count said = refl
said_calm ended (owed.Line text) count said = refl
said_calm ended owed.ReadFault count (inl none) = absurd cc
said_calm ended owed.ReadFault count (inr said) = absurd (no_read ended said.0)
said_calm ended owed.Memory count said = refl
said_calm ended (owed.Init made) count (inl none) = absurd cc
said_calm ended (owed.Init (Ok made)) count (inr said) = record { calm = refl; caused = tt }
said_calm ended (owed.Init (Err init.ReadFault)) count (inr said) = absurd (no_read ended said.0)
said_calm ended (owed.Init (Err init.StoreFault)) count (inr said) = record { calm = tt; caused = record { fault = λ is. absurd cc; calm = λ _. refl } }
said_calm ended (owed.Init (Err init.Memory)) count (inr said) = record { calm = tt; caused = record { fault = λ is. absurd cc; calm = λ _. refl } }
said_calm ended (owed.Init (Err init.IndexThere)) count (inr said) = record { calm = tt; caused = record { fault = λ is. absurd cc; calm = λ _. refl } }
said_calm ended (owed.Init (Err (init.BadBook found))) count (inr said) = record { calm = tt; caused = record { fault = λ is. absurd cc; calm = λ _. refl } }
said_calm ended (owed.Summed text) count said = refl
said_calm ended owed.NoIndex count said = refl
said_calm ended (owed.Bad text) count said = refl
said_calm ended owed.StoreFault count said = refl
