-- How what is owed follows from what happened.
use Rattle.std.proofs.Common.{◌≡◌, ℕ, List, ap, subst, sym, refl, inl, inr, arith}
use Rattle.std.specs.Prelude.{Option, Ok, Err}
use Rattle.ann_init.specs.declared.refused.InitWhy.TheVariants as why
use Rattle.ann_script.specs.Reading.{Reads, ReadsAll, FindsFault, IsCut, BreaksOff, CountsReads}
use Rattle.ann_script.specs.Script.{Client}
use Rattle.ann_script.specs.declared.script_refused.ScriptRefused.{ScriptRefused}
use Rattle.ann_script.specs.declared.script_refused.ScriptRefused.TheVariants.{Line, Failed}
use Rattle.ann_script.specs.declared.verbs.Rules.{Rules}
use Rattle.ann_types.specs.declared.params.Params.{Params}
use Rattle.ann_commands.specs.Counts.{CountsDue}
use Rattle.ann_commands.specs.Status.{Outcome, Happens, HappensAway, Served, Usage, LineFault, ReadFault, NoMemory, Init, Check, status_of}
use Rattle.ann_commands.specs.Words.{IsOnce}
use Rattle.ann_commands.specs.Owed.{IsOwed, IsDue, owed_status, owed_text}
use Rattle.ann_commands.specs.Checked.{Devices}
use Rattle.ann_commands.specs.declared.place.Place.{Place}
use Rattle.ann_commands.specs.declared.owed.Owed.{Owed}
use Rattle.ann_commands.specs.declared.owed.Owed.TheVariants as owed

-- what happens without the place leaves it as it was
pub away : {F V E S : Type 0} (D : Devices F V E S) (words : List (List ℕ)) (left left' : Option (List ℕ)) (place : Place F V E) (outcome : Outcome) → HappensAway words left left' outcome → Happens D words left left' place place outcome
away D words left left' place (Served params script) happens = (happens, refl)
away D words left left' place Usage happens = (happens, refl)
away D words left left' place (LineFault number) happens = (happens, refl)
away D words left left' place ReadFault happens = (happens, refl)
away D words left left' place NoMemory happens = (happens, refl)
away D words left left' place (Init ended) happens = absurd happens
away D words left left' place (Check ended) happens = absurd happens

-- what is due after something happened, or there was no memory
pub owed_for : {F V E S : Type 0} (D : Devices F V E S) (words : List (List ℕ)) (left left' : Option (List ℕ)) (place : Place F V E) (params : Params) (outcome : Outcome) (owed : Owed) → IsOnce words params → HappensAway words left left' outcome → BreaksOff left left' → IsDue owed outcome → IsOwed D words left left' place place owed
owed_for D words left left' place params outcome owed once happens breaks (inl none) = record { outcome = NoMemory; happens = ((params, once, breaks), refl); status_is = ap owed_status none; text_is = ap owed_text none }
owed_for D words left left' place params outcome owed once happens breaks (inr due) = record { outcome = outcome; happens = away D words left left' place outcome happens; status_is = due.0; text_is = due.1 }

-- what a refusal of a script says of the input
pub finds_fault : (rules : Rules) (left left' : Option (List ℕ)) (refused : ScriptRefused) (number : ℕ) → Reads rules left left' (Err refused) → refused ≡ Line number → FindsFault rules left left' number
finds_fault rules left left' refused number reads is = subst (λ (r : ScriptRefused). Reads rules left left' (Err r)) is reads

pub is_cut : (rules : Rules) (left left' : Option (List ℕ)) (refused : ScriptRefused) → Reads rules left left' (Err refused) → refused ≡ Failed → IsCut rules left left'
is_cut rules left left' refused reads is = subst (λ (r : ScriptRefused). Reads rules left left' (Err r)) is reads

-- no more was read than the limit and a byte
pub read_few : (rules : Rules) (left left' : Option (List ℕ)) (script : List Client) → ReadsAll rules left left' script → BreaksOff left left'
read_few rules left left' script reads = record { bytes = reads.bytes; read = reads.read; short = omega (arith, reads.short) }

pub fault_few : (rules : Rules) (left left' : Option (List ℕ)) (number : ℕ) → FindsFault rules left left' number → BreaksOff left left'
fault_few rules left left' number finds = record { bytes = finds.bytes; read = finds.read; short = finds.short }

pub due_number : (owed : Owed) (n m : ℕ) → n ≡ m → IsDue owed (LineFault n) → IsDue owed (LineFault m)
due_number owed n m same due = subst (λ (k : ℕ). IsDue owed (LineFault k)) same due

-- what is due of anything but a failed read leaves the count of reads that failed
pub calm_due : (before now : ℕ) (outcome : Outcome) (o : Owed) → IsDue o outcome → (status_of outcome ≡ 4 → ⊥) → now ≡ before → CountsDue o before now
calm_due before now outcome (owed.Transcribed transcript) due other calm = calm
calm_due before now outcome owed.Usage due other calm = calm
calm_due before now outcome (owed.Line text) due other calm = calm
calm_due before now outcome owed.ReadFault (inl none) other calm = absurd cc
calm_due before now outcome owed.ReadFault (inr due) other calm = absurd (other (sym due.0))
calm_due before now outcome owed.Memory due other calm = calm
calm_due before now outcome (owed.Init ended) (inl none) other calm = absurd cc
calm_due before now outcome (owed.Init (Ok made)) (inr due) other calm = record { calm = calm; caused = tt }
calm_due before now outcome (owed.Init (Err why.ReadFault)) (inr due) other calm = absurd (other (sym due.0))
calm_due before now outcome (owed.Init (Err why.StoreFault)) (inr due) other calm = record { calm = tt; caused = record { fault = λ is. absurd cc; calm = λ _. calm } }
calm_due before now outcome (owed.Init (Err why.Memory)) (inr due) other calm = record { calm = tt; caused = record { fault = λ is. absurd cc; calm = λ _. calm } }
calm_due before now outcome (owed.Init (Err why.IndexThere)) (inr due) other calm = record { calm = tt; caused = record { fault = λ is. absurd cc; calm = λ _. calm } }
calm_due before now outcome (owed.Init (Err (why.BadBook found))) (inr due) other calm = record { calm = tt; caused = record { fault = λ is. absurd cc; calm = λ _. calm } }
calm_due before now outcome (owed.Summed text) due other calm = calm
calm_due before now outcome owed.NoIndex due other calm = calm
calm_due before now outcome (owed.Bad text) due other calm = calm
calm_due before now outcome owed.StoreFault due other calm = calm

-- no read failed before a line at fault
pub calm_line : (before now : ℕ) (refused : ScriptRefused) (number : ℕ) → CountsReads before now (Err refused) → refused ≡ Line number → now ≡ before
calm_line before now refused number count is = subst (λ (r : ScriptRefused). CountsReads before now (Err r)) is count

-- so far it was read before there was no memory
pub few : (rules : Rules) (left left' : Option (List ℕ)) (refused memory : ScriptRefused) → Reads rules left left' (Err refused) → refused ≡ memory → Reads rules left left' (Err memory)
few rules left left' refused memory reads is = subst (λ (r : ScriptRefused). Reads rules left left' (Err r)) is reads
