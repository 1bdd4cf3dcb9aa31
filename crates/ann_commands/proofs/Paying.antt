-- How a command ends, by what was owed and what was paid.
use Rattle.std.proofs.Common.{◌≡◌, ◌≢◌, ℕ, List, subst, sym, refl, ◌∙◌, ◌⊎◌, inl, inr, arith}
use Rattle.std.specs.Prelude.{Option}
use Rattle.std.specs.Io.KnownBytes.{Appends}
use Rattle.ann_outside.specs.Outputs.{AppendsFront}
use Rattle.ann_fault.specs.Counts.{next_count}
use Rattle.ann_commands.specs.Counts.{CountsDue, CountsReads}
use Rattle.ann_commands.specs.Owed.{IsOwed, IsPaid, owed_status}
use Rattle.ann_commands.specs.Status.{Ends}
use Rattle.ann_commands.specs.Checked.{Devices}
use Rattle.std.specs.Prelude.{Ok, Err}
use Rattle.ann_init.specs.declared.refused.InitWhy.TheVariants as why
use Rattle.ann_commands.specs.declared.place.Place.{Place}
use Rattle.ann_commands.specs.declared.owed.Owed.{Owed}
use Rattle.ann_commands.specs.declared.owed.Owed.TheVariants as owed

pub ends : {F V E S : Type 0} (D : Devices F V E S) (words : List (List ℕ)) (left left' taken taken' : Option (List ℕ)) (old new : Place F V E) (o : Owed) (status : ℕ) → IsOwed D words left left' old new o → IsPaid taken taken' o status → Ends D words left left' taken taken' old new status
ends D words left left' taken taken' old new o status owes paid = record {
  outcome = owes.outcome;
  happens = owes.happens;
  done = λ other. ((paid.done other).0 ∙ owes.status_is, subst (Appends taken taken') owes.text_is (paid.done other).1);
  broken = λ is. subst (AppendsFront taken taken') owes.text_is (paid.broken is);
}

-- the status that was given tells whether a read failed
owed_counts : (before now : ℕ) (o : Owed) → CountsDue o before now → (owed_status o ≡ 4 → now ≡ next_count before) × (owed_status o ≢ 4 → now ≡ before) × ((now ≡ before) ⊎ (now ≡ next_count before))
owed_counts before now (owed.Transcribed transcript) calm = (λ is. absurd (omega (arith, is)), λ other. calm, inl calm)
owed_counts before now owed.Usage calm = (λ is. absurd (omega (arith, is)), λ other. calm, inl calm)
owed_counts before now (owed.Line text) calm = (λ is. absurd (omega (arith, is)), λ other. calm, inl calm)
owed_counts before now owed.ReadFault failed = (λ is. failed, λ other. absurd (other refl), inr failed)
owed_counts before now owed.Memory calm = (λ is. absurd (omega (arith, is)), λ other. calm, inl calm)
owed_counts before now (owed.Init (Ok made)) due = (λ is. absurd (omega (arith, is)), λ other. due.calm, inl due.calm)
owed_counts before now (owed.Init (Err why.ReadFault)) due = (λ is. due.caused.fault refl, λ other. absurd (other refl), inr (due.caused.fault refl))
owed_counts before now (owed.Init (Err why.StoreFault)) due = (λ is. absurd (omega (arith, is)), λ other. due.caused.calm (λ same. absurd cc), inl (due.caused.calm (λ same. absurd cc)))
owed_counts before now (owed.Init (Err why.Memory)) due = (λ is. absurd (omega (arith, is)), λ other. due.caused.calm (λ same. absurd cc), inl (due.caused.calm (λ same. absurd cc)))
owed_counts before now (owed.Init (Err why.IndexThere)) due = (λ is. absurd (omega (arith, is)), λ other. due.caused.calm (λ same. absurd cc), inl (due.caused.calm (λ same. absurd cc)))
owed_counts before now (owed.Init (Err (why.BadBook found))) due = (λ is. absurd (omega (arith, is)), λ other. due.caused.calm (λ same. absurd cc), inl (due.caused.calm (λ same. absurd cc)))
owed_counts before now (owed.Summed text) calm = (λ is. absurd (omega (arith, is)), λ other. calm, inl calm)
owed_counts before now owed.NoIndex calm = (λ is. absurd (omega (arith, is)), λ other. calm, inl calm)
owed_counts before now (owed.Bad text) calm = (λ is. absurd (omega (arith, is)), λ other. calm, inl calm)
owed_counts before now owed.StoreFault calm = (λ is. absurd (omega (arith, is)), λ other. calm, inl calm)

pub counts : (before now : ℕ) (taken taken' : Option (List ℕ)) (o : Owed) (status : ℕ) → CountsDue o before now → IsPaid taken taken' o status → CountsReads status before now
counts before now taken taken' o status due paid =
    let is = owed_counts before now o due in
    record {
      failed = λ four. is.0 (sym (paid.done (λ five. absurd (omega (arith, four, five)))).0 ∙ four);
      calm = λ no_read no_write. is.1 (λ four. no_read ((paid.done no_write).0 ∙ four));
      one = is.2;
    }
