-- Faults of several devices, from call to call.
use Rattle.std.proofs.Common.{◌≡◌, ℕ, Result, Ok, Err, inl, inr, refl, sym, ap, subst, ◌∙◌, arith}
use Rattle.std.specs.Prelude.{IsErrAnd}
use Rattle.ann_fault.specs.Counts.{next_count}
use Rattle.ann_base.specs.Causes as pair
use Rattle.ann_resume.specs.declared.refused.RemoveRefused.{RemoveRefused}
use Rattle.ann_resume.specs.declared.refused.RemoveRefused.TheVariants as remove
use Rattle.ann_state.specs.declared.refused.ListRefused.{ListRefused}
use Rattle.ann_state.specs.declared.refused.ListRefused.TheVariants as listed
use Rattle.ann_recover.specs.Causes.{Faults, HasOneFault, IsCausedBy, AreCounted, IsOfStore}
use Rattle.ann_recover.specs.Refusal.{of_list, of_remove}
use Rattle.ann_recover.specs.declared.refused.RecoverWhy.{RecoverWhy}
use Rattle.ann_recover.specs.declared.refused.RecoverWhy.TheVariants.{Disk}

pub remove_store : (why : RemoveRefused) → IsOfStore (of_remove why)
remove_store remove.Disk = tt
remove_store remove.Memory = tt

-- ---- a call on the vault and the eye behind calls that went well

disk_listed : (why : ListRefused) → of_list why ≡ Disk → why ≡ listed.Disk
disk_listed (listed.BadLog entry) e = cc
disk_listed (listed.BadSegment block) e = cc
disk_listed listed.Disk e = refl
disk_listed listed.Memory e = cc

pub list_counted : {T : Type 0} (why : ListRefused) (result : Result T RecoverWhy) (old mid new : pair.Counts) → IsErrAnd result (λ e. e ≡ of_list why) → mid ≡ old → (why ≡ listed.Disk → pair.HasOneFault mid new) → ((why ≡ listed.Disk → ⊥) → new ≡ mid) → pair.AreCounted Disk result old new
list_counted why (Ok x) old mid new is calm failed refused = absurd is
list_counted why (Err e) old mid new is calm failed refused = record {
  calm = tt;
  failed = λ disk. subst (λ (c : pair.Counts). pair.HasOneFault c new) calm (failed (disk_listed why (sym is ∙ disk)));
  refused = λ other. refused (λ disk. other (is ∙ ap of_list disk)) ∙ calm;
}

-- ---- a call on the files and the vault behind a call on the vault and the eye that went well

abbrev at_eye : ℕ → Faults → Faults
at_eye eye f = record f { eye = eye }

one_with : (eye : ℕ) (old new : Faults) → old.eye ≡ 0 → new.eye ≡ 0 → HasOneFault old new → HasOneFault (at_eye eye old) (at_eye eye new)
one_with eye old new zero zero' (inl is) = inl (ap (at_eye eye) is)
one_with eye old new zero zero' (inr (inl is)) = inr (inl (ap (at_eye eye) is))
one_with eye old new zero zero' (inr (inr (inl is))) = inr (inr (inl (ap (at_eye eye) is)))
one_with eye old new zero zero' (inr (inr (inr is))) = (
    let same : new.eye ≡ next_count old.eye = ap (λ (f : Faults). f.eye) is in
    let none : next_count old.eye ≡ next_count 0 = ap next_count zero in
    absurd (omega (arith, same, none, zero')))

module _ {T : Type 0} where
  pub settle_counted : (why : RecoverWhy) (result : Result T RecoverWhy) (first second vault first' second' vault' before eye eye' : ℕ) → IsErrAnd result (λ e. e ≡ why) → pair.counts_of vault eye' ≡ pair.counts_of before eye → IsCausedBy (why ≡ Disk) (record { first = first; second = second; vault = vault; eye = 0 }) (record { first = first'; second = second'; vault = vault'; eye = 0 }) → AreCounted Disk result (record { first = first; second = second; vault = before; eye = eye }) (record { first = first'; second = second'; vault = vault'; eye = eye' })
  settle_counted why (Ok x) first second vault first' second' vault' before eye eye' is calm cause = absurd is
  settle_counted why (Err e) first second vault first' second' vault' before eye eye' is calm cause =
      let eyes : eye' ≡ eye = ap (λ (c : pair.Counts). c.eye) calm in
      let vaults : vault ≡ before = ap (λ (c : pair.Counts). c.vault) calm in
      subst (λ (n : ℕ). AreCounted {T = T} Disk (Err e) (record { first = first; second = second; vault = n; eye = eye }) (record { first = first'; second = second'; vault = vault'; eye = eye' })) vaults
      (subst (λ (n : ℕ). AreCounted {T = T} Disk (Err e) (record { first = first; second = second; vault = vault; eye = eye }) (record { first = first'; second = second'; vault = vault'; eye = n })) (sym eyes)
      (record {
        calm = tt;
        caused = record {
          failed = λ disk. one_with eye (record { first = first; second = second; vault = vault; eye = 0 }) (record { first = first'; second = second'; vault = vault'; eye = 0 }) refl refl (cause.failed (sym is ∙ disk));
          calm = λ other. ap (at_eye eye) (cause.calm (λ disk. other (is ∙ disk)));
        };
      }))
