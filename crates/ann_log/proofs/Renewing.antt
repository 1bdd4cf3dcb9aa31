-- What renewing leaves, from its two steps.
use Rattle.std.proofs.Common.{Result, Ok, Err, OnOk, OnErr, ◌∙◌, inl, inr, subst, sym, List}
use Rattle.ann_types.specs.declared.entry.Entry.{Entry}
use Rattle.ann_disk.specs.declared.file.LogFile.{Ghosts}
use Rattle.ann_preamble.specs.declared.base.Base.{Base}
use Rattle.ann_log.specs.Anew.{IsWritten}
use Rattle.ann_log.specs.Causes.{HaveCause, HaveFault}
use Rattle.ann_log.specs.LogView.{LogView, files_of, held_of}
use Rattle.ann_log.specs.Renewed.{IsSameIndex, HasTurned, HasNotTurned, IsOnItsFile, HasCutOther, HasRenewed, HasNotRenewed}
use Rattle.ann_log.proofs.Faults.{calm_behind, fault_behind}

module _ {F : Type 0} (D : Ghosts F) (old : LogView F) (base : Base) (tail : List Entry) (mid new : LogView F) {E : Type 0} (r : Result (Unit {0}) E) (turned : HasTurned D old base tail mid) (same : IsOnItsFile D mid new) where
  index : IsSameIndex old new
  index = record { params = same.constant.params ∙ turned.constant.params; book = same.constant.book ∙ turned.constant.book }

  pub renewed_then : OnOk r (HasCutOther D mid new) → OnOk r (HasRenewed D old base tail new)
  renewed_then = on_ok r
    where
      on_ok : (r : Result (Unit {0}) E) → OnOk r (HasCutOther D mid new) → OnOk r (HasRenewed D old base tail new)
      on_ok (Err e) cut = tt
      on_ok (Ok x) cut = record {
        renewed = λ told. same.held told ∙ turned.renewed told;
        count = same.count ∙ turned.count;
        turned = record { side = same.side ∙ turned.turned.side; generation = same.generation ∙ turned.turned.generation; behind = same.base ∙ turned.turned.behind };
        constant = index;
        written = λ told. (
          subst (λ f. IsWritten (held_of new) new.generation (D.seen f)) (sym same.log)
              (subst (λ n. IsWritten (held_of new) n (D.seen mid.log)) (sym same.generation)
              (subst (λ h. IsWritten h mid.generation (D.seen mid.log)) (sym (same.held told)) (turned.written told))),
          cut.cut told,
        );
        after = cut.after;
        calm = calm_behind D (files_of old) (files_of mid) (files_of new) turned.calm cut.calm;
      }

  pub failed_then : HaveCause D (files_of mid) (files_of new) r → OnErr r (HasNotRenewed D old base tail new)
  failed_then cause = on_err r cause.failed
    where
      on_err : (r : Result (Unit {0}) E) → OnErr r (HaveFault D (files_of mid) (files_of new)) → OnErr r (HasNotRenewed D old base tail new)
      on_err (Ok x) fault = tt
      on_err (Err e) fault = record {
        refused = λ told. inr (same.held told ∙ turned.renewed told, same.generation ∙ turned.turned.generation);
        count = inr (same.count ∙ turned.count);
        constant = index;
        fault = fault_behind D (files_of old) (files_of mid) (files_of new) turned.calm fault;
      }

pub kept_then : {F : Type 0} (D : Ghosts F) (old : LogView F) (base : Base) (tail : List Entry) (new : LogView F) → HasNotTurned D old new → HasNotRenewed D old base tail new
kept_then D old base tail new is = record { refused = λ told. inl (is.kept told); count = inl is.count; constant = is.constant; fault = is.fault }
