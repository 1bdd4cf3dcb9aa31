use Rattle.std.proofs.Common.{◌∙◌, ap, refl, subst, sym}
use Rattle.ann_ledger.specs.Ledger.{IsJobOn}
use Rattle.ann_stock.specs.Stock.{StockView}
use Rattle.ann_index.specs.Devices.{JobGoesOn}
use Rattle.ann_index.specs.Stages.{IsUndone}
use Rattle.ann_index.specs.Steps.{IsWorkCause}
use Rattle.ann_index.specs.declared.refusal.MergeRefused.{MergeRefused}
use Rattle.ann_index.proofs.Causes.{cause_of}
use Rattle.ann_index.proofs.Stages.{undone}
use Rattle.ann_index.proofs.working.work_out.Goals as goal

pub returns-in-Ok-clause-worked : goal.returns-in-Ok-clause-worked
returns-in-Ok-clause-worked g c sound h l is = record {
  done = c.in-Ok.ensures.worked.0;
  order = c.work.ensures.order;
  same = (refl, refl);
  job_is = c.is_closed-open.ensures.working (c.is_closed-open.ensures.closed ∙ c.requires.open) sound h c.args.job c.work.new.self l is c.work.ensures.order c.work.ensures.vault.others;
}

pub returns-in-Err-clause-worked : goal.returns-in-Err-clause-worked
returns-in-Err-clause-worked g c sound h l is =
    let on : IsJobOn g.F.LogFile g.S.Sealed.tells g.S.Sealed.bytes g.V.Vault.held sound c.args.ledger.now.journal.log h c.work.new.self =
    c.is_closed-open.ensures.working (c.is_closed-open.ensures.closed ∙ c.requires.open) sound h c.args.job c.work.new.self l is c.work.ensures.order c.work.ensures.vault.others in
    record {
      worked = c.work.new.self;
      cause = subst (λ (e : MergeRefused). IsWorkCause g.F.LogFile g.S.Sealed.tells g.S.Sealed.bytes g.V.Vault.held g.V.Vault.faults g.E.Eye.faults sound c.args.job c.work.new.self e) (sym c.from.ensures)
          (cause_of g.F.LogFile g.S.Sealed.tells g.S.Sealed.bytes g.V.Vault.held g.V.Vault.faults g.E.Eye.reads g.E.Eye.faults sound h c.args.ledger.now.journal.log c.args.job c.work.new.self (λ t. (l.told t).1) is c.in-Err.why c.in-Err.ensures.refused);
      same = c.give_back.ensures.journal;
      tools = ap (λ (s : StockView _ _ _). s.tools) c.give_back.ensures.stock;
      ledger = c.give_back.ensures.ledger sound h l on;
    }

pub returns-in-Err-clause-works : goal.returns-in-Err-clause-works
returns-in-Err-clause-works g c =
    let on : JobGoesOn g.V.Vault.faults g.E.Eye.reads g.E.Eye.faults c.args.job c.work.new.self =
    record { order = c.work.ensures.order; vault_later = c.work.ensures.vault.later; eyes_later = c.work.ensures.eyes } in
    subst (λ (e : MergeRefused). IsUndone g.S.Sealed.tells g.S.Sealed.bytes g.V.Vault.faults g.E.Eye.reads g.E.Eye.faults c.args.job c.args.ledger.now.stock c.give_back.new.self.stock e) (sym c.from.ensures)
    (undone g.S.Sealed.tells g.S.Sealed.bytes g.V.Vault.faults g.E.Eye.reads g.E.Eye.faults c.args.job c.work.new.self on c.args.ledger.now.stock c.give_back.new.self.stock c.in-Err.why (g.V.Vault.faults c.args.job.vault) (g.V.Vault.faults c.work.new.self.vault) c.in-Err.ensures.worked.0 c.give_back.ensures.stock c.in-Err.ensures.refused.cause)
