use Rattle.std.proofs.Common.{refl}
use Rattle.ann_base.proofs.Results.{err_is}
use Rattle.ann_state.specs.List.{IsListRefused}
use Rattle.ann_state.proofs.Grounds.{list_read, judge_refused}
use Rattle.ann_state.proofs.list.read_list.Goals as goal

pub returns-in_err-judged-clause-refused : goal.returns-in_err-judged-clause-refused
returns-in_err-judged-clause-refused g c =
    err_is c.from_residual-in_err-judged.result (IsListRefused g.V.Seal.Sealed.tells g.V.Seal.Sealed.bytes (g.V.Vault.held c.args.vault.now) c.args.params.now c.args.base.now c.args.entries.now) _ c.from_residual-in_err-judged.ensures.1
    (judge_refused g.V.Seal.Sealed.tells g.V.Seal.Sealed.bytes (g.V.Vault.held c.args.vault.now) c.args.params.now c.args.base.now c.in_ok-grounded.grounded c.in_ok-grounded.ensures.opened c.args.entries.now _ refl refl refl _ c.in_err-judged.ensures)

pub returns-clause-read : goal.returns-clause-read
returns-clause-read g c =
    list_read g.V.Seal.Sealed.tells g.V.Seal.Sealed.bytes (g.V.Vault.held c.args.vault.now) c.args.params.now c.args.base.now c.in_ok-grounded.grounded c.in_ok-grounded.ensures.opened c.args.entries.now _ refl refl refl _ refl c.in_ok-judged.ensures
