use Rattle.std.proofs.Common.{◌≡◌, ◌+◌, ap, sym, ◌∙◌}
use Rattle.std.specs.Prelude.{Some}
use Rattle.ann_log.specs.LogView.{LogView}
use Rattle.ann_account.specs.Account.{AccountView}
use Rattle.ann_ledger.proofs.Opens.{below, ledger_taken, small_number, some_open}
use Rattle.ann_ledger.proofs.ledger.Ledger.take.Goals as goal

pub of_begin-requires-clause-small : goal.of_begin-requires-clause-small
of_begin-requires-clause-small g c =
    small_number g.F.LogFile g.V.Seal.Sealed.bytes c.requires.list.0 c.requires.list.1 c.args.self.now.journal c.args.view.now c.requires.list.2.journal_is c.requires.list.3 c.in-Some.position c.count-small.result
    (ap (λ (a : AccountView _). a.begun) (sym c.account.ensures) ∙ sym c.begun.ensures ∙ c.in-Some.is)
    (c.count-small.ensures.count ∙ ap (λ (l : LogView _). l.base.position + l.count) c.log-log.ensures)
    c.count-small.ensures.bound

pub of_begin-requires-clause-older : goal.of_begin-requires-clause-older
of_begin-requires-clause-older g c =
    below g.F.LogFile g.V.Seal.Sealed.bytes c.requires.list.0 c.requires.list.1 c.args.self.now.journal c.args.view.now c.requires.list.2.journal_is c.requires.list.3 c.in-Some.position
    (ap (λ (a : AccountView _). a.begun) (sym c.account.ensures) ∙ sym c.begun.ensures ∙ c.in-Some.is)
    c.requires.list.2.older

pub returns-clause-ledger : goal.returns-clause-ledger
returns-clause-ledger g c sound h is =
    ledger_taken g.F.LogFile g.V.Seal.Sealed.tells g.V.Seal.Sealed.bytes g.V.Vault.held sound h c.args.self.now.journal c.args.self.now.stock c.take.new.self is
    (some_open g.F.LogFile h c.args.self.now.journal is.journal_is c.in-Some.position (ap (λ (a : AccountView _). a.begun) (sym c.account.ensures) ∙ sym c.begun.ensures ∙ c.in-Some.is))
    c.take.ensures.out
