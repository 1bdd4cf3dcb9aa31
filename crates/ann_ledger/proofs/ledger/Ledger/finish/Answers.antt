use Rattle.std.proofs.Common.{◌≡◌, ◌∷◌, [], ◌++◌, ap, ◌∙◌}
use Rattle.std.specs.Prelude.{option_to_list}
use Rattle.ann_stock.specs.Stock.{StockView}
use Rattle.ann_ledger.specs.Merging.{HasEnded}
use Rattle.ann_ledger.proofs.Ends.{IsHeld, job_still, ledger_ended, ledger_out, unfinished}
use Rattle.ann_ledger.proofs.Growing.{same_index}
use Rattle.ann_ledger.proofs.ledger.Ledger.finish.Goals as goal

pub end-requires-clause-out : goal.end-requires-clause-out
end-requires-clause-out g c =
    (c.in-Ok.ensures.ended c.requires.list.0 c.requires.list.1 c.requires.list.2 c.requires.list.3).stock.tools ∙ c.requires.out

pub end-requires-clause-room : goal.end-requires-clause-room
end-requires-clause-room g c =
    (c.in-Ok.ensures.ended c.requires.list.0 c.requires.list.1 c.requires.list.2 c.requires.list.3).room

pub returns-in-Ok-clause-finished : goal.returns-in-Ok-clause-finished
returns-in-Ok-clause-finished g c sound h is on =
    let w : HasEnded g.F.LogFile h c.args.by c.args.job c.args.self.now.journal c.log_end.new.self.journal c.args.self.now.stock c.log_end.new.self.stock c.in-Ok.receipt = c.in-Ok.ensures.ended sound h is on in
    record {
      open_now = w.open_now;
      logged = w.logged;
      place = w.place;
      tools = ap (λ (s : StockView _ _ _). s.tools) c.end.ensures;
      retired = ap (λ (s : StockView _ _ _). s.retired) c.end.ensures ∙ ap (λ r. r ++ option_to_list c.args.job.order.old) w.stock.retired;
    }

pub returns-in-Ok-clause-ledger : goal.returns-in-Ok-clause-ledger
returns-in-Ok-clause-ledger g c sound h is on =
    let w : HasEnded g.F.LogFile h c.args.by c.args.job c.args.self.now.journal c.log_end.new.self.journal c.args.self.now.stock c.log_end.new.self.stock c.in-Ok.receipt = c.in-Ok.ensures.ended sound h is on in
    ledger_ended g.F.LogFile g.V.Seal.Sealed.tells g.V.Seal.Sealed.bytes g.V.Vault.held sound h c.args.by c.args.self.now.journal c.args.job c.log_end.new.self.journal c.args.self.now.stock c.end.new.self is on
    (same_index c.args.self.now.journal.log c.log_end.new.self.journal.log w.logged.same_log) w.logged.journal_is
    (ap (λ (s : StockView _ _ _). s.tools) c.end.ensures)
    (ap (λ (s : StockView _ _ _). s.retired) c.end.ensures ∙ ap (λ r. r ++ option_to_list c.args.job.order.old) w.stock.retired)
    (λ t. c.in-Ok.ensures.safe sound h t is on)

pub returns-in-Err-clause-ledger : goal.returns-in-Err-clause-ledger
returns-in-Err-clause-ledger g c sound h is on =
    let w : IsHeld g.F.LogFile g.V.Seal.Sealed.tells g.V.Seal.Sealed.bytes g.V.Vault.held sound h c.args.by c.args.self.now.journal c.args.job c.log_end.new.self.journal c.args.self.now.stock c.log_end.new.self.stock =
    unfinished g.F.LogFile g.V.Seal.Sealed.tells g.V.Seal.Sealed.bytes g.V.Vault.held sound h c.args.by c.args.self.now.journal c.args.job c.log_end.new.self.journal c.args.self.now.stock c.log_end.new.self.stock is.journal_is c.in-Err.why (c.in-Err.ensures.ended sound h is on) in (
      ledger_out g.F.LogFile g.V.Seal.Sealed.tells g.V.Seal.Sealed.bytes g.V.Vault.held sound h c.args.by c.args.self.now.journal c.args.job c.log_end.new.self.journal c.args.self.now.stock c.log_end.new.self.stock is w.same w.journal_is c.requires.out w.stock.tools w.stock.retired,
      job_still g.F.LogFile g.V.Seal.Sealed.tells g.V.Seal.Sealed.bytes g.V.Vault.held sound h c.args.by c.args.self.now.journal c.args.job c.log_end.new.self.journal.log w.same (λ t. c.in-Err.ensures.safe sound h t is on) on,
    )
