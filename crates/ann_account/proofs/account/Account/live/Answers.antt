use Rattle.std.proofs.Common.{ap, ◌∙◌}
use Rattle.std.specs.FinMap.{len}
use Rattle.ann_account.specs.Account.{AccountView}
use Rattle.ann_account.proofs.Entering.{live_count, legal_none}
use Rattle.ann_account.proofs.account.Account.live.Goals as goal

pub returns : goal.returns
returns g c index h can =
    live_count index h c.args.self.now c.count.result (legal_none index h can.legal) can.account_is (c.count.ensures ∙ ap (λ (a : AccountView _). len a.tags.pids) c.self.view_is)
