use Rattle.ann_base.proofs.Fronts.{high_rightly}
use Rattle.ann_base.proofs.front.open_below.Goals as goal

pub returns-in-Some-clause-refused : goal.returns-in-Some-clause-refused
returns-in-Some-clause-refused g c told =
    high_rightly g.V.Seal.Sealed.tells g.V.Seal.Sealed.bytes (g.V.Vault.held c.args.vault.now) c.args.params.now c.args.number c.args.next c.in_ok-segment.segment c.in_ok-segment.ensures.opened c.in-Some.block told c.in-Some.ensures
