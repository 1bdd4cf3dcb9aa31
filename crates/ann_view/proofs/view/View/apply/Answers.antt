use Rattle.std.proofs.Common.{sym, subst}
use Rattle.ann_types.specs.Lists.{with_entry}
use Rattle.ann_view.specs.View.{IndexView}
use Rattle.ann_view.specs.Stands.{StandsFor, lti_of}
use Rattle.ann_view.specs.Holding.{HoldsGraph}
use Rattle.ann_view.proofs.Standing.{stands_after, holds_after}
use Rattle.ann_view.proofs.view.View.apply.Goals as goal

pub returns-clause-stands : goal.returns-clause-stands
returns-clause-stands g c = λ h entry w is.
    subst (λ (v : IndexView g.row.S.Denot). StandsFor v (with_entry h entry)) (sym c.in_ok-step.ensures.applied) (stands_after c.args.self.now h w c.args.op.now entry is)

pub returns-clause-holds : goal.returns-clause-holds
returns-clause-holds g c = λ h entry w is holds brings.
    subst (λ (v : IndexView g.row.S.Denot). HoldsGraph g.S.Sealed.bytes v (lti_of v (with_entry h entry))) (sym c.in_ok-step.ensures.applied) (holds_after c.args.self.now h w g.S.Sealed.bytes c.args.op.now entry is holds brings)
