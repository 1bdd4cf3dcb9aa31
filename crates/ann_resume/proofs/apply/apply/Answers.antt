use Rattle.ann_resume.proofs.Applying.{can_make, may_apply, is_entry_of, brings_none}
use Rattle.ann_resume.proofs.apply.apply.Goals as goal

pub operation-requires : goal.operation-requires
operation-requires g c = can_make c.args.view.now c.requires.next.0 c.args.gone c.args.entry.now c.requires.next.1

pub apply-requires-clause-fits : goal.apply-requires-clause-fits
apply-requires-clause-fits g c = may_apply c.args.view.now c.requires.next.0 c.args.gone c.args.entry.now c.in_ok-op.op c.requires.next.1 c.in_ok-op.ensures

pub returns-clause-stands : goal.returns-clause-stands
returns-clause-stands g c h n = c.apply.ensures.stands h c.args.entry.now n.stands (is_entry_of c.args.view.now h c.args.gone c.args.entry.now c.in_ok-op.op n c.in_ok-op.ensures)

pub returns-clause-holds : goal.returns-clause-holds
returns-clause-holds g c h n w =
    c.apply.ensures.holds h c.args.entry.now n.stands (is_entry_of c.args.view.now h c.args.gone c.args.entry.now c.in_ok-op.op n c.in_ok-op.ensures) w
    (brings_none c.args.view.now h c.args.gone g.S.Sealed.bytes c.args.entry.now c.in_ok-op.op c.in_ok-op.ensures)
