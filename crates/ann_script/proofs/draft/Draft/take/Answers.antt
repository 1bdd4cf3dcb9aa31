use Rattle.std.proofs.lemmas.Result.{err_from_is_err_and}
use Rattle.ann_script.proofs.Drafting.{taking-bad}
use Rattle.ann_script.proofs.draft.Draft.take.Goals as goal

pub returns-in_err-end_line : goal.returns-in_err-end_line
returns-in_err-end_line c =
    let p = err_from_is_err_and c.from_residual.result c.from_residual.ensures.1 in
    rw (p.1, p.2) (taking-bad c.args.self.now c.loop-line.self c.end_line.new.self c.args.piece.now c.loop-line.rest.now c.in-Some.line.now c.in-Some.behind.now c.in_err-end_line.field-0.0 c.loop-line.invariant c.in-Some.ensures.1 c.in_err-end_line.ensures)
