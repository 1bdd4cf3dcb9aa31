use Rattle.ann_script.proofs.Drafting.{finished, finishes-refused}
use Rattle.std.proofs.lemmas.Result.{err_from_is_err_and}
use Rattle.ann_script.proofs.draft.Draft.finish.Goals as goal

pub returns-in_err-judge : goal.returns-in_err-judge
returns-in_err-judge c =
    let p = err_from_is_err_and c.from_residual.result c.from_residual.ensures.1 in
    rw (p.1, p.2) (finishes-refused c.args.self c.judge.new.self c.in_err-judge.field-0.0 c.requires c.in_err-judge.ensures)

pub returns : goal.returns
returns c = finished c.args.self c.judge.new.self c.requires c.in_ok-judge.ensures.0
