use Rattle.std.proofs.Common.{ap, ◌+◌}
use Rattle.std.proofs.lemmas.Result.{err_from_is_err_and}
use Rattle.ann_script.proofs.Drafting.{ended_ok, one_line-append, takes-refused}
use Rattle.ann_script.proofs.draft.Draft.end_line.Goals as goal

pub returns-in_err-judge : goal.returns-in_err-judge
returns-in_err-judge c =
    let p = err_from_is_err_and c.from_residual.result c.from_residual.ensures.1 in
    rw (p.1, p.2) (takes-refused c.args.self.now c.judge.new.self c.args.bytes.now c.in_err-judge.field-0.0 (one_line-append c.args.self.now.line.items c.args.bytes.now c.requires.draft c.requires.bytes) c.in_err-judge.ensures)

pub returns : goal.returns
returns c =
    ended_ok c.args.self.now (record { script = c.judge.new.self.script; rules = c.judge.new.self.rules; number = c.judge.new.self.number + 1; line = c.clear.new.self }) c.args.bytes.now (one_line-append c.args.self.now.line.items c.args.bytes.now c.requires.draft c.requires.bytes) c.in_ok-judge.ensures.0 c.in_ok-judge.ensures.1 (ap (λ n. n + 1) c.in_ok-judge.ensures.2) c.clear.ensures.items
