use Rattle.std.proofs.Common.{sym, ◌∙◌}
use Rattle.std.proofs.lemmas.List.{take_rest}
use Rattle.ann_script.proofs.Lines.{one_line-from_none, one_line-front, split_at_found}
use Rattle.ann_script.proofs.draft.split_line.Goals as goal

pub returns-in_default : goal.returns-in_default
returns-in_default c = one_line-from_none c.args.text.now (sym c.line_len.ensures ∙ c.in_default.is)

pub returns : goal.returns
returns c = simp take_rest (one_line-front c.args.text.now c.in-Some.end (sym c.in-Some.ensures), split_at_found c.args.text.now c.in-Some.end (sym c.in-Some.ensures))
