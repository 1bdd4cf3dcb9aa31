use Rattle.std.proofs.Common.{◌≡◌, ℕ, List, map, subst, IfOk}
use Rattle.ann_types.specs.Lists.{empty_list}
use Rattle.ann_types.specs.declared.params.Params.{Params}
use Rattle.ann_script.specs.Order.{order_of}
use Rattle.ann_once.specs.Once.{once_index, lines_from}
use Rattle.ann_once.proofs.once.lines.Goals as goal

pub returns : goal.returns
returns c = subst (λ (p : Params). IfOk c.lines_by.result (λ (text : List ℕ). text ≡ lines_from (once_index p) c.args.name.now 1 empty_list (map order_of c.args.commands.now))) c.in_ok-session.ensures.params c.lines_by.ensures
