use Rattle.std.proofs.Common.{◌∷◌, [], ◌++◌, ◌+◌, sym, ap, ◌∙◌, arith}
use Rattle.ann_merge_tests.proofs.Lines.{behind_is, none_behind}
use Rattle.ann_merge_tests.proofs.rows.link_row.Goals as goal

pub returns-then-row-count : goal.returns-then-row-count
returns-then-row-count c = c.push.ensures.items ∙ ap (λ t. t ++ (c.args.row + 1) ∷ []) c.link_before.ensures ∙ sym (behind_is c.args.count c.args.row c.if-row-count.true)

pub returns-else-row-count : goal.returns-else-row-count
returns-else-row-count c = c.link_before.ensures ∙ sym (none_behind c.args.count c.args.row (let no = c.if-row-count.false in omega arith))
