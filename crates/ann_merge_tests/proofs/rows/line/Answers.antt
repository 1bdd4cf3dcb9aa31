use Rattle.std.proofs.Common.{◌∷◌, [], ◌++◌, List, ℕ, sym, ap, ◌∙◌}
use Rattle.ann_merge_tests.specs.Line.{line_lists}
use Rattle.ann_merge_tests.proofs.Lines.{lists_more}
use Rattle.ann_merge_tests.proofs.rows.line.Goals as goal

pub loop-row-preserved : goal.loop-row-preserved
loop-row-preserved c =
    c.in_ok-push.ensures.added ∙ ap (λ t. t ++ c.deref.result.now ∷ []) c.loop-row.invariant
    ∙ ap (λ (t : List ℕ). line_lists c.args.count c.loop-row.row ++ t ∷ []) (c.deref.ensures.0 ∙ c.link_row.ensures)
    ∙ sym (lists_more c.args.count c.loop-row.row)
