use Rattle.std.proofs.Common.{◌∙◌, ◌<◌, ◌+◌, ◌-◌, ◌&&◌, sym, ap}
use Rattle.std.specs.List.{list_all, range_with_len}
use Rattle.ann_core.specs.Made.{is_finished_in}
use Rattle.ann_core.proofs.Merges.{range_next}
use Rattle.ann_core.proofs.merging.all_finished.Goals as goal

pub returns-then-not-is_finished : goal.returns-then-not-is_finished
returns-then-not-is_finished c =
    let n = c.loop-number.number in
    let within : n < c.args.count = c.loop-number-test.true in
    sym (range_next (is_finished_in c.args.pieces.now) n c.args.count within
    ∙ ap (λ b. b && list_all (is_finished_in c.args.pieces.now) (range_with_len (n + 1) (c.args.count - (n + 1)))) (sym c.is_finished.ensures ∙ c.if-not-is_finished.true))
    ∙ c.loop-number.invariant

pub loop-number-preserved : goal.loop-number-preserved
loop-number-preserved c =
    let n = c.loop-number.number in
    let within : n < c.args.count = c.loop-number-test.true in
    sym (range_next (is_finished_in c.args.pieces.now) n c.args.count within
    ∙ ap (λ b. b && list_all (is_finished_in c.args.pieces.now) (range_with_len (n + 1) (c.args.count - (n + 1)))) (sym c.is_finished.ensures ∙ c.if-not-is_finished.false))
    ∙ c.loop-number.invariant
