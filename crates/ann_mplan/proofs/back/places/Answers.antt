use Rattle.std.proofs.Common.{◌≡◌, ◌≤◌, ◌+◌, ◌∙◌, ap, sym, arith, take, length, get_or}
use Rattle.std.specs.Prelude.{sum}
use Rattle.std.proofs.lemmas.List.{get_or-set_other, take_all}
use Rattle.std.proofs.lemmas.List.FromFn.{fill_by_all}
use Rattle.ann_mplan.proofs.Sizes.{placed_more, sum_more, sum_within}
use Rattle.ann_mplan.proofs.back.places.Goals as goal

pub overflow_add-place : goal.overflow_add-place
overflow_add-place c =
    let most = sum_within c.loop-row.sizes c.args.sizes.now c.loop-row.row c.loop-row.place c.loop-row-test.true c.loop-row.invariant.so_far (c.loop-row.invariant.to_come c.loop-row.row (omega arith)) in
    let small = c.requires in omega arith

pub loop-row-preserved : goal.loop-row-preserved
loop-row-preserved c =
    let old = c.args.sizes.now in
    let row = c.loop-row.row in
    let within = c.loop-row-test.true in
    record {
      so_far = sum_more c.loop-row.sizes old row c.loop-row.place within c.loop-row.invariant.so_far (c.loop-row.invariant.to_come row (omega arith));
      placed = placed_more c.loop-row.sizes old row c.loop-row.place (let same = c.loop-row.auto.sizes in omega arith) c.loop-row.invariant.so_far c.loop-row.invariant.placed;
      to_come = λ r h. get_or-set_other c.loop-row.sizes row r c.loop-row.place 0 (λ e. omega arith) ∙ c.loop-row.invariant.to_come r (omega arith);
    }

pub returns-clause-places : goal.returns-clause-places
returns-clause-places c =
    let past = c.loop-row-test.false in
    fill_by_all (λ row. sum (take row c.args.sizes.now)) c.loop-row.sizes (length c.args.sizes.now) 0 c.loop-row.auto.sizes
    (λ k h. c.loop-row.invariant.placed k (omega arith))

pub returns-clause-total : goal.returns-clause-total
returns-clause-total c = c.loop-row.invariant.so_far ∙ ap sum (take_all c.loop-row.row c.args.sizes.now c.loop-row-test.false)
