use Rattle.std.proofs.Common.{◌∙◌, arith}
use Rattle.ann_mdelete.proofs.Loads.{count_loaded, one_more}
use Rattle.ann_mdelete.proofs.loaded.Loaded.load_rows.Goals as goal

pub load_row-requires-clause-few : goal.load_row-requires-clause-few
load_row-requires-clause-few g c =
    let count = count_loaded c.args.segment.now c.args.params.now c.args.first c.loop-at.at c.loop-at.self c.loop-at.invariant.rows in
    let few = c.requires.few in
    let test = c.loop-at-test.true in omega arith

pub loop-at-preserved : goal.loop-at-preserved
loop-at-preserved g c = record {
  page = c.in_ok-load_row.ensures.page ∙ c.loop-at.invariant.page;
  rows = one_more c.args.segment.now c.args.params.now c.args.first c.loop-at.at c.loop-at.self c.load_row.new.self c.loop-at.invariant.rows c.in_ok-load_row.ensures.page c.in_ok-load_row.ensures.added;
}
