use Rattle.std.proofs.Common.{◌∙◌, arith, length, length-append}
use Rattle.ann_types.specs.Kept.{rule_of}
use Rattle.ann_mdelete.specs.Rows.{repaired_rows}
use Rattle.ann_mdelete.proofs.Pieces.{rows_few, rows_push}
use Rattle.ann_mdelete.proofs.loaded.Loaded.repair_rows.Goals as goal

pub repair_row-requires-clause-few : goal.repair_row-requires-clause-few
repair_row-requires-clause-few c =
    let phase = c.args.phase.now in
    let few = c.requires.few in
    let size = rows_few (rule_of phase.params.now) phase.lists.now phase.decoded.now phase.gone.now c.args.first c.loop-i.i in
    let both = length-append c.args.self.now.lists (repaired_rows (rule_of phase.params.now) phase.lists.now phase.decoded.now phase.gone.now c.args.first c.loop-i.i) in
    simp c.loop-i.invariant.added (let test = c.loop-i-test.true in omega arith)

pub loop-i-preserved : goal.loop-i-preserved
loop-i-preserved c =
    let phase = c.args.phase.now in
    record {
      tags = c.in_ok-repair_row.ensures.tags ∙ c.loop-i.invariant.tags;
      added = rows_push (rule_of phase.params.now) phase.lists.now phase.decoded.now phase.gone.now c.args.first c.loop-i.i c.args.self.now.lists c.loop-i.self.lists c.repair_row.new.self.lists c.loop-i.invariant.added c.in_ok-repair_row.ensures.added;
    }
