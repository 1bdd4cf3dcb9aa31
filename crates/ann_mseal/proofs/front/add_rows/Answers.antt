use Rattle.std.proofs.Common.{◌≡◌, length, sym, ap, ◌∙◌, arith}
use Rattle.std.proofs.lemmas.Grind.{common_steps}
use Rattle.std.proofs.lemmas.List.Elements.{All-more}
use Rattle.ann_segment.specs.Directory.{item_of}
use Rattle.ann_mseal.proofs.front.add_rows.Goals as goal

pub loop-row-preserved : goal.loop-row-preserved
loop-row-preserved g c = record {
  added = grind (arith, common_steps);
  codes = All-more (λ row. length (item_of c.args.segment.now.items row).1 ≡ c.args.segment.now.m) c.args.survivors.now c.loop-row.row-index _ c.loop-row-test.true c.loop-row.invariant.codes
      (sym (ap length c.code.ensures.value) ∙ c.code.ensures.size);
}
