use Rattle.std.proofs.Common.{rules, ◌∙◌}
use Rattle.std.proofs.lemmas.List.{take_rest}
use Rattle.ann_outside.proofs.Appended.{appends_more}
use Rattle.ann_outside.proofs.Told.{tells_on}
use Rattle.ann_outside.proofs.sink.write_all.Goals as goal

pub loop-at-preserved : goal.loop-at-preserved
loop-at-preserved g c = record {
  within = search rules;
  bytes = appends_more _ _ _ _ _ _ c.loop-at.invariant.bytes (simp take_rest at c.in_ok-taken.ensures.bytes);
  tells = tells_on _ _ _ c.loop-at.invariant.tells c.write.ensures.tells;
  calm = c.in_ok-taken.ensures.cause.calm ∙ c.loop-at.invariant.calm;
}
