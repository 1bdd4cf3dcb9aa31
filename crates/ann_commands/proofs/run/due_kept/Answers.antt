use Rattle.std.proofs.Common.{refl, sym, ◌∙◌}
use Rattle.ann_commands.specs.Status.{Init, Usage}
use Rattle.ann_commands.proofs.run.due_kept.Goals as goal

pub returns-in-Some-clause-is : goal.returns-in-Some-clause-is
returns-in-Some-clause-is g c = record {
  outcome = Init c.make_index.result;
  happens = (c.in-Some.params, sym c.in-Some.ensures, c.make_index.ensures.ended);
  status_is = refl;
  text_is = refl;
}

pub returns-in-None-2-clause-is : goal.returns-in-None-2-clause-is
returns-in-None-2-clause-is g c = record {
  outcome = Usage;
  happens = ((c.requires.words, sym c.in-None.ensures, sym c.is_check.ensures ∙ c.if-is_check.false, refl), refl);
  status_is = refl;
  text_is = refl;
}
