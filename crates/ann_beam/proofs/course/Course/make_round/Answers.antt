use Rattle.std.proofs.Common.{take, refl, arith, ltb-true, ltb-false}
use Rattle.std.proofs.lemmas.List.{length-take}
use Rattle.ann_beam.proofs.Rounding.{round_made}
use Rattle.ann_beam.proofs.course.Course.make_round.Goals as goal

pub visit_all-requires-clause-ready : goal.visit_all-requires-clause-ready
visit_all-requires-clause-ready g c = record {
  code = c.requires.ready.code;
  candidates = record {
    far = c.choose-count.ensures.chosen.far _ c.requires.ready.candidates.far;
    rows = c.choose-count.ensures.chosen.among _ c.requires.ready.candidates.rows;
  };
}

pub visit_all-requires-clause-inside : goal.visit_all-requires-clause-inside
visit_all-requires-clause-inside g c = c.choose-count.ensures.chosen.inside _ c.requires.ready.candidates.rows

pub returns-clause-round : goal.returns-clause-round
returns-clause-round g c = λ tells.
    let size = length-take c.choose-count.result c.choose-count.new.rows in
    round_made _ _ _ c.choose-count.result (take c.choose-count.result c.choose-count.new.rows) _ _ _ c.from.ensures (omega (arith, size, c.choose-count.ensures.few.1)) refl
    c.choose-count.ensures.chosen (c.in_ok-visit_all.ensures.seen tells) _ (ltb-true 0 c.choose-count.result) (ltb-false 0 c.choose-count.result)
