use Rattle.std.proofs.Common.{◌<◌, length, refl, ◌∙◌, arith}
use Rattle.ann_prune.specs.Rows.{IsMeasured}
use Rattle.std.proofs.lemmas.List.Elements.{All-get_or, All-set}
use Rattle.ann_prune.specs.declared.candidates.Candidate.{Candidate}
use Rattle.ann_prune.proofs.Prunes.{rows-set, measured_more}
use Rattle.ann_prune.proofs.robust.measure.Goals as goal

pub distance-requires-clause-y : goal.distance-requires-clause-y
distance-requires-clause-y g c =
    let within : c.loop-i.i < length c.loop-i.items = omega (arith, c.loop-i.auto.items) in
    All-get_or (λ i. i.row < g.M.Metric.size c.args.metric.now) c.loop-i.items c.loop-i.i _ within c.loop-i.invariant.inside

pub loop-i-preserved : goal.loop-i-preserved
loop-i-preserved g c =
    let within : c.loop-i.i < length c.loop-i.items = omega (arith, c.loop-i.auto.items) in
    let inside : Candidate → Type 0 = λ i. i.row < g.M.Metric.size c.args.metric.now in
    let blank : Candidate = record { distance = 0; row = 0 } in
    let row = All-get_or inside c.loop-i.items c.loop-i.i blank within c.loop-i.invariant.inside in
    record {
      rows = rows-set c.loop-i.items c.loop-i.i blank _ within refl ∙ c.loop-i.invariant.rows;
      inside = All-set inside c.loop-i.items c.loop-i.i _ row c.loop-i.invariant.inside;
      far = measured_more (IsMeasured (g.M.Metric.apart c.args.metric.now c.args.p)) c.loop-i.items c.loop-i.i _ within c.loop-i.invariant.far (c.distance.ensures.apart, c.distance.ensures.most);
    }
