use Rattle.std.proofs.Common.{◌≡◌, ◌-◌, ℕ, false, sym, subst, ◌∙◌, arith}
use Rattle.ann_beam.specs.Ranking.{nearer}
use Rattle.ann_beam.proofs.Rankings.{at_place, place_joined}
use Rattle.ann_beam.proofs.ranking.place_of.Goals as goal

pub returns-else-is_before-clause-place : goal.returns-else-is_before-clause-place
returns-else-is_before-clause-place c =
    let pids = c.args.pids.now in
    let hits = c.args.hits.now in
    let place : ℕ = c.loop-place.place in
    place_joined (record { pid = c.args.pid; tag = c.args.hit.tag; distance = c.args.hit.distance }) pids hits place c.requires.both c.requires.order c.loop-place.invariant.inside c.loop-place.invariant.after
    (λ k is. subst (λ (i : ℕ). nearer (record { pid = c.args.pid; tag = c.args.hit.tag; distance = c.args.hit.distance }) (at_place pids hits i) ≡ false) (let e : place - 1 ≡ k = omega arith in e) (sym c.is_before.ensures ∙ c.if-is_before.false))
