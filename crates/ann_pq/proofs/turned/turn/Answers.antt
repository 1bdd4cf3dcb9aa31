use Rattle.std.proofs.Common.{rules, ◌≡◌, ◌<◌, ◌+◌, ℕ, get_or, sym, subst, ap, arith, List}
use Rattle.ann_pq.specs.Turned.{source}
use Rattle.ann_pq.proofs.Places.{source_within}
use Rattle.ann_pq.proofs.Pushes.{pushed}
use Rattle.ann_pq.proofs.turned.turn.Goals as goal

pub bounds-bytes-source_of : goal.bounds-bytes-source_of
bounds-bytes-source_of c =
    let within = source_within c.args.d c.args.width c.loop-place.place c.requires.width.0 c.requires.whole (omega arith) in
    omega arith

pub loop-place-preserved : goal.loop-place-preserved
loop-place-preserved c = record {
  size = search rules;
  room = search rules;
  turned = subst (λ (xs : List ℕ). (k : ℕ) → k < c.loop-place.place + 1 → get_or xs k 0 ≡ get_or c.args.bytes.now (source c.args.width k) 0) (sym c.push_reserved.ensures.items)
      (pushed (λ k. get_or c.args.bytes.now (source c.args.width k) 0) c.loop-place.turned.items c.loop-place.place _ (let size = c.loop-place.turned.ok.0 in let here = c.loop-place.invariant.size in omega arith) (ap (λ n. get_or c.args.bytes.now n 0) c.source_of.ensures) c.loop-place.invariant.turned);
}
