use Rattle.std.proofs.Common.{◌≡◌, ◌-◌, length, sym, subst, arith, ltb-true, lt-ltb, eqb-true}
use Rattle.ann_beam.specs.Ranking.{IsBeyond, StaysAt, joined}
use Rattle.ann_beam.proofs.Rankings.{beyond_joined, beyond_last, last_beyond, length-joined}
use Rattle.ann_beam.proofs.ranking.Ranking.is_beyond.Goals as goal

pub returns-then-count-from-clause-stays : goal.returns-then-count-from-clause-stays
returns-then-count-from-clause-stays c less =
    let w = c.self.invariant in
    let pids = c.self.inside.pids in
    let hits = c.self.inside.hits in
    let same : length pids.items ≡ length hits.items = omega (arith, w.2, pids.ok.0, hits.ok.0) in
    let count = c.len-count.ensures in
    let full = c.if-count-from.true in
    let limit = c.from.ensures in
    let some = w.0 in
    subst (StaysAt c.args.distance) c.self.view_is
    (λ pid tag. beyond_joined c.self.inside.limit (record { pid = pid; tag = tag; distance = c.args.distance }) c.index.result.now pids.items hits.items (c.len-count.result - 1) same w.6 (omega (arith, count, full, limit, hits.ok.0)) (omega (arith, full, limit, some)) c.index.ensures (ltb-true c.index.result.now.distance c.args.distance less))

pub returns-then-count-from-clause-beyond : goal.returns-then-count-from-clause-beyond
returns-then-count-from-clause-beyond c =
    let w = c.self.invariant in
    let pids = c.self.inside.pids in
    let hits = c.self.inside.hits in
    let same : length pids.items ≡ length hits.items = omega (arith, w.2, pids.ok.0, hits.ok.0) in
    let count = c.len-count.ensures in
    let full = c.if-count-from.true in
    let limit = c.from.ensures in
    let some = w.0 in
    let h = c.index.result.now in (
      λ less. subst (IsBeyond c.args.distance) c.self.view_is
          (beyond_last c.self.inside.limit c.args.distance h pids.items hits.items (c.len-count.result - 1) same w.6 (omega (arith, count, full, limit, hits.ok.0)) (omega (arith, full, limit, some)) c.index.ensures (ltb-true h.distance c.args.distance less)),
      λ beyond. lt-ltb h.distance c.args.distance
          (last_beyond c.self.inside.limit c.args.distance h pids.items hits.items (c.len-count.result - 1) same (omega (arith, full, limit, some)) c.index.ensures (subst (IsBeyond c.args.distance) (sym c.self.view_is) beyond)),
    )

pub returns-else-count-from-clause-beyond : goal.returns-else-count-from-clause-beyond
returns-else-count-from-clause-beyond c =
    let w = c.self.invariant in
    let pids = c.self.inside.pids in
    let hits = c.self.inside.hits in
    let same : length pids.items ≡ length hits.items = omega (arith, w.2, pids.ok.0, hits.ok.0) in
    let size = length-joined pids.items hits.items same in (
      λ no. absurd (c.if-count-from.false (eqb-true c.len-count.result c.from.result no)),
      λ beyond.
          let inside : IsBeyond c.args.distance (record { limit = c.self.inside.limit; points = joined pids.items hits.items }) = subst (IsBeyond c.args.distance) (sym c.self.view_is) beyond in
          absurd (omega (arith, inside.full, size, c.if-count-from.false, c.from.ensures, c.len-count.ensures, hits.ok.0)),
    )
