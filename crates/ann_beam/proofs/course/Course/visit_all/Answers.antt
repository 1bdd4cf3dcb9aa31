use Rattle.ann_beam.specs.Course.{route_of}
use Rattle.ann_beam.proofs.Readings.{gone_as, gone_then, read_none, read_then}
use Rattle.ann_beam.proofs.Rounding.{keeps_none, keeps_then, seen_none, seen_more, seen_along}
use Rattle.ann_beam.proofs.course.Course.visit_all.Goals as goal

pub loop-row-init : goal.loop-row-init
loop-row-init g c = record { ready = c.requires.ready; kept = keeps_none _; read = read_none _; seen = λ tells. seen_none _ _ }

pub loop-row-preserved : goal.loop-row-preserved
loop-row-preserved g c =
    let w = c.loop-row.invariant in
    let e = c.in_ok-visit.ensures in
    record {
      ready = e.ready;
      kept = keeps_then _ _ _ w.kept e.kept;
      read = read_then _ _ _ w.read e.gone.read;
      seen = λ tells. seen_more _ c.args.rows.now c.loop-row.row-index _ _ _ c.loop-row-test.true (w.seen tells)
          (seen_along (route_of c.args.self.now (g.D.Deleted.pids c.args.self.now.dead.now)) (g.S.Sealed.bytes c.args.self.now.segment.now.seal) _ _ _ _ _ _ _ w.kept.tables w.kept.limit (e.seen tells));
    }

pub returns-in_err-visit-clause-gone : goal.returns-in_err-visit-clause-gone
returns-in_err-visit-clause-gone g c =
    gone_then _ _ _ _ _ _ _ c.from_residual.result c.loop-row.invariant.read
    (gone_as _ _ _ _ _ _ c.from_residual.result _ c.from_residual.ensures.1 c.in_err-visit.ensures.gone.refused)

pub returns-in_err-visit-clause-kept : goal.returns-in_err-visit-clause-kept
returns-in_err-visit-clause-kept g c = keeps_then _ _ _ c.loop-row.invariant.kept c.in_err-visit.ensures.kept
