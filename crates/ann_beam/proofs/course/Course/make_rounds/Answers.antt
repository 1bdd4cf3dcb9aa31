use Rattle.std.proofs.Common.{[], refl, arith, rules}
use Rattle.ann_greedy.proofs.Pooling.{shows_none}
use Rattle.ann_beam.specs.Candidates.{far_row}
use Rattle.ann_beam.specs.Course.{route_of}
use Rattle.ann_beam.proofs.Readings.{gone_as, gone_then, read_then}
use Rattle.ann_beam.proofs.Rounding.{keeps_then, round_along, way_begins, way_goes_on, way_ends, way_is_out}
use Rattle.ann_beam.proofs.course.Course.make_rounds.Goals as goal

pub offer-requires-clause-candidates : goal.offer-requires-clause-candidates
offer-requires-clause-candidates g c = record { far = search rules; rows = search rules }

pub loop-turn-init : goal.loop-turn-init
loop-turn-init g c = record {
  ready = record { code = c.requires.code; candidates = c.offer.ensures.candidates };
  kept = record { tables = refl; width = c.offer.ensures.limit; limit = refl };
  read = record { reads = (0, refl); calm = refl };
  under_way = λ tells. way_begins _ _ _ _ _ _ _ _ (omega (arith, c.count-turn-end.ensures)) refl (c.offer.ensures.shows [] [] (shows_none (far_row c.args.desk.now.tables c.args.self.now.segment.now.items) c.args.desk.now.guided.limit c.args.desk.now.guided (λ i. record { limit = c.args.desk.now.guided.limit; items = c.requires.none.0 i; met = c.requires.none.1 i })));
}

pub loop-turn-preserved : goal.loop-turn-preserved
loop-turn-preserved g c =
    let w = c.loop-turn.invariant in
    let e = c.in_ok-make_round.ensures in
    record {
      ready = e.ready;
      kept = keeps_then _ _ _ w.kept e.kept;
      read = read_then _ _ _ w.read e.gone.read;
      under_way = λ tells. way_goes_on _ _ _ _ _ _ _ _ _ _ (w.under_way tells) (omega (arith, c.loop-turn-test.true)) w.kept.width
          (round_along (route_of c.args.self.now (g.D.Deleted.pids c.args.self.now.dead.now)) (g.S.Sealed.bytes c.args.self.now.segment.now.seal) _ _ _ _ _ _ _ _ _ w.kept.tables w.kept.limit c.if-not-branch.false (e.round tells));
    }

pub returns-then-not-branch : goal.returns-then-not-branch
returns-then-not-branch g c =
    let w = c.loop-turn.invariant in
    let e = c.in_ok-make_round.ensures in
    record {
      kept = keeps_then _ _ _ w.kept e.kept;
      gone = record { read = read_then _ _ _ w.read e.gone.read; refused = tt };
      visits = λ tells. way_ends _ _ _ _ _ _ _ _ _ (w.under_way tells) w.kept.width
          (round_along (route_of c.args.self.now (g.D.Deleted.pids c.args.self.now.dead.now)) (g.S.Sealed.bytes c.args.self.now.segment.now.seal) _ _ _ _ _ _ _ _ _ w.kept.tables w.kept.limit c.if-not-branch.true (e.round tells));
    }

pub returns-after-loop-turn : goal.returns-after-loop-turn
returns-after-loop-turn g c =
    let w = c.loop-turn.invariant in
    record {
      kept = w.kept;
      gone = record { read = w.read; refused = tt };
      visits = λ tells. way_is_out _ _ _ _ _ _ _ _ (w.under_way tells) (omega (arith, c.loop-turn-test.false));
    }

pub returns-in_err-make_round-clause-gone : goal.returns-in_err-make_round-clause-gone
returns-in_err-make_round-clause-gone g c =
    gone_then _ _ _ _ _ _ _ c.from_residual.result c.loop-turn.invariant.read
    (gone_as _ _ _ _ _ _ c.from_residual.result _ c.from_residual.ensures.1 c.in_err-make_round.ensures.gone.refused)

pub returns-in_err-make_round-clause-kept : goal.returns-in_err-make_round-clause-kept
returns-in_err-make_round-clause-kept g c = keeps_then _ _ _ c.loop-turn.invariant.kept c.in_err-make_round.ensures.kept
