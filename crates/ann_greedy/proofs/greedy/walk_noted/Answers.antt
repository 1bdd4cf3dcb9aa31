use Rattle.std.proofs.Common.{[], ◌∙◌, arith}
use Rattle.ann_greedy.proofs.Pooling.{pooling_same, pooling_from, pooling_more, pooling_stops, pooling_out}
use Rattle.ann_greedy.proofs.greedy.walk_noted.Goals as goal

pub loop-turn-init : goal.loop-turn-init
loop-turn-init g c = record {
  pooling = pooling_same _ _ _ _ [] _ _ c.requires.empty (pooling_from _ _ _ _ _ (omega arith) c.begin.ensures.kept.limit c.begin.ensures.shows);
  kept = c.begin.ensures.kept;
}

pub loop-turn-preserved : goal.loop-turn-preserved
loop-turn-preserved g c =
    let w = c.loop-turn.invariant.pooling in
    record {
      pooling = pooling_same _ _ _ _ _ _ _ c.in_ok-push-in-Some.ensures.items (pooling_more _ _ _ _ _ c.in-Some.row _ _ _ w (omega arith) c.in-Some.ensures.row c.visit_next.ensures.kept.limit (c.in-Some.ensures.steps _ _ w.shows));
      kept = record { limit = c.visit_next.ensures.kept.limit ∙ c.loop-turn.invariant.kept.limit; far = c.visit_next.ensures.kept.far; rows = c.visit_next.ensures.kept.rows };
    }

pub returns-after-loop-turn : goal.returns-after-loop-turn
returns-after-loop-turn g c =
    let w = c.loop-turn.invariant.pooling in
    let out = pooling_out _ _ _ _ _ _ w (omega arith) c.loop-turn.invariant.kept.rows in
    record { limit = c.loop-turn.invariant.kept.limit; near = out.1; visited = out.0; rows = w.below; pool = c.loop-turn.invariant.kept.rows }

pub returns-in-None : goal.returns-in-None
returns-in-None g c =
    let w = c.loop-turn.invariant.pooling in
    let stops = pooling_stops _ _ _ _ _ _ _ w c.visit_next.ensures.kept.limit (c.in-None.ensures.steps _ _ w.shows) in
    record { limit = c.visit_next.ensures.kept.limit ∙ c.loop-turn.invariant.kept.limit; near = stops.1; visited = stops.0; rows = w.below; pool = c.visit_next.ensures.kept.rows }
