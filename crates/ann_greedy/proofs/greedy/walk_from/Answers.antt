use Rattle.std.proofs.Common.{◌++◌, [], ◌∷◌, ◌∙◌, arith}
use Rattle.ann_greedy.proofs.Pooling.{pooling_from, pooling_more, pooling_stops, pooling_out}
use Rattle.ann_greedy.proofs.greedy.walk_from.Goals as goal

pub loop-turn-init : goal.loop-turn-init
loop-turn-init g c = record {
  pooling = ([], pooling_from _ _ _ _ _ (omega arith) c.begin.ensures.kept.limit c.begin.ensures.shows);
  kept = c.begin.ensures.kept;
}

pub loop-turn-preserved : goal.loop-turn-preserved
loop-turn-preserved g c =
    let w = c.loop-turn.invariant.pooling in
    record {
      pooling = (w.0 ++ c.in-Some._row ∷ [], pooling_more _ _ _ _ _ c.in-Some._row w.0 _ _ w.1 (omega arith) c.in-Some.ensures.row c.visit_next.ensures.kept.limit (c.in-Some.ensures.steps _ w.0 w.1.shows));
      kept = record { limit = c.visit_next.ensures.kept.limit ∙ c.loop-turn.invariant.kept.limit; far = c.visit_next.ensures.kept.far; rows = c.visit_next.ensures.kept.rows };
    }

pub returns-after-loop-turn : goal.returns-after-loop-turn
returns-after-loop-turn g c =
    let w = c.loop-turn.invariant.pooling in
    record { limit = c.loop-turn.invariant.kept.limit; near = (pooling_out _ _ _ _ w.0 _ w.1 (omega arith) c.loop-turn.invariant.kept.rows).1 }

pub returns-in-None : goal.returns-in-None
returns-in-None g c =
    let w = c.loop-turn.invariant.pooling in
    record {
      limit = c.visit_next.ensures.kept.limit ∙ c.loop-turn.invariant.kept.limit;
      near = (pooling_stops _ _ _ _ w.0 _ _ w.1 c.visit_next.ensures.kept.limit (c.in-None.ensures.steps _ w.0 w.1.shows)).1;
    }
