use Rattle.std.proofs.Common.{◌≡◌, ◌<◌, ℕ, List, sym, subst}
use Rattle.ann_greedy.specs.Rows.{Rows, far_row, ground_at}
use Rattle.ann_greedy.specs.Shows.{AreFar, AreRows, IsOf}
use Rattle.ann_pool.specs.Pool.{PoolView, marked}
use Rattle.ann_pool.proofs.Each.{all_marked}
use Rattle.ann_greedy.proofs.Pooled.{found_item}
use Rattle.ann_greedy.proofs.Pooling.{goes_on_along, is_over}
use Rattle.ann_greedy.proofs.greedy.visit_next.Goals as goal

marked_of : (graph : Rows) (query : List ℕ) (old new : PoolView) → new.items ≡ marked old.items → IsOf graph query old → IsOf graph query new
marked_of graph query old new is of = record {
  far = subst (AreFar (far_row graph query)) (sym is) (all_marked (λ i. i.distance ≡ far_row graph query i.number) (λ y h. h) _ of.far);
  rows = subst (AreRows graph.count) (sym is) (all_marked (λ i. i.number < graph.count) (λ y h. h) _ of.rows);
}

pub neighbours-requires : goal.neighbours-requires
neighbours-requires g c = found_item (λ i. i.number < (g.G.Graph.rows c.args.graph.now).count) c.in-Some.item _ c.requires.of.rows c.in-Some.ensures.found

pub offer_all-requires-clause-of : goal.offer_all-requires-clause-of
offer_all-requires-clause-of g c = marked_of (g.G.Graph.rows c.args.graph.now) c.args.query.now c.args.pool.now c.next_unvisited.new.self c.next_unvisited.ensures.marked c.requires.of

pub returns-in-None-clause-kept : goal.returns-in-None-clause-kept
returns-in-None-clause-kept g c =
    let of = marked_of (g.G.Graph.rows c.args.graph.now) c.args.query.now c.args.pool.now c.next_unvisited.new.self c.next_unvisited.ensures.marked c.requires.of in
    record { limit = c.next_unvisited.ensures.limit; far = of.far; rows = of.rows }

pub returns-in-Some-clause-steps : goal.returns-in-Some-clause-steps
returns-in-Some-clause-steps g c = λ entry visited w.
    goes_on_along (ground_at (g.G.Graph.rows c.args.graph.now) c.args.query.now entry) visited c.in-Some.item c.args.pool.now c.next_unvisited.new.self c.offer_all.new.pool c.neighbours.result.now
    c.neighbours.ensures.links w c.in-Some.ensures.found c.next_unvisited.ensures.limit c.next_unvisited.ensures.marked c.next_unvisited.ensures.met c.offer_all.ensures.shows

pub returns-in-None-clause-steps : goal.returns-in-None-clause-steps
returns-in-None-clause-steps g c = λ entry visited w.
    is_over (ground_at (g.G.Graph.rows c.args.graph.now) c.args.query.now entry) visited c.args.pool.now c.next_unvisited.new.self w c.in-None.ensures.found c.next_unvisited.ensures.limit c.next_unvisited.ensures.marked
