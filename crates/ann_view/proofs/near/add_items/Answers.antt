use Rattle.std.proofs.Common.{◌≡◌, ◌<◌, ◌∷◌, [], List, false, length, get_or, ap, ◌∙◌, subst}
use Rattle.ann_pool.specs.Pool.{PoolView}
use Rattle.ann_pool.specs.declared.item.Item.{Item}
use Rattle.ann_beam.specs.Desk.{result_of}
use Rattle.ann_beam.specs.Ranking.{with_all}
use Rattle.ann_beam.specs.Visits.{alive}
use Rattle.ann_view.specs.Near.{row_point}
use Rattle.ann_view.proofs.Nearest.{items_more}
use Rattle.ann_view.proofs.near.add_items.Goals as goal

-- an item in no place
abbrev none : Item
none = record { distance = 0; number = 0; visited = false }

pub loop-place-preserved : goal.loop-place-preserved
loop-place-preserved g c =
    let place = c.loop-place.place in
    let items : List Item = c.args.desk.now.pool.items in
    let same : c.items.result.now ≡ items = c.items.ensures.items ∙ ap (λ (p : PoolView). p.items) c.loop-place.invariant.pool in
    let item : Item = get_or c.items.result.now place none in
    record {
      limit = c.add_item.ensures.limit ∙ c.loop-place.invariant.limit;
      points = items_more (result_of c.args.desk.now).limit c.args.dead.now (row_point (g.G.Named.nodes c.args.graph.now)) items place item none (result_of c.args.desk.now).points (result_of c.loop-place.desk).points (result_of c.add_item.new.desk).points
          (subst (λ (t : List Item). place < length t) c.items-place-end.ensures.items c.loop-place-test.true)
          (ap (λ (t : List Item). get_or t place none) same)
          c.loop-place.invariant.points
          (c.add_item.ensures.points ∙ ap (λ n. with_all n (alive c.args.dead.now (row_point (g.G.Named.nodes c.args.graph.now) item ∷ [])) (result_of c.loop-place.desk).points) c.loop-place.invariant.limit);
      pool = c.add_item.ensures.pool ∙ c.loop-place.invariant.pool;
    }
