use Rattle.std.proofs.Common.{◌∙◌, subst, sym, length, drop}
use Rattle.ann_pool.specs.Marks.{AreMarked}
use Rattle.ann_pool.specs.Pool.{IsInOrder}
use Rattle.ann_pool.proofs.Orders.{order_marked, written_back}
use Rattle.ann_pool.proofs.pool.Pool.next_unvisited.Goals as goal

pub invariant_of-self : goal.invariant_of-self
invariant_of-self c =
    let kept = c.self.invariant in
    let back = written_back c.self.inside.items.len c.mark_at.new.items (drop (length c.mark_at.new.items) c.self.inside.items.items) (c.mark_at.auto.items ∙ c.deref_mut.ensures.len) in (
      kept.0,
      kept.1,
      kept.2,
      kept.3,
      subst IsInOrder (sym back) (subst IsInOrder (sym c.mark_at.ensures.marked) (order_marked _ (subst IsInOrder (sym c.deref_mut.ensures.value) kept.4))),
      subst (AreMarked c.first_from-self-inside.result) (sym back) c.mark_at.ensures.still,
    )
