use Rattle.std.proofs.Common.{map, ap, subst, ◌∙◌}
use Rattle.std.specs.Prelude.{IfOk}
use Rattle.std.specs.Arc.{arc_value}
use Rattle.std.specs.Option.{option_map}
use Rattle.ann_pq.specs.Codebook.{CodebookView}
use Rattle.ann_pq.specs.Format.{IsCodebook}
use Rattle.ann_pq.proofs.Shapes.{is_book_of}
use Rattle.ann_merge.specs.Gathered.{new_of}
use Rattle.ann_merge.specs.Job.{IsPlanFor, order_of}
use Rattle.ann_merge.proofs.Planned.{may_for, plans_for}
use Rattle.ann_merge.proofs.merging.Taken.plan.Goals as goal

pub plan_merge-requires-clause-may : goal.plan_merge-requires-clause-may
plan_merge-requires-clause-may g c κs within =
    let t = c.self.inside in
    let order = order_of (option_map arc_value t.old) (map arc_value t.frozen.items) t.gone t.number t.params t.book.value in
    let points = c.in_ok-points.ensures.points ∙ ap (λ fs. new_of t.gone (map arc_value fs)) c.deref.ensures.value in
    let book = ap (λ (b : CodebookView). b.book) c.deref-3.ensures in
    let sizes = c.self.invariant.sizes in
    may_for g.S.Sealed.bytes order c.self.invariant c.deref-3.result.now.book c.in_ok-points.points.items book points
    (is_book_of t.params t.book.value (subst IsCodebook c.deref-2.ensures c.known.ensures) sizes.0 sizes.1) c.in_ok-points.ensures.vectors

pub returns-clause-planned : goal.returns-clause-planned
returns-clause-planned g c =
    let t = c.self.inside in
    let order = order_of (option_map arc_value t.old) (map arc_value t.frozen.items) t.gone t.number t.params t.book.value in
    let points = c.in_ok-points.ensures.points ∙ ap (λ fs. new_of t.gone (map arc_value fs)) c.deref.ensures.value in
    let book = ap (λ (b : CodebookView). b.book) c.deref-3.ensures in
    subst (λ o. IfOk c.plan_merge.result (λ p. IsPlanFor g.S.Sealed.tells g.S.Sealed.bytes o p.plan p.entry)) c.self.view_is
    (plans_for g.S.Sealed.bytes order c.self.invariant g.S.Sealed.tells (λ p. p.plan) (λ p. p.entry) c.plan_merge.result c.deref-3.result.now.book c.in_ok-points.points.items book points (c.in_ok-points.ensures.vectors, c.in_ok-points.ensures.tags)
    c.plan_merge.ensures.planned)
