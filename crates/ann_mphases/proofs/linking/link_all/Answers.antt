use Rattle.std.proofs.Common.{◌≡◌, ap, sym, subst, ◌∙◌, arith, length}
use Rattle.ann_mphases.specs.Pieces.{AreSmall, joined}
use Rattle.ann_mphases.specs.Linked.{LinkView, linked_piece}
use Rattle.ann_mphases.proofs.Joins.{all_small, joined_by, linked_all_pieces, linked_few}
use Rattle.ann_mdelete.specs.declared.refused.WorkRefused.TheVariants.{Memory}
use Rattle.ann_mplan.proofs.Reading.{refused_as}
use Rattle.ann_mphases.proofs.Refusals.{only_memory}
use Rattle.ann_mphases.proofs.linking.link_all.Goals as goal

pub returns-in_err-pieces-clause-refused : goal.returns-in_err-pieces-clause-refused
returns-in_err-pieces-clause-refused g c =
    refused_as (λ w. w ≡ Memory) c.from_residual-in_err-pieces.result c.in_err-pieces.field-0.0 c.from_residual-in_err-pieces.ensures.1
    (only_memory c.in_ok-scratches.scratches.items c.run.new.workers.items c.in_err-pieces.field-0.0 c.in_err-pieces.ensures.refused)

pub join-requires : goal.join-requires
join-requires g c =
    subst AreSmall (sym c.deref.ensures.value)
    (all_small (λ i lists. lists ≡ linked_piece c.args.task.now i) _ c.in_ok-pieces.pieces.items
    (λ i lists is. (let size = ap length is in let few = linked_few c.args.task.now i in omega arith)) c.in_ok-pieces.ensures.pieces)

pub returns-clause-linked : goal.returns-clause-linked
returns-clause-linked g c =
    let rows : LinkView = c.args.task.now in
    let many = c.div_ceil.ensures in
    let view : length c.task.inside.points.now ≡ length rows.points = ap (λ (r : LinkView). length r.points) c.task.view_is in
    c.in_ok-join.ensures ∙ ap joined c.deref.ensures.value
    ∙ joined_by (linked_piece rows) c.div_ceil.result c.in_ok-pieces.pieces.items c.in_ok-pieces.ensures.pieces
    ∙ linked_all_pieces rows c.div_ceil.result (omega arith)
