use Rattle.std.proofs.Common.{ap, sym, subst, ◌∙◌, arith}
use Rattle.ann_mphases.specs.Pieces.{AreSmall, joined}
use Rattle.ann_mphases.specs.Read.{IsReadPiece}
use Rattle.ann_mphases.proofs.Joins.{all_small}
use Rattle.ann_mphases.proofs.ReadLists.{old_lists, read_few}
use Rattle.std.specs.Prelude.{Some}
use Rattle.ann_mlaws.specs.Rows.{AreOldLists}
use Rattle.ann_mphases.proofs.reading.read_all.Goals as goal

pub join-requires : goal.join-requires
join-requires g c =
    subst AreSmall (sym c.deref.ensures.value)
    (all_small (IsReadPiece g.S.Sealed.tells g.S.Sealed.bytes c.args.segment.now c.args.params.now) _ c.in_ok-pieces.pieces.items
    (read_few g.S.Sealed.tells g.S.Sealed.bytes c.args.segment.now c.args.params.now) c.in_ok-pieces.ensures.pieces)

pub returns-clause-read : goal.returns-clause-read
returns-clause-read g c =
    let count = c.count.ensures in
    let many = c.div_ceil.ensures in
    subst (AreOldLists g.S.Sealed.tells g.S.Sealed.bytes c.args.params.now (Some c.args.segment.now)) (sym (c.in_ok-join.ensures ∙ ap joined c.deref.ensures.value))
    (old_lists g.S.Sealed.tells g.S.Sealed.bytes c.args.segment.now c.args.params.now c.div_ceil.result c.in_ok-pieces.pieces.items (omega arith) c.in_ok-pieces.ensures.pieces)
