use Rattle.std.proofs.Common.{◌≡◌, List, ℕ, [], ap, sym, subst, ◌∙◌, arith, length}
use Rattle.std.proofs.lemmas.List.{take_all, take_more}
use Rattle.std.proofs.lemmas.List.Elements.{All-push}
use Rattle.ann_types.specs.Codes.{decode}
use Rattle.ann_segment.specs.Directory.{Item}
use Rattle.ann_mphases.specs.Left.{AreWide}
use Rattle.ann_mphases.proofs.left.know_codes.Goals as goal

pub loop-row-preserved : goal.loop-row-preserved
loop-row-preserved g c =
    let items : List Item = c.args.segment.now.items in
    let count = c.count-row-end.ensures in
    let test = c.loop-row-test.true in
    subst (AreWide c.args.book.now) (sym (take_more items c.loop-row.row (0, []) (omega arith)))
    (All-push (λ (item : Item). length (decode c.args.book.now.book item.1) ≡ c.args.book.now.d) _ _ c.loop-row.invariant
    (ap (λ (t : List ℕ). length (decode c.args.book.now.book t)) (sym c.code.ensures.value) ∙ c.know_code.ensures))

pub returns : goal.returns
returns g c =
    let count = c.count-row-end.ensures in
    let test = c.loop-row-test.false in
    subst (AreWide c.args.book.now) (take_all c.loop-row.row c.args.segment.now.items (omega arith)) c.loop-row.invariant
