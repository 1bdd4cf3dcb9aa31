use Rattle.std.proofs.Common.{sym, subst}
use Rattle.ann_block.specs.declared.header.Header.{Header}
use Rattle.ann_segment.specs.Writer.{AreFront}
use Rattle.ann_mseal.specs.Merged.{merged_header}
use Rattle.ann_mseal.proofs.Headed.{is_header}
use Rattle.ann_mseal.proofs.Items.{items_count}
use Rattle.ann_mseal.proofs.seal.begin.Goals as goal

pub start-requires-clause-front : goal.start-requires-clause-front
start-requires-clause-front g c =
    let plan = c.args.plan.now in
    subst (λ (h : Header). AreFront h c.in_ok-directory.directory) (sym c.header_of.ensures)
    (subst (AreFront (merged_header plan c.args.entry c.args.number)) (sym c.in_ok-directory.ensures.items)
    (record {
      sound = is_header plan c.args.entry c.args.number c.requires.sealable.entered;
      count = items_count c.args.book.now.book plan c.requires.sealable.sound;
      rising = c.requires.sealable.rising;
      codes = c.in_ok-directory.ensures.codes;
    }))
