use Rattle.std.proofs.Common.{◌≡◌, ◌∙◌, map, refl, ap}
use Rattle.ann_state.specs.State.{index_with}
use Rattle.ann_pq.specs.Codebook.{CodebookView}
use Rattle.ann_pq.specs.Format.{codebook}
use Rattle.ann_core_laws.specs.State.{first_state}
use Rattle.ann_core.specs.Kept.{text_of}
use Rattle.ann_core.proofs.Starting.{first_core}
use Rattle.ann_core.proofs.core_type.Core.new.Goals as goal

pub invariant_of-result : goal.invariant_of-result
invariant_of-result c =
    let book : c.in_ok-new.field-0.value ≡ codebook c.args.params.now.d c.args.params.now.m c.args.book.now = c.in_ok-new.ensures.ok ∙ c.in-Ok.ensures.value in (
      index_with c.args.params.now c.in_ok-new.field-0.value.book,
      first_state,
      first_core c.args.params.now c.args.book.now c.in_ok-new.field-0.value c.in_ok-new.field-0.value.book _ _ _ _ book refl c.new-2.ensures.items c.in_ok-pins.ensures c.new-3.ensures.items (ap (map text_of) c.new-4.ensures.items),
    )

pub returns : goal.returns
returns c =
    let book : c.in_ok-new.field-0.value ≡ codebook c.args.params.now.d c.args.params.now.m c.args.book.now = c.in_ok-new.ensures.ok ∙ c.in-Ok.ensures.value in
    record { first = first_core c.args.params.now c.args.book.now c.in_ok-new.field-0.value (codebook c.args.params.now.d c.args.params.now.m c.args.book.now).book _ _ _ _ book (ap (λ (k : CodebookView). k.book) book) c.new-2.ensures.items c.in_ok-pins.ensures c.new-3.ensures.items (ap (map text_of) c.new-4.ensures.items) }
