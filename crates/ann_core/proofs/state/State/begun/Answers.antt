use Rattle.std.proofs.Common.{List, length, refl, ap, arith}
use Rattle.ann_state.specs.State.{index_with}
use Rattle.ann_types.specs.declared.entry.Entry.{Entry}
use Rattle.ann_core.proofs.Opening.{begun_below, smaller}
use Rattle.ann_core.proofs.state.State.begun.Goals as goal

pub returns-in-Ok-clause-small : goal.returns-in-Ok-clause-small
returns-in-Ok-clause-small c =
    let index = index_with c.args.self.now.params c.args.self.now.book.value.book in
    let found = (c.in-Ok.ensures index refl).begun in
    let many = ap (λ (t : List Entry). length t) c.deref.ensures.value in
    let size = c.args.self.now.list.ok.0 in
    smaller c.in-Ok.judged.begun (length c.deref.result.now) (omega (arith, many, size)) (begun_below index c.deref.result.now c.in-Ok.judged.begun found)
