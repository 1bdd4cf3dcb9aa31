use Rattle.std.proofs.Common.{◌≡◌, ℕ, List, ap, ap₂, sym, subst, ◌∙◌, arith, drop, length}
use Rattle.std.proofs.lemmas.List.{take_at}
use Rattle.ann_mdelete.specs.Lists.{AreEnds, lists_in}
use Rattle.ann_mplan.proofs.Filled.{are_ends, inverted, none_filled}
use Rattle.ann_mplan.proofs.back.invert.Goals as goal

pub fill-requires-clause-filled : goal.fill-requires-clause-filled
fill-requires-clause-filled c =
    none_filled c.args.base_rows c.args.links.now c.deref_mut.result.now c.deref_mut-2.result.now
    (c.deref_mut.ensures.value ∙ c.in_ok-ends.ensures.places)
    (c.deref_mut-2.ensures.len ∙ c.in_ok-numbers.ensures.len ∙ c.in_ok-ends.ensures.total)

pub from_parts-requires : goal.from_parts-requires
from_parts-requires c =
    let ends : List ℕ = c.fill.new.ends in
    let numbers : List ℕ = c.fill.new.numbers in
    subst (AreEnds _) (c.fill.auto.numbers ∙ c.deref_mut-2.ensures.len)
    (subst (λ (t : List ℕ). AreEnds t (length numbers)) (sym (take_at ends (drop (length ends) c.in_ok-ends.ends.items) c.in_ok-ends.ends.len (c.fill.auto.ends ∙ c.deref_mut.ensures.len)))
    (are_ends c.args.base_rows c.args.links.now ends numbers c.fill.ensures))

pub returns : goal.returns
returns c =
    let ends : List ℕ = c.fill.new.ends in
    let numbers : List ℕ = c.fill.new.numbers in
    c.from_parts.ensures
    ∙ ap₂ lists_in
    (take_at ends (drop (length ends) c.in_ok-ends.ends.items) c.in_ok-ends.ends.len (c.fill.auto.ends ∙ c.deref_mut.ensures.len))
    (take_at numbers (drop (length numbers) c.in_ok-numbers.numbers.items) c.in_ok-numbers.numbers.len (c.fill.auto.numbers ∙ c.deref_mut-2.ensures.len))
    ∙ inverted c.args.base_rows c.args.links.now ends numbers c.fill.ensures
