use Rattle.std.proofs.Common.{[], ◌∷◌, ◌++◌, sym, ap, ◌∙◌, refl, length}
use Rattle.ann_frozen.specs.declared.label.Label.{Label}
use Rattle.ann_frozen.proofs.Rows.{seen_width, push_is, packed_push}
use Rattle.ann_frozen.proofs.packed.Packed.push.Goals as goal

pub invariant_of-self-2 : goal.invariant_of-self-2
invariant_of-self-2 c =
    let label : Label = record { tag = c.args.tag; start = c.len-start.result; pid = c.args.pid; count = length c.args.neighbours.now } in
    packed_push c.self.inside.width c.self.inside.labels.items c.self.inside.bytes.items c.self.inside.numbers.items label c.args.vector.now c.args.neighbours.now _ _ _ c.self.invariant
    (c.requires.vector ∙ sym (seen_width c.self.inside.width c.self.inside.labels.items c.self.inside.bytes.items c.self.inside.numbers.items c.args.self.now c.self.view_is))
    (c.len-start.ensures ∙ c.self.inside.numbers.ok.0) refl
    (c.push_reserved.ensures.items ∙ ap (λ t. t ++ label ∷ []) c.reserve.ensures.items)
    (c.extend_within.ensures.items ∙ ap (λ t. t ++ c.args.vector.now) c.reserve-2.ensures.items)
    c.in_ok-extend_from_slice.ensures.items

pub returns-clause-nodes : goal.returns-clause-nodes
returns-clause-nodes c =
    let label : Label = record { tag = c.args.tag; start = c.len-start.result; pid = c.args.pid; count = length c.args.neighbours.now } in
    push_is c.self.inside.width c.self.inside.labels.items c.self.inside.bytes.items c.self.inside.numbers.items c.args.self.now c.self.view_is c.self.invariant _ _ _ label c.args.vector.now c.args.neighbours.now c.requires.vector
    (c.len-start.ensures ∙ c.self.inside.numbers.ok.0) refl
    (c.push_reserved.ensures.items ∙ ap (λ t. t ++ label ∷ []) c.reserve.ensures.items)
    (c.extend_within.ensures.items ∙ ap (λ t. t ++ c.args.vector.now) c.reserve-2.ensures.items)
    c.in_ok-extend_from_slice.ensures.items
