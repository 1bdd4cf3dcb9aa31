use Rattle.std.proofs.Common.{◌≡◌, ◌*◌, refl, sym, ◌∙◌, arith, length}
use Rattle.std.proofs.lemmas.List.Elements.{All-push, All-same}
use Rattle.ann_mdelete.proofs.Vectors.{count_vectors, added_vector, added_size}
use Rattle.ann_mdelete.proofs.decoded.Decoded.push_vector.Goals as goal

pub overflow_add-self : goal.overflow_add-self
overflow_add-self c =
    let count = count_vectors _ _ _ c.args.self.now c.self.view_is in
    let few = c.requires.few in omega arith

pub invariant_of-self-2 : goal.invariant_of-self-2
invariant_of-self-2 c =
    let n = c.self.inside.count in
    let size = c.self.inside.bytes.ok.0 in
    let whole : length c.self.inside.bytes.items ≡ n * c.self.inside.width = sym size ∙ c.self.invariant.0 in
    let more = added_size c.self.inside.width n c.self.inside.bytes.items c.args.vector.now c.extend_from_slice.new.self.items c.args.self.now (length c.args.vector.now) c.self.view_is whole c.requires.same in
    let long = c.in_ok-extend_from_slice.ensures.len in
    let size' = c.extend_from_slice.new.self.ok.0 in
    let short = c.requires.short in
    (omega arith, omega arith)

pub returns-clause-added : goal.returns-clause-added
returns-clause-added c =
    let n = c.self.inside.count in
    let whole : length c.self.inside.bytes.items ≡ n * c.self.inside.width = sym c.self.inside.bytes.ok.0 ∙ c.self.invariant.0 in
    added_vector c.self.inside.width n c.self.inside.bytes.items c.args.vector.now c.extend_from_slice.new.self.items c.args.self.now (length c.args.vector.now) c.self.view_is whole c.requires.same refl c.in_ok-extend_from_slice.ensures.items

pub returns-clause-same : goal.returns-clause-same
returns-clause-same c =
    All-same (λ earlier. length earlier ≡ length c.args.vector.now) _ _ (returns-clause-added c)
    (All-push (λ earlier. length earlier ≡ length c.args.vector.now) c.args.self.now c.args.vector.now c.requires.same refl)
