use Rattle.std.proofs.Common.{◌≡◌, ◌+◌, ◌*◌, ap, sym, ◌∙◌, arith, length}
use Rattle.std.proofs.lemmas.List.Elements.{All-push, All-same}
use Rattle.ann_types.specs.Codes.{decode}
use Rattle.ann_mdelete.specs.Decoded.{vectors_in}
use Rattle.ann_mdelete.proofs.Vectors.{count_vectors, added_vector, added_size}
use Rattle.ann_mdelete.proofs.decoded.Decoded.push.Goals as goal

pub overflow_add-self : goal.overflow_add-self
overflow_add-self c =
    let count = count_vectors _ _ _ c.args.self.now c.self.view_is in
    let few = c.requires.few in omega arith

pub invariant_of-self-2 : goal.invariant_of-self-2
invariant_of-self-2 c =
    let d = c.d-self-inside.result in
    let n = c.self.inside.count in
    let is : d ≡ c.args.book.now.d = c.d-self-inside.ensures in
    let size = c.self.inside.bytes.ok.0 in
    let whole : length c.self.inside.bytes.items ≡ n * c.self.inside.width = sym size ∙ c.self.invariant.0 in
    let more = added_size c.self.inside.width n c.self.inside.bytes.items (decode c.args.book.now.book c.args.code.now) c.add_decoded.new.bytes.items c.args.self.now c.args.book.now.d c.self.view_is whole c.requires.same in
    let all : (n + 1) * d ≡ (n + 1) * c.args.book.now.d = ap (λ k. (n + 1) * k) is in
    let long = c.in_ok-add_decoded.ensures.long in
    let small = c.known.ensures.sizes.components.1 in
    (omega arith, omega arith)

pub returns-clause-added : goal.returns-clause-added
returns-clause-added c =
    let n = c.self.inside.count in
    let whole : length c.self.inside.bytes.items ≡ n * c.self.inside.width = sym c.self.inside.bytes.ok.0 ∙ c.self.invariant.0 in
    ap (λ k. vectors_in k (n + 1) c.add_decoded.new.bytes.items) c.d-self-inside.ensures
    ∙ added_vector c.self.inside.width n c.self.inside.bytes.items (decode c.args.book.now.book c.args.code.now) c.add_decoded.new.bytes.items c.args.self.now c.args.book.now.d c.self.view_is whole c.requires.same c.in_ok-add_decoded.ensures.width c.in_ok-add_decoded.ensures.added

pub returns-clause-same : goal.returns-clause-same
returns-clause-same c =
    All-same (λ vector. length vector ≡ c.args.book.now.d) _ _ (returns-clause-added c)
    (All-push (λ vector. length vector ≡ c.args.book.now.d) c.args.self.now (decode c.args.book.now.book c.args.code.now) c.requires.same c.in_ok-add_decoded.ensures.width)
