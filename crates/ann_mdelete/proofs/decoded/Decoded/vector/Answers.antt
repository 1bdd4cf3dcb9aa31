use Rattle.std.proofs.Common.{◌≡◌, ◌≤◌, ◌+◌, ◌*◌, ◌-◌, ap, sym, ◌∙◌, arith, take, drop, length}
use Rattle.ann_mdelete.specs.Decoded.{vector_at}
use Rattle.ann_mdelete.proofs.Vectors.{place_ends, count_vectors, at_vectors, width_vectors}
use Rattle.ann_mdelete.proofs.decoded.Decoded.vector.Goals as goal

pub slice_bounds-result-end : goal.slice_bounds-result-end
slice_bounds-result-end c =
    let count = count_vectors _ _ _ c.args.self.now c.self.view_is in
    let few = c.requires in
    let size = c.self.inside.bytes.ok.0 in
    let same = c.deref.ensures.len in
    let all : c.self.inside.count * c.from-width.result ≡ c.self.inside.count * c.self.inside.width = ap (λ k. c.self.inside.count * k) c.from-width.ensures in
    let whole = c.self.invariant.0 in
    let goes : c.args.row * c.from-width.result + c.from-width.result ≤ length c.deref.result.now =
    place_ends c.args.row c.self.inside.count c.from-width.result (length c.deref.result.now) (omega arith) (omega arith) in goes

pub returns-clause-value : goal.returns-clause-value
returns-clause-value c =
    let r = c.args.row in
    let w = c.from-width.result in
    let wide : r * w + w - r * w ≡ w = omega arith in
    ap (λ n. take n (drop (r * w) c.deref.result.now)) wide
    ∙ ap (λ t. take w (drop (r * w) t)) c.deref.ensures.value
    ∙ ap (λ k. vector_at k c.self.inside.bytes.items r) c.from-width.ensures
    ∙ at_vectors _ _ _ c.args.self.now r c.self.view_is c.requires

pub returns-clause-width : goal.returns-clause-width
returns-clause-width c =
    let r = c.args.row in
    let w = c.from-width.result in
    let wide : r * w + w - r * w ≡ w = omega arith in
    let few = c.requires in
    let whole : length c.self.inside.bytes.items ≡ c.self.inside.count * c.self.inside.width = sym c.self.inside.bytes.ok.0 ∙ c.self.invariant.0 in
    ap length (ap (λ n. take n (drop (r * w) c.deref.result.now)) wide
    ∙ ap (λ t. take w (drop (r * w) t)) c.deref.ensures.value
    ∙ ap (λ k. vector_at k c.self.inside.bytes.items r) c.from-width.ensures
    ∙ at_vectors _ _ _ c.args.self.now r c.self.view_is c.requires)
    ∙ width_vectors _ _ _ c.args.self.now r c.self.view_is whole c.requires
    ∙ sym (width_vectors _ _ _ c.args.self.now 0 c.self.view_is whole (omega arith))
