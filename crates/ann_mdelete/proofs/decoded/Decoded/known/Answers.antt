use Rattle.std.proofs.Common.{◌<◌, ◌^◌, ℕ, sym, subst, ◌∙◌, ap, arith, get_or}
use Rattle.ann_mdelete.proofs.Vectors.{count_vectors, are_decoded}
use Rattle.ann_mdelete.proofs.decoded.Decoded.known.Goals as goal

pub returns : goal.returns
returns c =
    let few = c.len-rows.ensures in
    let count = count_vectors _ _ _ c.args.self.now c.self.view_is in
    let small : c.self.inside.count < 2 ^ 32 = omega arith in
    are_decoded c.self.inside.width c.self.inside.count c.self.inside.bytes.items c.args.self.now c.self.view_is
    (sym c.self.inside.bytes.ok.0 ∙ c.self.invariant.0) c.self.invariant.1 small
    (λ i. subst (λ (n : ℕ). n < 256) (ap (λ t. get_or t i 0) c.deref.ensures.value) (c.are_bytes.ensures i))
