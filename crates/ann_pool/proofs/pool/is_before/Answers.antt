use Rattle.std.proofs.Common.{◌+◌, ◌*◌, ℕ, ltb, ap, ◌∙◌}
use Rattle.ann_pool.proofs.Orders.{key_before}
use Rattle.ann_pool.proofs.pool.is_before.Goals as goal

pub returns : goal.returns
returns c =
    ap (λ (n : ℕ). ltb n c.key_of-2.result) c.key_of.ensures.value
    ∙ ap (ltb (c.args.x.now.distance * 4294967296 + c.args.x.now.number)) c.key_of-2.ensures.value
    ∙ key_before c.args.x.now c.args.y.now c.key_of.ensures.few c.key_of-2.ensures.few
