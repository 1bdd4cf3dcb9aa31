use Rattle.std.proofs.Common.{ap, ◌∙◌, arith}
use Rattle.ann_bytes.specs.LittleEndian.{bytes_of, with_field}
use Rattle.ann_preamble.specs.Written.{base_fields}
use Rattle.ann_bytes.proofs.Joined.{laid_is}
use Rattle.ann_preamble.proofs.writing.put_base.Goals as goal

pub returns : goal.returns
returns c =
    let base = c.args.base.now in
    let b1 = c.put_u64.ensures.written in
    let b2 = c.put_u64-2.ensures.written ∙ ap (λ b. with_field b 45 (bytes_of 8 base.segment)) b1 in
    let b3 = c.put_u64-3.ensures.written ∙ ap (λ b. with_field b 53 (bytes_of 8 base.next)) b2 in
    b3 ∙ laid_is (base_fields base) c.args.out.now 37 (omega (arith, c.requires))
