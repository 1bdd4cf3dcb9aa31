use Rattle.std.proofs.Common.{ap, ◌∙◌, arith}
use Rattle.ann_bytes.specs.LittleEndian.{bytes_of, with_field}
use Rattle.ann_preamble.specs.Written.{params_fields}
use Rattle.ann_bytes.proofs.Joined.{laid_is}
use Rattle.ann_preamble.proofs.writing.put_params.Goals as goal

pub returns : goal.returns
returns c =
    let p = c.args.params.now in
    let b1 = c.put_u16.ensures.written in
    let b2 = c.put_u16-2.ensures.written ∙ ap (λ b. with_field b 11 (bytes_of 2 p.r)) b1 in
    let b3 = c.put_u16-3.ensures.written ∙ ap (λ b. with_field b 13 (bytes_of 2 p.l_build)) b2 in
    let b4 = c.put_u16-4.ensures.written ∙ ap (λ b. with_field b 15 (bytes_of 2 p.a)) b3 in
    let b5 = c.put_u16-5.ensures.written ∙ ap (λ b. with_field b 17 (bytes_of 2 p.b)) b4 in
    let b6 = c.put_u16-6.ensures.written ∙ ap (λ b. with_field b 19 (bytes_of 2 p.w)) b5 in
    let b7 = c.put_u16-7.ensures.written ∙ ap (λ b. with_field b 21 (bytes_of 2 p.m)) b6 in
    let b8 = c.put_u16-8.ensures.written ∙ ap (λ b. with_field b 23 (bytes_of 2 0)) b7 in
    let b9 = c.put_u32.ensures.written ∙ ap (λ b. with_field b 25 (bytes_of 4 p.freeze_at)) b8 in
    b9 ∙ laid_is (params_fields p) c.args.out.now 9 (omega (arith, c.requires))
