use Rattle.std.proofs.Common.{◌≡◌, ◌+◌, ◌*◌, [], ◌∷◌, ◌++◌, length, drop, ap, ◌∙◌, arith}
use Rattle.std.specs.List.{concat}
use Rattle.ann_bytes.specs.LittleEndian.{bytes_of, with_field}
use Rattle.ann_preamble.specs.Preamble.{magic_two, preamble_of}
use Rattle.ann_preamble.specs.Written.{params_fields, base_fields, preamble_bytes}
use Rattle.ann_preamble.proofs.Agreed.{shut}
use Rattle.ann_preamble.proofs.Again.{written, read_again}
use Rattle.ann_preamble.proofs.writing.write.Goals as goal

pub returns-clause-written : goal.returns-clause-written
returns-clause-written c =
    let p = c.args.params.now in
    let base = c.args.base.now in
    let book = c.args.book.now in
    let b1 = c.put_bytes.ensures in
    let b2 = c.put_bytes-2.ensures ∙ ap (λ b. with_field b 1 magic_two) b1 in
    let b3 = c.put_params.ensures ∙ ap (λ b. with_field b 9 (concat (params_fields p))) b2 in
    let b4 = c.put_u64.ensures.written ∙ ap (λ b. with_field b 29 (bytes_of 8 c.args.generation)) b3 in
    let b5 = c.put_base.ensures ∙ ap (λ b. with_field b 37 (concat (base_fields base))) b4 in
    let b6 = c.put_bytes-3.ensures ∙ ap (λ b. with_field b 61 book) b5 in
    let b7 = c.put_bytes-4.ensures ∙ ap (λ b. with_field b (61 + length book) (0 ∷ [])) b6 in
    b7 ∙ written p c.args.generation base book c.requires.book c.args.out.now c.requires.room

pub returns-clause-closed : goal.returns-clause-closed
unfolding preamble_bytes
returns-clause-closed c =
    ap preamble_of (returns-clause-written c) ∙ shut (preamble_bytes 0 c.args.params.now c.args.generation c.args.base.now c.args.book.now 0 ++ drop (74 + 256 * c.args.params.now.d) c.args.out.now) (λ (is : 0 ≡ 1). absurd (omega (arith, is)))

pub returns-clause-read_back : goal.returns-clause-read_back
returns-clause-read_back c =
    read_again c.args.params.now c.args.generation c.args.base.now c.args.book.now c.requires.book c.requires.generation c.requires.base (omega arith) (omega arith) (omega arith) (omega arith)
