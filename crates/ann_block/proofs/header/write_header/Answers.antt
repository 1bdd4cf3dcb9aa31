use Rattle.std.proofs.Common.{◌≡◌, ℕ, ap, ◌∙◌, None, Some, Option, refl, subst, arith, ◌<◌, ◌^◌}
use Rattle.std.specs.Option.{unwrap_or}
use Rattle.ann_bytes.specs.LittleEndian.{bytes_of, with_field}
use Rattle.ann_block.specs.Block.{zeros}
use Rattle.ann_block.specs.Header.{entry_field, judge_header, header_of, magic}
use Rattle.ann_block.proofs.Headers.{written, header_accepted, header_read_back}
use Rattle.ann_block.proofs.header.write_header.Goals as goal

entry_is : (start_row : Option ℕ) → unwrap_or start_row 4294967295 ≡ entry_field start_row
entry_is None = refl
entry_is (Some row) = refl

pub returns-clause-written : goal.returns-clause-written
returns-clause-written c =
    let h = c.args.header.now in
    let b1 : c.put_bytes.new.bytes ≡ with_field (zeros 4096) 0 magic = c.put_bytes.ensures ∙ ap (λ b. with_field b 0 magic) (c.clear.ensures ∙ ap zeros c.requires.block) in
    let b2 = c.put_u64.ensures.written ∙ ap (λ b. with_field b 8 (bytes_of 8 h.number)) b1 in
    let b3 = c.put_u16.ensures.written ∙ ap (λ b. with_field b 16 (bytes_of 2 h.d)) b2 in
    let b4 = c.put_u16-2.ensures.written ∙ ap (λ b. with_field b 18 (bytes_of 2 h.r)) b3 in
    let b5 = c.put_u16-3.ensures.written ∙ ap (λ b. with_field b 20 (bytes_of 2 h.m)) b4 in
    let b6 = c.put_u16-4.ensures.written ∙ ap (λ b. with_field b 22 (bytes_of 2 0)) b5 in
    let b7 = c.put_u32.ensures.written ∙ ap (λ b. with_field b 24 (bytes_of 4 h.count)) b6 in
    let b8 = c.put_u32-2.ensures.written ∙ ap (λ b. with_field b 28 (bytes_of 4 c.unwrap_or.result)) b7 in
    let last = c.unwrap_or.ensures ∙ entry_is h.start_row in
    b8 ∙ ap (λ n. with_field (with_field (with_field (with_field (with_field (with_field (with_field (with_field (zeros 4096) 0 magic) 8 (bytes_of 8 h.number)) 16 (bytes_of 2 h.d)) 18 (bytes_of 2 h.r)) 20 (bytes_of 2 h.m)) 22 (bytes_of 2 0)) 24 (bytes_of 4 h.count)) 28 (bytes_of 4 n)) last ∙ written h

-- the numbers of the header fit their fields
entry_fits : (start_row : Option ℕ) (n : ℕ) → n ≡ unwrap_or start_row 4294967295 → n < 2 ^ 32 → entry_field start_row < 2 ^ 32
entry_fits start_row n is below = let P : ℕ → Type 0 = λ k. k < 2 ^ 32 in subst P (is ∙ entry_is start_row) below

pub returns-clause-accepted : goal.returns-clause-accepted
returns-clause-accepted c =
    ap judge_header (returns-clause-written c)
    ∙ header_accepted c.args.header.now c.requires.header (omega arith) (omega arith) (entry_fits c.args.header.now.start_row c.unwrap_or.result c.unwrap_or.ensures (omega (arith, c.unwrap_or.type_inv)))

pub returns-clause-read_back : goal.returns-clause-read_back
returns-clause-read_back c =
    ap header_of (returns-clause-written c)
    ∙ header_read_back c.args.header.now c.requires.header (omega arith) (omega arith) (entry_fits c.args.header.now.start_row c.unwrap_or.result c.unwrap_or.ensures (omega (arith, c.unwrap_or.type_inv)))
