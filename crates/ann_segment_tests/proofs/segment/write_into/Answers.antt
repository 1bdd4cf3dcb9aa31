use Rattle.std.proofs.Common.{ℕ, ◌≡◌, ◌+◌, ◌*◌, List, length, sym, ap, ◌∙◌, arith, rules}
use Rattle.std.specs.Ordering.{nat_cmp}
use Rattle.std.specs.FinMap.{FinMap, get, get-empty}
use Rattle.std.proofs.lemmas.List.{length-append}
use Rattle.ann_block.specs.declared.header.Header.{Header}
use Rattle.ann_segment.specs.Directory.{directory_blocks}
use Rattle.ann_segment_tests.proofs.segment.write_into.Goals as goal

-- two blocks behind a header and one block of a directory
two_behind : (all front first second directory written : ℕ)
    → all ≡ front + first + second → front ≡ 8192 → first ≡ 4096 → second ≡ 4096 → directory ≡ 1 → written ≡ 2
    → all ≡ 4096 * (1 + directory + written)
two_behind all front first second directory written sum is_front is_first is_second is_directory is_written =
    omega (arith, sum, is_front, is_first, is_second, is_directory, is_written)

pub finish-requires-clause-draft : goal.finish-requires-clause-draft
finish-requires-clause-draft c = λ told.
    let front = c.in_ok-writer.writer.draft.bytes.items in
    let first = c.write_node.new.block in
    let second = c.write_node-2.new.block in
    let begun = c.in_ok-writer.ensures.begun in
    let of_front = c.in_ok-writer.ensures.front told in
    let one = c.in_ok-node.ensures.draft told in
    let two = c.in_ok-node-2.ensures.draft told in
    let one_row = c.in_ok-node.ensures.row in
    let two_rows = c.in_ok-node-2.ensures.row in
    let sum = ap length two.blocks
    ∙ length-append _ second
    ∙ ap (λ n. n + length second) (ap length one.blocks ∙ length-append front first) in
    let header = two_rows.header ∙ one_row.header ∙ begun.header in
    let counted = two_rows.written ∙ ap (λ n. n + 1) one_row.written ∙ ap (λ n. n + 1 + 1) begun.none in
    record {
      number = two.number ∙ one.number ∙ of_front.number ∙ ap (λ (h : Header). h.number) (sym header);
      long = two_behind _ (length front) (length first) (length second) _ _ sum of_front.long (search rules) (search rules) (ap (λ (h : Header). directory_blocks h.count h.m) header) counted;
      current = two.current;
    }
