use Rattle.std.proofs.Common.{◌≡◌, ℕ, ◌+◌, List, length, take, ◌∙◌, ap, arith, ◌++◌}
use Rattle.std.specs.List.{concat}
use Rattle.std.proofs.lemmas.List.{length-append}
use Rattle.ann_mseal.proofs.Steps.{appended_then, part_long, piece_more, rest_then, rows_then, same_then}
use Rattle.ann_mseal.proofs.writing.write_pieces.Goals as goal

pub write_blocks-requires-clause-more : goal.write_blocks-requires-clause-more
write_blocks-requires-clause-more g c =
    let so_far = c.loop-piece.invariant in
    let pieces : List (List ℕ) = c.args.pieces.now in
    let i : ℕ = c.loop-piece.piece-index in
    let piece : List ℕ = c.bytes.result.now in
    let next : concat (take (i + 1) pieces) ≡ concat (take i pieces) ++ piece = piece_more i pieces piece c.piece-item.result c.loop-piece-test.true (c.bytes.ensures ∙ c.piece-item.is) in
    let size = ap length next ∙ length-append (concat (take i pieces)) piece in
    let most = part_long (i + 1) pieces in
    let rows = so_far.rows in
    let room = c.requires.more in
    let head = so_far.same.header in
    let count : c.loop-piece.writer.header.count ≡ c.args.writer.now.header.count = ap (λ (h : _). h.count) head in
    omega arith

pub loop-piece-preserved : goal.loop-piece-preserved
loop-piece-preserved g c =
    let so_far = c.loop-piece.invariant in
    let pieces : List (List ℕ) = c.args.pieces.now in
    let i : ℕ = c.loop-piece.piece-index in
    let piece : List ℕ = c.bytes.result.now in
    let next : concat (take (i + 1) pieces) ≡ concat (take i pieces) ++ piece = piece_more i pieces piece c.piece-item.result c.loop-piece-test.true (c.bytes.ensures ∙ c.piece-item.is) in
    record {
      same = same_then c.args.writer.now c.loop-piece.writer c.write_blocks.new.writer so_far.same c.write_blocks.ensures.same;
      rows = rows_then (concat (take i pieces)) piece (concat (take (i + 1) pieces)) c.args.writer.now c.loop-piece.writer c.write_blocks.new.writer next so_far.rows c.in_ok-write_blocks.ensures.rows;
      draft = λ told.
          appended_then g.V.Vault.is_current g.V.Vault.draft_number g.V.Vault.draft_bytes (concat (take i pieces)) piece (concat (take (i + 1) pieces)) c.loop-piece.vault c.write_blocks.new.vault c.args.writer.now.draft c.loop-piece.writer.draft c.write_blocks.new.writer.draft
          next (so_far.draft told) (c.in_ok-write_blocks.ensures.draft told);
      rest = λ told. rest_then g.V.Vault.is_current g.V.Vault.draft_number g.V.Vault.held _ _ c.args.vault.now c.loop-piece.vault c.write_blocks.new.vault (so_far.draft told).number (so_far.rest told) (c.write_blocks.ensures.rest told);
      calm = c.in_ok-write_blocks.ensures.cause.calm ∙ so_far.calm;
    }
