use Rattle.std.proofs.Common.{◌≡◌, ℕ, ◌+◌, ◌*◌, ◌/◌, ◌<◌, List, length, take, ◌∙◌, arith}
use Rattle.std.specs.List.{slice_range}
use Rattle.ann_mseal.proofs.Steps.{appended_then, block_long, block_more, rest_then, rows_then, same_then}
use Rattle.ann_mseal.proofs.writing.write_blocks.Goals as goal

pub loop-i-preserved : goal.loop-i-preserved
loop-i-preserved g c =
    let so_far = c.loop-i.invariant in
    let blocks : List ℕ = c.args.blocks.now in
    let i : ℕ = c.loop-i.i in
    let block : List ℕ = slice_range blocks (4096 * i) (4096 * i + 4096) in
    let below : i < length blocks / 4096 = (let test = c.loop-i-test.true in omega arith) in
    let long : length block ≡ 4096 = block_long i blocks below in
    let row = c.in_ok-node.ensures.row in
    record {
      same = same_then c.args.writer.now c.loop-i.writer c.node.new.self so_far.same (record { header = row.header; items = row.items });
      rows = rows_then (take (4096 * i) blocks) block (take (4096 * (i + 1)) blocks) c.args.writer.now c.loop-i.writer c.node.new.self (block_more i blocks) so_far.rows (let one = row.written in omega arith);
      draft = λ told.
          let more = c.in_ok-node.ensures.draft told in
          appended_then g.V.Vault.is_current g.V.Vault.draft_number g.V.Vault.draft_bytes (take (4096 * i) blocks) block (take (4096 * (i + 1)) blocks) c.loop-i.vault c.node.new.vault c.args.writer.now.draft c.loop-i.writer.draft c.node.new.self.draft
          (block_more i blocks) (so_far.draft told) (record { number = more.number; blocks = more.blocks; current = more.current });
      rest = λ told. rest_then g.V.Vault.is_current g.V.Vault.draft_number g.V.Vault.held _ _ c.args.vault.now c.loop-i.vault c.node.new.vault (so_far.draft told).number (so_far.rest told) (c.node.ensures.rest told);
      calm = c.in_ok-node.ensures.cause.calm ∙ so_far.calm;
    }
