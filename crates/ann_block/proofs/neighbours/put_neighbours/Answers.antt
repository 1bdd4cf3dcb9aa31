use Rattle.std.proofs.Common.{◌≡◌, ℕ, ◌+◌, ◌*◌, List, length, take, get_or, sym, ap, ◌∙◌, arith, length-take}
use Rattle.std.specs.List.{flat_map}
use Rattle.ann_bytes.specs.LittleEndian.{bytes_of, with_field}
use Rattle.ann_bytes.proofs.Joined.{with_field-next}
use Rattle.ann_block.proofs.Listed.{length-numbers, numbers_more}
use Rattle.ann_block.proofs.neighbours.put_neighbours.Goals as goal

pub loop-i-preserved : goal.loop-i-preserved
loop-i-preserved c =
    let before : List ℕ = flat_map (bytes_of 4) (take c.loop-i.i c.args.neighbours.now) in
    let new : List ℕ = bytes_of 4 (get_or c.args.neighbours.now c.loop-i.i 0) in
    let long : c.args.at + length before ≡ c.args.at + 4 * c.loop-i.i =
    omega (arith, length-numbers (take c.loop-i.i c.args.neighbours.now), length-take c.loop-i.i c.args.neighbours.now, c.loop-i-test.true) in
    record {
      written =
          c.put_u32.ensures.written
          ∙ ap (λ b. with_field b (c.args.at + 4 * c.loop-i.i) new) c.loop-i.invariant.written
          ∙ with_field-next c.args.block.now before new c.args.at (c.args.at + 4 * c.loop-i.i) (omega (arith, c.requires)) long
          ∙ ap (with_field c.args.block.now c.args.at) (sym (numbers_more c.args.neighbours.now c.loop-i.i c.loop-i-test.true));
    }
