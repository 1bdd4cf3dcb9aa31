use Rattle.std.proofs.Common.{◌≡◌, ℕ, ◌+◌, ◌*◌, List, ◌++◌, length, refl, sym, ap, subst, ◌∙◌, arith}
use Rattle.ann_block.specs.Header.{header_bytes}
use Rattle.ann_segment.specs.Directory.{AreRising, directory_blocks, filled}
use Rattle.ann_segment.proofs.Rows.{length-directory, items_back, front_is, front_long}
use Rattle.ann_segment.proofs.writer.SegmentWriter.start.Goals as goal

none_behind : (blocks : ℕ) → 4096 * (1 + blocks) ≡ 4096 * (1 + blocks + 0)
none_behind blocks = omega arith

pub invariant_of-result : goal.invariant_of-result
invariant_of-result g c =
    let h = c.args.header in
    let bytes = c.in_ok-bytes.bytes.items in
    let front = c.requires.front in
    let small = c.in_ok-bytes.ensures.small in
    let again = items_back h.m h.count c.args.directory bytes c.in_ok-bytes.ensures.bytes front.count front.codes small in
    let long : length bytes ≡ h.count * (4 + h.m) =
    ap length c.in_ok-bytes.ensures.bytes ∙ length-directory h.m c.args.directory front.codes ∙ ap (λ (n : ℕ). n * (4 + h.m)) front.count in
    (front.sound, omega (arith, long), subst AreRising (sym again) front.rising)

pub returns-clause-begun : goal.returns-clause-begun
returns-clause-begun g c =
    let front = c.requires.front in
    record {
      header = refl;
      items = items_back c.args.header.m c.args.header.count c.args.directory c.in_ok-bytes.bytes.items c.in_ok-bytes.ensures.bytes front.count front.codes c.in_ok-bytes.ensures.small;
      none = refl;
    }

pub returns-clause-front : goal.returns-clause-front
returns-clause-front g c = λ tells.
    let bytes : List ℕ = c.deref.result.now in
    let front : List ℕ = header_bytes c.args.header ++ filled bytes in
    let draft = c.in_ok-write_front.ensures.draft tells in
    let blocks =
    draft.blocks
    ∙ ap (λ (b : List ℕ). b ++ front) (c.in_ok-draft.ensures.empty tells)
    ∙ front_is c.args.header c.args.directory bytes (c.deref.ensures.value ∙ c.in_ok-bytes.ensures.bytes) in
    record {
      number = draft.number ∙ c.in_ok-draft.ensures.number tells;
      blocks = blocks;
      long = ap length blocks ∙ front_long c.args.header c.args.directory c.requires.front.count c.requires.front.codes ∙ none_behind (directory_blocks c.args.header.count c.args.header.m);
      current = draft.current;
    }
