use Rattle.std.proofs.Common.{ℕ, ◌+◌, ◌*◌, length, sym, ap, subst, ◌∙◌}
use Rattle.ann_segment.specs.Directory.{directory_blocks}
use Rattle.ann_segment.specs.Opening.{segment_length}
use Rattle.ann_segment.specs.Segment.{IsEntryOf}
use Rattle.ann_segment.specs.Writer.{WriterView}
use Rattle.ann_segment.proofs.Rows.{length-items, segment_all, text_is}
use Rattle.ann_segment.proofs.writer.SegmentWriter.finish.Goals as goal

pub invariant_of-result : goal.invariant_of-result
invariant_of-result g c =
    let h = c.self.inside.header in
    let now = c.args.self.header in (
      c.self.invariant.0.code_bytes.1,
      c.self.invariant.1,
      record {
        rising = c.self.invariant.2;
        entry = subst (λ (n : ℕ). IsEntryOf n h.start_row) (sym (length-items h.m h.count c.self.inside.directory.items)) c.self.invariant.0.entry;
      },
      λ tells. (
        c.in_ok-seal.ensures.number tells
            ∙ ap (λ (w : WriterView g.row.D.Denot). g.V.Vault.draft_number w.draft) c.self.view_is
            ∙ (c.requires.draft tells).number
            ∙ ap (λ (w : WriterView g.row.D.Denot). w.header.number) (sym c.self.view_is),
        ap length (c.in_ok-seal.ensures.bytes tells)
            ∙ ap (λ (w : WriterView g.row.D.Denot). length (g.V.Vault.draft_bytes w.draft)) c.self.view_is
            ∙ (c.requires.draft tells).long
            ∙ ap (λ (n : ℕ). 4096 * (1 + directory_blocks now.count now.m + n)) c.requires.all
            ∙ segment_all now.count now.m
            ∙ ap (λ (w : WriterView g.row.D.Denot). segment_length w.header.count w.header.m) (sym c.self.view_is),
      ),
    )

pub returns-clause-text : goal.returns-clause-text
returns-clause-text g c = λ tells params book graph first second blocks.
    c.in_ok-seal.ensures.bytes tells
    ∙ ap (λ (w : WriterView g.row.D.Denot). g.V.Vault.draft_bytes w.draft) c.self.view_is
    ∙ blocks
    ∙ text_is params book graph c.args.self.header.number c.args.self.header c.args.self.items first second
