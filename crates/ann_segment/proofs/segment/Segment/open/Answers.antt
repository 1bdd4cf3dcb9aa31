use Rattle.std.proofs.Common.{ℕ, ◌+◌, ◌*◌, ◌≤◌, sym, ap, subst, ◌∙◌, rules}
use Rattle.ann_block.specs.declared.header.Header.{Header}
use Rattle.ann_segment.specs.Opening.{segment_length}
use Rattle.ann_segment.specs.Segment.{IsEntryOf}
use Rattle.ann_segment.proofs.Rows.{length-items, fill}
use Rattle.ann_segment.proofs.Texts.{none_bad, opened_holds}
use Rattle.ann_segment.proofs.segment.Segment.open.Goals as goal

pub invariant_of-result : goal.invariant_of-result
invariant_of-result g c =
    let h = c.in-Ok.front.header in
    let bytes = c.in-Ok.front.directory.items in
    let sound = c.in-Ok.ensures.front.header in (
      sound.code_bytes.1,
      subst (λ (n : ℕ). h.count * (4 + h.m) ≤ n) (sym c.in-Ok.ensures.front.rows) (fill (h.count * (4 + h.m))),
      record {
        rising = c.in-Ok.ensures.front.rising;
        entry = subst (λ (n : ℕ). IsEntryOf n h.start_row) (sym (length-items h.m h.count bytes)) sound.entry;
      },
      λ tells. (
        c.requires tells,
        (c.in-Ok.ensures.told tells).front.header.long ∙ ap (λ (k : Header). segment_length k.count k.m) (sym (c.in-Ok.ensures.told tells).header),
      ),
    )

pub returns-in-Ok-clause-holds : goal.returns-in-Ok-clause-holds
returns-in-Ok-clause-holds g c = λ tells book graph fits text.
    opened_holds c.args.number c.args.params.now book graph (g.S.Sealed.bytes c.args.seal) fits (search rules) text c.args.seal _ (search rules) (search rules)

pub returns-in-Err-clause-holds : goal.returns-in-Err-clause-holds
returns-in-Err-clause-holds g c = λ tells book graph fits text block is.
    none_bad c.args.number c.args.params.now book graph (g.S.Sealed.bytes c.args.seal) fits (search rules) text block (c.in-Err.ensures.told tells block is)
