use Rattle.std.proofs.Common.{◌∷◌, [], ℕ, length, arith, ap, ◌∙◌}
use Rattle.ann_bytes.specs.LittleEndian.{bytes_of, with_field}
use Rattle.ann_entry.specs.EntryBytes.{entries_bytes}
use Rattle.ann_frame.proofs.Filling.{frame_written}
use Rattle.ann_frame.proofs.writing.write_frame.Goals as goal

pub returns-clause-written : goal.returns-clause-written
returns-clause-written c =
    let body = entries_bytes c.args.entries.now in
    let out = c.args.out.now in
    let put = c.put_entries-end in
    c.put_gate.ensures
    ∙ ap (λ t. with_field t put.result (0 ∷ []))
    (c.put_u32.ensures.written
    ∙ ap (λ (n : ℕ). with_field put.new.out 0 (bytes_of 4 n)) (omega (arith, put.ensures.after))
    ∙ ap (λ t. with_field t 0 (bytes_of 4 (length body))) put.ensures.written)
    ∙ ap (λ (n : ℕ). with_field (with_field (with_field out 4 body) 0 (bytes_of 4 (length body))) n (0 ∷ [])) put.ensures.after
    ∙ frame_written out body (omega (arith, c.requires.room))
