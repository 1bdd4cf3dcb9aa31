use Rattle.std.proofs.Common.{ap, ◌∙◌, ◌∷◌, arith, List, ℕ}
use Rattle.ann_bytes.specs.LittleEndian.{bytes_of, with_field}
use Rattle.ann_entry.specs.Kinds.{kind_byte}
use Rattle.ann_entry.proofs.Writes.{with_field_twice}
use Rattle.ann_entry.proofs.writing.put_named.Goals as goal

pub returns-clause-written : goal.returns-clause-written
returns-clause-written c =
    c.put_u64.ensures.written
    ∙ ap (λ (t : List ℕ). with_field t c.put_front-after.result (bytes_of 8 c.args.number)) c.put_front-after.ensures.written
    ∙ with_field_twice c.args.out.now c.args.at c.put_front-after.result (kind_byte c.args.kind ∷ bytes_of 4 c.args.by) (bytes_of 8 c.args.number) c.put_front-after.ensures.after (omega arith)
