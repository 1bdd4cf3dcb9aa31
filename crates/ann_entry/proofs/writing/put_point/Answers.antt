use Rattle.std.proofs.Common.{ap, ◌∙◌, ◌∷◌, ◌++◌, arith, List, ℕ}
use Rattle.ann_bytes.specs.LittleEndian.{bytes_of, with_field}
use Rattle.ann_entry.specs.Kinds.{kind_byte}
use Rattle.ann_entry.proofs.Writes.{with_field_twice}
use Rattle.ann_entry.proofs.writing.put_point.Goals as goal

pub returns-clause-written : goal.returns-clause-written
returns-clause-written c =
    let same = c.bytes-components.ensures.components in
    c.put_bytes.ensures
    ∙ ap (λ (t : List ℕ). with_field t c.put_named-after.result c.bytes-components.result.now) c.put_named-after.ensures.written
    ∙ ap (λ (t : List ℕ). with_field (with_field c.args.out.now c.args.at (kind_byte c.args.kind ∷ bytes_of 4 c.args.by ++ bytes_of 8 c.args.tag)) c.put_named-after.result t) same
    ∙ with_field_twice c.args.out.now c.args.at c.put_named-after.result (kind_byte c.args.kind ∷ bytes_of 4 c.args.by ++ bytes_of 8 c.args.tag) c.args.vector.now c.put_named-after.ensures.after (omega arith)
