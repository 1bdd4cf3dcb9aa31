use Rattle.std.proofs.Common.{◌≡◌, ◌+◌, arith, sym, subst, refl, drop}
use Rattle.ann_bytes.specs.LittleEndian.{number_of, field}
use Rattle.ann_types.specs.declared.entry.Entry.{Entry}
use Rattle.ann_entry.specs.declared.kind.Kind.TheVariants as kinds
use Rattle.ann_entry.specs.Standing.{StandsAt}
use Rattle.ann_entry.proofs.Spelled.{spelled}
use Rattle.ann_entry.proofs.Placed.{spelled_by, stands_whole}
use Rattle.ann_entry.proofs.reading.entry_at.Goals as goal
use Rattle.ann_entry.proofs.reading.entry_at.Goals.{in-Insert+in_ok-vector_at-in-Insert, in-Delete, in-Begin, in-End, in-Replace+in_ok-vector_at-in-Replace}

pub returns : goal.returns
returns c =
    let is : c.match-kind.result ≡ spelled c.args.kind c.args.d (drop c.args.at c.args.bytes.now) = elim c.match-kind.branch [
      | in-Insert+in_ok-vector_at-in-Insert w ↦ spelled_by c.args.d c.args.bytes.now c.args.at c.match-kind.result c.args.kind kinds.Insert c.by_at-by.result w.number_at.result w.in_ok-vector_at-in-Insert.field-0 w.result-is w.in-Insert.is c.by_at-by.ensures w.number_at.ensures w.in_ok-vector_at-in-Insert.ensures
      | in-Delete w ↦ spelled_by c.args.d c.args.bytes.now c.args.at c.match-kind.result c.args.kind kinds.Delete c.by_at-by.result w.number_at-in-Delete.result (field c.args.bytes.now (c.args.at + 13) c.args.d) w.result-is w.in-Delete.is c.by_at-by.ensures w.number_at-in-Delete.ensures refl
      | in-Begin w ↦ spelled_by c.args.d c.args.bytes.now c.args.at c.match-kind.result c.args.kind kinds.Begin c.by_at-by.result (number_of (field c.args.bytes.now (c.args.at + 5) 8)) (field c.args.bytes.now (c.args.at + 13) c.args.d) w.result-is w.in-Begin.is c.by_at-by.ensures refl refl
      | in-End w ↦ spelled_by c.args.d c.args.bytes.now c.args.at c.match-kind.result c.args.kind kinds.End c.by_at-by.result w.number_at-in-End.result (field c.args.bytes.now (c.args.at + 13) c.args.d) w.result-is w.in-End.is c.by_at-by.ensures w.number_at-in-End.ensures refl
      | in-Replace+in_ok-vector_at-in-Replace w ↦ spelled_by c.args.d c.args.bytes.now c.args.at c.match-kind.result c.args.kind kinds.Replace c.by_at-by.result w.number_at-in-Replace.result w.in_ok-vector_at-in-Replace.field-0 w.result-is w.in-Replace.is c.by_at-by.ensures w.number_at-in-Replace.ensures w.in_ok-vector_at-in-Replace.ensures
    ] in
    subst (λ (entry : Entry). StandsAt c.args.d c.args.bytes.now c.args.at entry) (sym is)
    (stands_whole c.args.d c.args.bytes.now c.args.at (λ i. omega (arith, c.type_inv.bytes i)) c.args.kind c.requires.kind c.requires.whole)
