use Rattle.std.proofs.Common.{ap, arith, refl}
use Rattle.std.proofs.lemmas.Result.{err_from_is_err_and}
use Rattle.ann_entry.specs.Kinds.{kind_size}
use Rattle.ann_entry.proofs.Placed.{refused_short, refused_none, stands_once, stands_not_cut, whole_not_cut, size_whole, kind_cut}
use Rattle.ann_entry.proofs.reading.decode.Goals as goal

pub returns-in_err-kind-clause-short : goal.returns-in_err-kind-clause-short
returns-in_err-kind-clause-short c =
    let p = err_from_is_err_and c.from_residual.result c.from_residual.ensures.1 in
    rw (p.1, p.2) (refused_short c.args.d c.args.bytes.now c.args.at c.in_err-kind.field-0.0 c.in_err-kind.ensures)

pub returns-in_err-kind-clause-only : goal.returns-in_err-kind-clause-only
returns-in_err-kind-clause-only c entry stands =
    absurd (refused_none c.args.d c.args.bytes.now c.args.at c.in_err-kind.field-0.0 entry c.in_err-kind.ensures stands)

pub returns-then-bytes-at-clause-short : goal.returns-then-bytes-at-clause-short
returns-then-bytes-at-clause-short c =
    let kind = c.in_ok-kind.ensures in
    let same = ap (λ n. kind_size c.in_ok-kind.kind n) c.from.ensures in
    (λ _. kind_cut c.args.d c.args.bytes.now c.args.at (λ i. omega (arith, c.type_inv.bytes i)) c.in_ok-kind.kind kind.1 kind.0 (omega arith), λ _. refl)

pub returns-then-bytes-at-clause-only : goal.returns-then-bytes-at-clause-only
returns-then-bytes-at-clause-only c entry stands =
    let kind = c.in_ok-kind.ensures in
    let same = ap (λ n. kind_size c.in_ok-kind.kind n) c.from.ensures in
    absurd (stands_not_cut c.args.d c.args.bytes.now c.args.at entry stands (kind_cut c.args.d c.args.bytes.now c.args.at (λ i. omega (arith, c.type_inv.bytes i)) c.in_ok-kind.kind kind.1 kind.0 (omega arith)))

pub returns-in_err-entry-clause-short : goal.returns-in_err-entry-clause-short
returns-in_err-entry-clause-short c =
    let kind = c.in_ok-kind.ensures in
    let same = ap (λ n. kind_size c.in_ok-kind.kind n) c.from.ensures in
    let p = err_from_is_err_and c.from_residual-in_err-entry.result c.from_residual-in_err-entry.ensures.1 in
    rw (p.1, p.2) (λ same. absurd (cc), λ cut. absurd (whole_not_cut c.args.d c.args.bytes.now c.args.at (λ i. omega (arith, c.type_inv.bytes i)) c.in_ok-kind.kind kind.1 (omega arith) cut))

pub returns-clause-after : goal.returns-clause-after
returns-clause-after c =
    let kind = c.in_ok-kind.ensures in
    let same = ap (λ n. kind_size c.in_ok-kind.kind n) c.from.ensures in
    let size = size_whole c.args.d c.args.bytes.now c.args.at (λ i. omega (arith, c.type_inv.bytes i)) c.in_ok-kind.kind kind.1 c.in_ok-entry.entry c.in_ok-entry.ensures in
    omega arith

pub returns-clause-short : goal.returns-clause-short
returns-clause-short c =
    (λ same. absurd (cc), λ cut. absurd (stands_not_cut c.args.d c.args.bytes.now c.args.at c.in_ok-entry.entry c.in_ok-entry.ensures cut))

pub returns-clause-only : goal.returns-clause-only
returns-clause-only c entry stands = stands_once c.args.d c.args.bytes.now c.args.at c.in_ok-entry.entry entry c.in_ok-entry.ensures stands
