use Rattle.std.proofs.Common.{◌≡◌, ◌≢◌, ◌+◌, ◌-◌, ◌*◌, ◌/◌, ℕ, List, length, take, drop, refl, sym, ap, subst, ◌∙◌, arith}
use Rattle.std.specs.Prelude.{Any}
use Rattle.std.proofs.lemmas.Bool.{false≢true}
use Rattle.std.proofs.lemmas.List.{take_all, length-drop}
use Rattle.ann_segment.specs.Opening.{IsFirstRefused}
use Rattle.ann_segment.proofs.Rows.{are_rising}
use Rattle.ann_segment.proofs.Refusals.{first_at_fall, first_at_end, none_refused}
use Rattle.ann_segment.proofs.opening.refused_block.Goals as goal

-- what stands behind the rows
rest_is : (count' count m' m : ℕ) (directory : List ℕ) → count' ≡ count → m' ≡ m → take (length directory - count' * (4 + m')) (drop (count' * (4 + m')) directory) ≡ drop (count * (4 + m)) directory
rest_is count' count m' m directory many wide =
    take_all (length directory - count' * (4 + m')) (drop (count' * (4 + m')) directory) (omega (arith, length-drop (count' * (4 + m')) directory))
    ∙ ap (λ (n : ℕ). drop (n * (4 + m')) directory) many
    ∙ ap (λ (n : ℕ). drop (count * (4 + n)) directory) wide

pub returns-in-Some-clause-found : goal.returns-in-Some-clause-found
returns-in-Some-clause-found c =
    let is = c.in-Some.ensures in
    subst (λ (row : ℕ). IsFirstRefused c.args.m c.args.count c.args.directory.now (1 + row * (4 + c.from-size.result) / 4096)) (sym c.from.ensures)
    (subst (λ (m : ℕ). IsFirstRefused c.args.m c.args.count c.args.directory.now (1 + c.in-Some.row * (4 + m) / 4096)) (sym c.from-size.ensures)
    (first_at_fall c.args.m c.args.count c.in-Some.row c.args.directory.now is.below.0 is.below.1 is.falls is.first))

pub returns-then-has_other_than_zeros-clause-found : goal.returns-then-has_other_than_zeros-clause-found
returns-then-has_other_than_zeros-clause-found c =
    let rest = rest_is c.from-2.result c.args.count c.from-size.result c.args.m c.args.directory.now c.from-2.ensures c.from-size.ensures in
    subst (IsFirstRefused c.args.m c.args.count c.args.directory.now) (sym c.directory_blocks.ensures.value)
    (first_at_end c.args.m c.args.count c.args.directory.now (c.in_default.ensures.none refl) (subst (Any (λ byte. byte ≢ 0)) rest (c.if-has_other_than_zeros.ensures.0 refl)))

pub returns-clause-found : goal.returns-clause-found
returns-clause-found c =
    let rest = rest_is c.from-2.result c.args.count c.from-size.result c.args.m c.args.directory.now c.from-2.ensures c.from-size.ensures in
    none_refused c.args.m c.args.count c.args.directory.now (c.in_default.ensures.none refl) (λ other. false≢true (c.if-has_other_than_zeros.ensures.1 (subst (Any (λ byte. byte ≢ 0)) (sym rest) other)))

pub returns-clause-rising : goal.returns-clause-rising
returns-clause-rising c = λ _. are_rising c.args.m c.args.count c.args.directory.now (c.in_default.ensures.none refl)
