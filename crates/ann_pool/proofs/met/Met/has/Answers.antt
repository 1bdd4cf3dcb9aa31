use Rattle.std.proofs.Common.{◌≡◌, ◌+◌, ◌*◌, ◌/◌, ◌%◌, ℕ, List, length, true, subst, arith, sym, ◌∙◌, eqb-true}
use Rattle.ann_types.specs.Order.{has}
use Rattle.ann_pool.specs.Places.{numbers_in}
use Rattle.ann_pool.proofs.PlacesLemmas.{has_at, noted_tag, noted_number}
use Rattle.ann_pool.proofs.met.Met.has.Goals as goal

pub returns : goal.returns
returns c = λ same.
    let tag : ℕ = c.self.inside.tag in
    let noted : ℕ = tag * 1048576 + c.args.number / 4096 in
    let places : length c.self.inside.places.items ≡ 4096 = c.self.invariant.0 in
    subst (λ (met : List ℕ). has met c.args.number ≡ true) c.self.view_is
    (subst (λ (n : ℕ). has (numbers_in tag c.self.inside.places.items) n ≡ true) (noted_number tag c.args.number (omega arith))
    (has_at tag 0 (c.args.number % 4096) noted c.index.result.now c.self.inside.places.items (omega arith)
    (sym c.index.ensures ∙ eqb-true c.index.result.now noted same) (noted_tag tag c.args.number (omega arith))))
