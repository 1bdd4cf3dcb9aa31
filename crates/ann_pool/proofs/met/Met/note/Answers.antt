use Rattle.std.proofs.Common.{◌≡◌, ◌⊎◌, ◌+◌, ◌*◌, ◌/◌, ◌%◌, ℕ, List, true, inl, inr, subst, arith, ◌∙◌}
use Rattle.ann_types.specs.Order.{has}
use Rattle.ann_pool.proofs.PlacesLemmas.{numbers_set, noted_number}
use Rattle.ann_pool.proofs.met.Met.note.Goals as goal

pub returns : goal.returns
returns c = λ z h.
    let tag : ℕ = c.self.inside.tag in
    let noted : ℕ = tag * 1048576 + c.args.number / 4096 in
    subst (λ (met : List ℕ). (has met z ≡ true) ⊎ (z ≡ c.args.number)) c.self.view_is
    (elim (numbers_set tag 0 (c.args.number % 4096) noted z c.self.inside.places.items h) [
      | inl m ↦ inl m
      | inr e ↦ inr (e ∙ noted_number tag c.args.number (omega arith))
    ])
