use Rattle.std.proofs.Common.{◌≡◌, ◌≤◌, ℕ, List, length, get_or, replicate, arith, ap, ◌∙◌, subst, sym}
use Rattle.std.proofs.lemmas.List.{length-replicate}
use Rattle.ann_pq.proofs.Pushes.{zeros_small}
use Rattle.ann_pq.proofs.tables.Tables.with_room.Goals as goal

empty : (parts n most : ℕ) (numbers : List ℕ) → numbers ≡ replicate n 0 → parts ≤ 64 → (parts ≤ 64) × (length numbers ≡ n) × ((place : ℕ) → get_or numbers place 0 ≤ most)
empty parts n most numbers is few = (few, ap length is ∙ length-replicate n 0, λ place. subst (λ (xs : List ℕ). get_or xs place 0 ≤ most) (sym is) (zeros_small most n place))

pub invariant_of-result : goal.invariant_of-result
invariant_of-result c = empty 0 16384 66585600 _ (c.in_ok-vec.ensures.items_if_clones_equal (λ y e. e)) (omega arith)
