use Rattle.std.proofs.Common.{◌≡◌, ◌+◌, ◌-◌, ◌≤◌, [], length, replicate, vec_capacity}
use Rattle.ann_claim.specs.Claims.{newcomer_of}
use Rattle.ann_claim.specs.Rule.{hand}
use Rattle.ann_claim.proofs.claims.deal.Given as goal

abbrev pub invariant-loop-made : goal.invariant-loop-made
invariant-loop-made l = let numbers = l.initial.first.me.0.numbers in
    (l.first.table_id ≡ l.initial.first.table_id)
    × (l.first.me ≡ (hand numbers l.seats [] 0 (l.seats - length l.claimers.items), []))
    × (l.claimers.items ≡ replicate (length l.claimers.items) (newcomer_of (record { table_id = l.initial.first.table_id; numbers = numbers; seats = l.seats })))
    × (length l.claimers.items + 1 ≡ l._made)
    × (l.seats ≤ vec_capacity l.claimers)
