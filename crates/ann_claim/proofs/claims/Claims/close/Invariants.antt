use Rattle.std.proofs.Common.{◌≡◌, ◌<◌, ◌++◌, ◌+◌, [], true, length, All}
use Rattle.ann_claim.specs.Claims.{all_drawn}
use Rattle.ann_claim.proofs.claims.Claims.close.Given as goal

abbrev pub invariant-loop-next : goal.invariant-loop-next
invariant-loop-next l =
    (l.seat.table_id ≡ l.self-inside.table.shared.table_id)
    × (l.seat.me.1 ≡ [])
    × (l.seat.me.0.numbers ≡ l.self-inside.numbers)
    × (l.seat.me.0.seats ≡ l.self-inside.table.shared.key.seats)
    × (l.seat.me.0.ended ≡ l.seat.me.0.shares)
    × (l.seat.me.0.shares + length l.rest.items ≡ l.self-inside.table.shared.key.seats)
    × (0 < l.seat.me.0.shares)
    × (all_drawn l.rest.items ++ l.seat.me.0.drawn ≡ all_drawn l.fn.claimers.items)
    × All (λ c. c.lot ≡ l.fn.self) l.rest.items
    × All (λ c. c.ended ≡ true) l.rest.items

abbrev pub decreases-loop-next : goal.decreases-loop-next
decreases-loop-next l = goal.left-loop-next l
