use Rattle.std.proofs.Common.{◌≡◌, ◌-◌, map, vec_capacity}
use Rattle.std.specs.Arc.{arc_value}
use Rattle.ann_stock.proofs.Clearing.{IsClearing}
use Rattle.ann_stock.proofs.clear.clear_retired.Given as goal

-- those that are still to come stand before those that stay
abbrev pub invariant-loop : goal.invariant-loop
invariant-loop g l = record {
  room : vec_capacity l.retired ≡ vec_capacity l.fn.retired;
  clearing : IsClearing g.V.Seal.Sealed.tells l.base (map arc_value l.fn.retired.items) (g.V.Vault.held l.fn.vault) (g.V.Vault.faults l.fn.vault) (map arc_value l.retired.items) (l.end - l.counter) (g.V.Vault.held l.vault) (g.V.Vault.faults l.vault) l.calm;
}
