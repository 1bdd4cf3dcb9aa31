use Rattle.std.proofs.Common.{◌≡◌, map, take}
use Rattle.ann_mplan.specs.Packing.{rank_in}
use Rattle.ann_mplan.proofs.packing.Packing.add_ranked.Given as goal

-- the rows so far have their ranks
abbrev pub invariant-loop-row : goal.invariant-loop-row
invariant-loop-row l = l.ranks.items ≡ map (rank_in l.self) (take l.row-index l.list)
