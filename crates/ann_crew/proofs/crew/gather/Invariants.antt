use Rattle.std.proofs.Common.{◌≡◌, ◌≤◌, ◌+◌, ◌++◌, ℕ, List, reverse, vec_len, vec_capacity}
use Rattle.ann_crew.specs.Crew.{AreGathered}
use Rattle.ann_crew.specs.declared.member.Drawn.{Drawn}
use Rattle.ann_crew.proofs.crew.gather.Given as goal

-- what was taken so far is joined
abbrev pub invariant-loop-one : goal.invariant-loop-one
invariant-loop-one g l = record {
  taken : List (Drawn g.row.P.Denot);
  all : taken ++ reverse l.drawn.items ≡ reverse l.fn.drawn.items;
  gathered : AreGathered taken l.claimers.items l.results.items;
  room : vec_len l.claimers + vec_len l.drawn ≤ vec_capacity l.claimers;
}

abbrev pub decreases-loop-one : goal.decreases-loop-one
decreases-loop-one g l = vec_len l.drawn
