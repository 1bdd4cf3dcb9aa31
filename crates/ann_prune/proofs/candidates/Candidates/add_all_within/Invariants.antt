use Rattle.std.proofs.Common.{◌≡◌, ◌≤◌, ◌+◌, ◌++◌, take}
use Rattle.ann_prune.proofs.candidates.Candidates.add_all_within.Given as goal

-- the rows so far are added
abbrev pub invariant-loop-row : goal.invariant-loop-row
invariant-loop-row l = record {
  rows : l.self.rows ≡ l.fn.self.rows ++ take l.row-index l.rows;
  room : l.fn.self.room ≤ l.self.room + l.row-index;
}
