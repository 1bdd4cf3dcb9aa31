use Rattle.std.proofs.Common.{◌≡◌, ◌+◌, ◌++◌, List, ℕ, length, take}
use Rattle.ann_base.specs.Tagged.{HasTags}
use Rattle.ann_base.proofs.tags.add_tags.Given as goal

-- the tags so far are added, and there is room for the others
abbrev pub invariant-loop-i : goal.invariant-loop-i
invariant-loop-i g l = record {
  added : (before : List ℕ) → length before ≡ l.first → HasTags l.segment before l.fn.tags.pids → HasTags l.segment (before ++ take l.i l.piece.tags) l.tags.pids;
  room : l.tags.spare + l.i ≡ l.fn.tags.spare;
}
