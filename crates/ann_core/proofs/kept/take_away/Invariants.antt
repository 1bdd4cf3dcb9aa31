use Rattle.std.proofs.Common.{◌≡◌, ◌-◌, ◌≤◌, false, take, length}
use Rattle.ann_core.specs.Kept.{texts_of, is_kept_in, without_text}
use Rattle.ann_core.proofs.kept.take_away.Given as goal

-- none of those so far has the number, and all others are there
abbrev pub invariant-loop-place : goal.invariant-loop-place
invariant-loop-place l = record {
  within : l.place ≤ length l.kept.items;
  front : is_kept_in (texts_of (take l.place l.kept.items)) l.number ≡ false;
  same : without_text (texts_of l.kept.items) l.number ≡ without_text (texts_of l.initial.kept.items) l.number;
}

abbrev pub decreases-loop-place : goal.decreases-loop-place
decreases-loop-place l = length l.kept.items - l.place
