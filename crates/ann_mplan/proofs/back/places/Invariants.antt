use Rattle.std.proofs.Common.{◌≡◌, ◌≤◌, ◌<◌, ℕ, take, length, get_or}
use Rattle.std.specs.Prelude.{sum}
use Rattle.ann_mplan.proofs.back.places.Given as goal

-- the rows so far have their places, and those to come their sizes
abbrev pub invariant-loop-row : goal.invariant-loop-row
invariant-loop-row l = record {
  so_far : l.place ≡ sum (take l.row l.initial.sizes);
  placed : (row : ℕ) → row < l.row → get_or l.sizes row 0 ≡ sum (take row l.initial.sizes);
  to_come : (row : ℕ) → l.row ≤ row → get_or l.sizes row 0 ≡ get_or l.initial.sizes row 0;
}
