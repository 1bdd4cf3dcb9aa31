use Rattle.std.proofs.Common.{◌≡◌, ◌<◌, ℕ, length, get_or}
use Rattle.ann_mplan.specs.Back.{linking}
use Rattle.ann_mplan.proofs.back.sizes.Given as goal

-- the lists so far are counted
abbrev pub invariant-loop-i : goal.invariant-loop-i
invariant-loop-i l = record {
  rows : length l.sizes.items ≡ l.base_rows;
  counted : (row : ℕ) → row < l.base_rows → get_or l.sizes.items row 0 ≡ length (linking l.base_rows l.links l.i row);
}
