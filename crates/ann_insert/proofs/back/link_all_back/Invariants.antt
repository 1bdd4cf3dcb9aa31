use Rattle.std.proofs.Common.{◌≡◌, ◌≤◌, ℕ, [], take}
use Rattle.ann_types.specs.Kept.{rule_of}
use Rattle.ann_insert.specs.Back.{AreApart, AreSameButLinks, AreLinkedBack, most}
use Rattle.ann_insert.proofs.back.link_all_back.Given as goal

-- the rows so far are linked back
abbrev pub invariant-loop-row : goal.invariant-loop-row
invariant-loop-row l = record {
  params : l.table.params ≡ l.fn.table.params;
  same : AreSameButLinks l.fn.table.nodes l.table.nodes;
  linked : (apart : ℕ → ℕ → ℕ) → AreApart apart l.fn.table.nodes → AreLinkedBack (rule_of l.fn.table.params) apart l.new (take l.row-index l.rows) l.fn.table.nodes l.table.nodes;
  empty : l.candidates.rows ≡ [];
  room : most ≤ l.candidates.room;
}
