use Rattle.std.proofs.Common.{◌≡◌}
use Rattle.ann_mdelete.specs.Loaded.{IsPiece}
use Rattle.ann_mdelete.proofs.loaded.Loaded.load_rows.Given as goal

-- the rows so far are loaded from the page
abbrev pub invariant-loop-at : goal.invariant-loop-at
invariant-loop-at g l = record {
  page : l.self.page ≡ l.fn.self.page;
  rows : IsPiece l.segment l.params l.first l.at l.self;
}
