use Rattle.std.proofs.Common.{◌≡◌, length}
use Rattle.ann_recover.specs.Verified.{AreRight}
use Rattle.ann_recover.proofs.verify.verify_rows.Given as goal

-- the node blocks so far are right, and no read has failed
abbrev pub invariant-loop-row : goal.invariant-loop-row
invariant-loop-row g l = record {
  right : g.S.Sealed.tells → AreRight l.segment l.book l.params (g.S.Sealed.bytes l.segment.seal) l.row;
  calm : g.E.Eye.faults l.eye ≡ g.E.Eye.faults l.fn.eye;
  page : length l.page ≡ 4096;
}
