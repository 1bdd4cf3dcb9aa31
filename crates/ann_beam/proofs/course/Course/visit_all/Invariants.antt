use Rattle.std.proofs.Common.{take}
use Rattle.ann_beam.specs.Course.{sight_of}
use Rattle.ann_beam.specs.Desk.{IsReady, Keeps, progress, standing}
use Rattle.ann_beam.specs.Progress.{HasSeen}
use Rattle.ann_beam.specs.Refusals.{HasRead}
use Rattle.ann_beam.proofs.course.Course.visit_all.Given as goal

-- the rows so far were visited
abbrev pub invariant-loop-row : goal.invariant-loop-row
invariant-loop-row g l = record {
  ready : IsReady l.self.segment.now l.desk;
  kept : Keeps l.fn.desk l.desk;
  read : HasRead (standing l.fn.desk (g.E.Eye.reads l.fn.eye) (g.E.Eye.faults l.fn.eye)) (standing l.desk (g.E.Eye.reads l.eye) (g.E.Eye.faults l.eye));
  seen : g.S.Sealed.tells → HasSeen (sight_of l.self (g.D.Deleted.pids l.self.dead.now) g.S.Sealed.bytes l.fn.desk) (take l.row-index l.rows) (progress l.fn.desk (g.E.Eye.reads l.fn.eye) (g.E.Eye.faults l.fn.eye)) (progress l.desk (g.E.Eye.reads l.eye) (g.E.Eye.faults l.eye));
}
