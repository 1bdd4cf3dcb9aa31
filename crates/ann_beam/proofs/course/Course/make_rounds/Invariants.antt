use Rattle.std.proofs.Common.{◌-◌, length}
use Rattle.ann_beam.specs.Course.{sight_of}
use Rattle.ann_beam.specs.Desk.{IsReady, Keeps, progress, standing}
use Rattle.ann_beam.specs.Refusals.{HasRead}
use Rattle.ann_beam.proofs.Rounding.{IsUnderWay}
use Rattle.ann_beam.proofs.course.Course.make_rounds.Given as goal

-- the rounds so far were made, and so many may follow
abbrev pub invariant-loop-turn : goal.invariant-loop-turn
invariant-loop-turn g l = record {
  ready : IsReady l.self.segment.now l.desk;
  kept : Keeps l.fn.desk l.desk;
  read : HasRead (standing l.fn.desk (g.E.Eye.reads l.fn.eye) (g.E.Eye.faults l.fn.eye)) (standing l.desk (g.E.Eye.reads l.eye) (g.E.Eye.faults l.eye));
  under_way : g.S.Sealed.tells → IsUnderWay (sight_of l.self (g.D.Deleted.pids l.self.dead.now) g.S.Sealed.bytes l.fn.desk) l.entry l.fn.desk.guided.limit l.self.params.now.w (length l.self.segment.now.items) (l._turn-end - l._turn) (progress l.fn.desk (g.E.Eye.reads l.fn.eye) (g.E.Eye.faults l.fn.eye)) (progress l.desk (g.E.Eye.reads l.eye) (g.E.Eye.faults l.eye));
}
