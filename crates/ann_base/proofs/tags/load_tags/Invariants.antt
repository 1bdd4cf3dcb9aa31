use Rattle.std.proofs.Common.{◌≡◌, ◌*◌, min, length}
use Rattle.ann_base.specs.Tagged.{HasFirst}
use Rattle.ann_base.proofs.tags.load_tags.Given as goal

-- the nodes of the pieces so far are known, and no read has failed
abbrev pub invariant-loop-index : goal.invariant-loop-index
invariant-loop-index g l = record {
  nodes : HasFirst g.S.Sealed.tells g.S.Sealed.bytes l.segment l.params (min (256 * l.index) (length l.segment.items)) l.tags.pids;
  calm : g.E.Eye.faults l.eye ≡ g.E.Eye.faults l.fn.eye;
}
