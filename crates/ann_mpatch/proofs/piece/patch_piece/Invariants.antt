use Rattle.std.proofs.Common.{[]}
use Rattle.ann_mpatch.specs.Patched.{HasPatched, standing}
use Rattle.ann_mpatch.proofs.piece.patch_piece.Given as goal

-- the blocks of the rows so far were added
abbrev pub invariant-loop-i : goal.invariant-loop-i
invariant-loop-i g l = HasPatched g.S.Sealed.tells g.S.Sealed.bytes l.plan l.first l.i (standing [] (g.E.Eye.reads l.fn.eye) (g.E.Eye.faults l.fn.eye)) (standing l.blocks-inside.bytes.items (g.E.Eye.reads l.eye) (g.E.Eye.faults l.eye))
