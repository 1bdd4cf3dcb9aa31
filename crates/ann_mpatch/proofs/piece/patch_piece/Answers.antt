use Rattle.std.proofs.Common.{◌≡◌, ◌<◌, ℕ, List, [], refl, sym, subst, arith}
use Rattle.ann_mpatch.specs.Patched.{HasPatched, standing}
use Rattle.ann_mpatch.specs.Plan.{piece_size}
use Rattle.ann_mpatch.proofs.Courses.{patched_as, patched_none, patched_then, refused_then}
use Rattle.ann_mpatch.proofs.Merged.{pieces_merged}
use Rattle.ann_mpatch.proofs.piece.patch_piece.Goals as goal

pub loop-i-init : goal.loop-i-init
loop-i-init g c =
    subst (λ (t : List ℕ). HasPatched g.S.Sealed.tells g.S.Sealed.bytes c.args.plan.now c.args.first 0 (standing [] (g.E.Eye.reads c.args.eye.now) (g.E.Eye.faults c.args.eye.now)) (standing t (g.E.Eye.reads c.args.eye.now) (g.E.Eye.faults c.args.eye.now)))
    (sym c.clear.ensures.items)
    (patched_none g.S.Sealed.tells g.S.Sealed.bytes c.args.plan.now c.args.first _)

pub loop-i-preserved : goal.loop-i-preserved
loop-i-preserved g c = patched_then g.S.Sealed.tells g.S.Sealed.bytes c.args.plan.now c.args.first c.loop-i.i _ _ _ c.loop-i.invariant c.in_ok-add_row.ensures.patched

pub returns-in_err-add_row-clause-patched : goal.returns-in_err-add_row-clause-patched
returns-in_err-add_row-clause-patched g c =
    let plan = c.args.plan.now in
    let within : c.loop-i.i < piece_size plan c.args.first = (let more = c.loop-i-test.true in let count = c.min-count.ensures in let all = c.len.ensures in omega arith) in
    patched_as g.S.Sealed.tells g.S.Sealed.bytes plan c.args.first (piece_size plan c.args.first) _ _ c.from_residual.result _ c.from_residual.ensures.1
    (refused_then g.S.Sealed.tells g.S.Sealed.bytes plan c.args.first c.loop-i.i (piece_size plan c.args.first) _ _ _ _ within c.loop-i.invariant c.in_err-add_row.ensures.refused)

pub returns-clause-patched : goal.returns-clause-patched
returns-clause-patched g c =
    let plan = c.args.plan.now in
    let whole : c.loop-i.i ≡ piece_size plan c.args.first = (let over = c.loop-i-test.false in let most = c.loop-i.auto.i-end in let count = c.min-count.ensures in let all = c.len.ensures in omega arith) in
    record {
      patched = subst (λ (n : ℕ). HasPatched g.S.Sealed.tells g.S.Sealed.bytes plan c.args.first n (standing [] (g.E.Eye.reads c.args.eye.now) (g.E.Eye.faults c.args.eye.now)) (standing c.loop-i.blocks-inside.bytes.items (g.E.Eye.reads c.loop-i.eye) (g.E.Eye.faults c.loop-i.eye))) whole c.loop-i.invariant;
      refused = tt;
    }

pub returns-clause-merged : goal.returns-clause-merged
returns-clause-merged g c tells =
    let plan = c.args.plan.now in
    pieces_merged g.S.Sealed.tells g.S.Sealed.bytes plan c.args.first _ _ tells c.requires.plan (returns-clause-patched g c).patched refl
