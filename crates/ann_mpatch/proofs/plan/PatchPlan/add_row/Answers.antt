use Rattle.std.proofs.Common.{◌≤◌, refl, arith, length}
use Rattle.ann_mdelete.specs.declared.refused.WorkRefused.TheVariants.{Memory}
use Rattle.ann_mpatch.proofs.Courses.{patched_as, patched_new, stopped_at_once}
use Rattle.ann_mpatch.proofs.plan.PatchPlan.add_row.Goals as goal

pub returns-in_err-list : goal.returns-in_err-list
returns-in_err-list g c =
    patched_as g.S.Sealed.tells g.S.Sealed.bytes c.args.self.now c.args.row 1 _ _ c.from_residual.result Memory c.from_residual.ensures.1
    (stopped_at_once g.S.Sealed.tells g.S.Sealed.bytes c.args.self.now _ _ _ refl refl)

pub returns-in_err-add_new : goal.returns-in_err-add_new
returns-in_err-add_new g c =
    patched_as g.S.Sealed.tells g.S.Sealed.bytes c.args.self.now c.args.row 1 _ _ c.from_residual-in_err-add_new.result Memory c.from_residual-in_err-add_new.ensures.1
    (stopped_at_once g.S.Sealed.tells g.S.Sealed.bytes c.args.self.now _ _ _ refl refl)

pub returns : goal.returns
returns g c =
    let past : length c.args.self.now.survivors.items ≤ c.args.row = (let later = c.if-row-len.false in let count = c.len.ensures in let size = c.args.self.now.survivors.ok.0 in omega arith) in
    record {
      patched = patched_new g.S.Sealed.tells g.S.Sealed.bytes c.args.self.now c.args.row _ _ past c.in_ok-add_new.ensures.added c.in_ok-add_new.ensures.long refl refl;
      refused = tt;
    }
