use Rattle.std.proofs.Common.{◌∙◌, ◌+◌, sym, subst}
use Rattle.ann_dead.specs.Pids.{IsAscending}
use Rattle.ann_dead.proofs.Sets.{ascending_with}
use Rattle.ann_dead.proofs.Removals.{Members, members_kept, members_skipped}
use Rattle.ann_dead.proofs.dead.Dead.add_all_but.Goals as goal
use Rattle.ann_dead.proofs.dead.Dead.add_all_but.Goals.{then-not-contains+in_ok-add, else-not-contains}

pub loop-pid-preserved : goal.loop-pid-preserved
loop-pid-preserved c =
    let xs = c.pids-pid-items.result.now in
    let k = c.loop-pid.pid-index in
    let was = c.loop-pid.invariant in
    elim c.if-not-contains.branch [
      | then-not-contains+in_ok-add w ↦
          let is = w.self-is ∙ w.in_ok-add.ensures.added in record {
            up = subst IsAscending (sym is) (ascending_with _ c.loop-pid.self was.up);
            members = members_kept c.args.self.now xs k c.args.of.now c.loop-pid.self c.if-not-contains.self c.loop-pid-test.true (sym c.contains.ensures ∙ w.if-not-contains.true) is was.members;
          }
      | else-not-contains w ↦ record {
        up = subst IsAscending (sym w.self-is) was.up;
        members = subst (Members c.args.self.now xs (k + 1) c.args.of.now) (sym w.self-is) (members_skipped c.args.self.now xs k c.args.of.now c.loop-pid.self c.loop-pid-test.true (sym c.contains.ensures ∙ w.if-not-contains.false) was.members);
      }
    ]
