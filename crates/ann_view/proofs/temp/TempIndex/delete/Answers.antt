use Rattle.std.proofs.Common.{sym, subst}
use Rattle.ann_dead.specs.Pids.{IsAscending}
use Rattle.ann_dead.proofs.Sets.{ascending_with}
use Rattle.ann_view.proofs.Inserts.{deleted_is}
use Rattle.ann_view.proofs.temp.TempIndex.delete.Goals as goal

pub invariant_of-self-2 : goal.invariant_of-self-2
invariant_of-self-2 c = record {
  table = c.self.invariant.table;
  graphs = c.self.invariant.graphs;
  few = c.self.invariant.few;
  once = subst IsAscending (sym c.in_ok-add.ensures.added) (ascending_with c.args.pid c.self.inside.dead c.self.invariant.once);
  merge = c.self.invariant.merge;
}

pub returns-clause-deleted : goal.returns-clause-deleted
returns-clause-deleted c =
    deleted_is c.args.self.now c.self.inside.params c.self.inside.rw c.self.inside.ros c.self.inside.dead c.self.inside.begun c.self.view_is c.add.new.self c.args.pid c.in_ok-add.ensures.added c.self.invariant.once
