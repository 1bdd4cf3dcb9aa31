use Rattle.std.proofs.Common.{sym, ap, ◌∙◌, subst}
use Rattle.ann_dead.specs.Pids.{with_pid, IsAscending}
use Rattle.ann_dead.proofs.Sets.{ascending_with}
use Rattle.ann_view.proofs.Inserts.{replaced_is}
use Rattle.ann_view.proofs.temp.TempIndex.replace.Goals as goal

pub invariant_of-self : goal.invariant_of-self
invariant_of-self c = record {
  table = c.self-2.invariant.table;
  graphs = c.self-2.invariant.graphs;
  few = c.self-2.invariant.few;
  once = subst IsAscending (sym (c.in_ok-add.ensures.added ∙ ap (with_pid c.args.gone) c.in_ok-dead.ensures)) (ascending_with c.args.gone c.self.inside.dead c.self.invariant.once);
  merge = c.self-2.invariant.merge;
}

pub returns-clause-replaced : goal.returns-clause-replaced
returns-clause-replaced c =
    replaced_is c.args.self.now c.insert.new.self c.self.inside.params c.self-2.inside.params c.self.inside.rw c.self-2.inside.rw c.self.inside.ros c.self-2.inside.ros c.self.inside.dead c.self-2.inside.dead c.add.new.self c.self.inside.begun c.self-2.inside.begun c.args.gone c.args.pid c.args.tag c.args.vector.now
    c.self.view_is c.in_ok-insert.ensures.inserted c.self-2.view_is (c.in_ok-add.ensures.added ∙ ap (with_pid c.args.gone) c.in_ok-dead.ensures) c.self.invariant.once
