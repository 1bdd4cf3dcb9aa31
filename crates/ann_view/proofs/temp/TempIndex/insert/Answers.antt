use Rattle.std.proofs.Common.{◌<◌, sym, ◌∙◌, subst, arith}
use Rattle.std.specs.Prelude.{All}
use Rattle.ann_types.specs.Graph.{Point}
use Rattle.ann_view.specs.Temp.{Temp}
use Rattle.ann_view.proofs.Inserts.{above_nodes, room_left, inserted_open}
use Rattle.ann_view.proofs.temp.TempIndex.insert.Goals as goal

pub put-requires-clause-above : goal.put-requires-clause-above
put-requires-clause-above c =
    above_nodes c.self.inside.rw.nodes c.args.pid
    (subst (λ (t : Temp). All (λ (x : Point). x.pid < c.args.pid) t.state.rw.points) (sym c.self.view_is) c.requires.above)

pub invariant_of-self : goal.invariant_of-self
invariant_of-self c = record {
  table = c.put.ensures.params ∙ c.self.invariant.table;
  graphs = c.self.invariant.graphs;
  few = room_left c.self.inside.params c.self.inside.rw.params c.self.inside.rw.nodes c.put.new.table.nodes c.args.pid c.args.tag c.args.vector.now (let count = c.count.ensures in let less = c.if-count-self.true in omega (arith, count, less)) c.in_ok-put.ensures.put;
  once = c.self.invariant.once;
  merge = c.self.invariant.merge;
}

pub returns-in_ok-put-clause-inserted : goal.returns-in_ok-put-clause-inserted
returns-in_ok-put-clause-inserted c =
    inserted_open c.args.self.now c.self.inside.params c.self.inside.rw c.self.inside.ros c.self.inside.dead c.self.inside.begun c.self.view_is c.self.inside.rw.params c.put.new.table c.args.pid c.args.tag c.args.vector.now c.self.invariant.table (let count = c.count.ensures in let less = c.if-count-self.true in omega arith) c.in_ok-put.ensures.put
