use Rattle.std.proofs.Common.{refl, arith, vec_len, vec_capacity}
use Rattle.ann_table.proofs.Tables.{seen_spare, seen_count, few_below, add_is, sound_added, stored_add}
use Rattle.ann_table.proofs.table.Table.add.Goals as goal

pub push-requires-clause-few : goal.push-requires-clause-few
push-requires-clause-few c =
    let few = few_below c.self.inside.params c.self.inside.spare c.self.inside.labels.items c.self.inside.vectors c.self.inside.links c.args.self.now c.self.view_is (vec_len c.self.inside.labels) (vec_capacity c.self.inside.labels) c.self.inside.labels.ok.0 c.self.invariant.0 c.self.invariant.1 c.args.pid c.requires.pid in
    let count = seen_count c.self.inside.params c.self.inside.spare c.self.inside.labels.items c.self.inside.vectors c.self.inside.links c.args.self.now c.self.view_is (vec_len c.self.inside.labels) (vec_capacity c.self.inside.labels) c.self.inside.labels.ok.0 c.self.invariant.0 in
    let size = c.self.inside.labels.ok.0 in
    let vectors = c.self.invariant.0.vectors in
    let small = c.requires.small in omega arith

pub returns-clause-nodes : goal.returns-clause-nodes
returns-clause-nodes c = add_is c.self.inside.params c.self.inside.spare c.self.inside.labels.items c.self.inside.vectors c.self.inside.links c.args.self.now c.self.view_is (vec_len c.self.inside.labels) (vec_capacity c.self.inside.labels) c.self.inside.labels.ok.0 c.self.invariant.0 _ _ _ (record { tag = c.args.tag; pid = c.args.pid; newer = 0 }) c.args.vector.now c.args.neighbours.now c.push_within.ensures.items c.push.ensures.lists c.push-2.ensures.lists

pub invariant_of-self : goal.invariant_of-self
invariant_of-self c =
    let spare = seen_spare c.self.inside.params c.self.inside.spare c.self.inside.labels.items c.self.inside.vectors c.self.inside.links c.args.self.now c.self.view_is in
    let some = c.requires.room in (
      stored_add c.self.inside.params c.self.inside.spare (vec_len c.self.inside.labels) (vec_capacity c.self.inside.labels) c.self.inside.vectors c.self.inside.links _ _ c.push.new.self c.push-2.new.self c.args.vector.now c.args.neighbours.now c.self.invariant.0 (omega arith) c.push_within.ensures.length c.push_within.ensures.room c.push.ensures.places c.push.ensures.lists c.push.ensures.spare c.push-2.ensures.places c.push-2.ensures.lists c.push-2.ensures.spare,
      sound_added c.self.inside.params c.self.inside.spare c.self.inside.labels.items c.self.inside.vectors c.self.inside.links c.args.self.now c.self.view_is (vec_len c.self.inside.labels) (vec_capacity c.self.inside.labels) c.self.inside.labels.ok.0 c.self.invariant.0 c.self.invariant.1 _ (record { pid = c.args.pid; tag = c.args.tag; vector = c.args.vector.now; links = c.args.neighbours.now; newer = 0 }) (returns-clause-nodes c) c.requires.pid c.requires.small c.requires.vector c.requires.neighbours refl,
    )
