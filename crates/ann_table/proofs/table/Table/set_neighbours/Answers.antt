use Rattle.std.proofs.Common.{arith, vec_len, vec_capacity}
use Rattle.ann_types.specs.Kept.{rule_of}
use Rattle.ann_table.specs.Node.{apart_rows}
use Rattle.ann_table.proofs.Tables.{seen_row, seen_links_row, link_is, sound_linked, stored_set}
use Rattle.ann_table.proofs.table.Table.set_neighbours.Goals as goal
use Rattle.ann_prune.proofs.Prunes.{settled_none}

pub set-requires-clause-row : goal.set-requires-clause-row
set-requires-clause-row c = seen_links_row c.self.inside.params c.self.inside.spare c.self.inside.labels.items c.self.inside.vectors c.self.inside.links c.args.self.now c.self.view_is (vec_len c.self.inside.labels) (vec_capacity c.self.inside.labels) c.self.inside.labels.ok.0 c.self.invariant.0 c.args.row c.requires.row

pub index_mut-requires : goal.index_mut-requires
index_mut-requires c =
    let row = seen_row c.self.inside.params c.self.inside.spare c.self.inside.labels.items c.self.inside.vectors c.self.inside.links c.args.self.now c.self.view_is (vec_len c.self.inside.labels) (vec_capacity c.self.inside.labels) c.self.inside.labels.ok.0 c.self.invariant.0 c.args.row c.requires.row in
    let size = c.self.inside.labels.ok.0 in omega arith

pub returns-clause-nodes : goal.returns-clause-nodes
returns-clause-nodes c = link_is c.self.inside.params c.self.inside.spare c.self.inside.labels.items c.self.inside.vectors c.self.inside.links c.args.self.now c.self.view_is (vec_len c.self.inside.labels) (vec_capacity c.self.inside.labels) c.self.inside.labels.ok.0 c.self.invariant.0 c.set.new.self.lists c.args.row c.index_mut.result.now c.args.neighbours.now 0 c.requires.row c.index_mut.ensures.value c.set.ensures.lists

pub invariant_of-self : goal.invariant_of-self
invariant_of-self c = (
  stored_set _ _ _ _ c.self.inside.vectors c.self.inside.links c.set.new.self c.args.row c.args.neighbours.now c.self.invariant.0 c.set.ensures.places c.set.ensures.lists c.set.ensures.spare,
  sound_linked c.self.inside.params c.self.inside.spare c.self.inside.labels.items c.self.inside.vectors c.self.inside.links c.args.self.now c.self.view_is (vec_len c.self.inside.labels) (vec_capacity c.self.inside.labels) c.self.inside.labels.ok.0 c.self.invariant.0 c.self.invariant.1 _ c.args.row c.args.neighbours.now 0 (returns-clause-nodes c) c.requires.row c.requires.neighbours (settled_none (rule_of c.args.self.now.params) (apart_rows c.args.self.now.nodes) c.args.row c.args.neighbours.now) (omega arith),
)
