use Rattle.std.proofs.Common.{◌≡◌, ap, ◌∙◌, arith, length, vec_len, vec_capacity}
use Rattle.ann_table.specs.Node.{linked}
use Rattle.ann_table.proofs.Tables.{seen_row, seen_links_row, seen_count, few_seen, link_is, sound_linked, stored_set}
use Rattle.ann_table.proofs.table.Table.set_kept.Goals as goal

pub overflow_cast-count : goal.overflow_cast-count
overflow_cast-count c =
    let few = few_seen c.self.inside.params c.self.inside.spare c.self.inside.labels.items c.self.inside.vectors c.self.inside.links c.args.self.now c.self.view_is (vec_len c.self.inside.labels) (vec_capacity c.self.inside.labels) c.self.inside.labels.ok.0 c.self.invariant.0 c.self.invariant.1 in
    let count = seen_count c.self.inside.params c.self.inside.spare c.self.inside.labels.items c.self.inside.vectors c.self.inside.links c.args.self.now c.self.view_is (vec_len c.self.inside.labels) (vec_capacity c.self.inside.labels) c.self.inside.labels.ok.0 c.self.invariant.0 in
    let size = c.self.inside.labels.ok.0 in
    let is = c.len-count.ensures in omega arith

pub set-requires-clause-row : goal.set-requires-clause-row
set-requires-clause-row c = seen_links_row c.self.inside.params c.self.inside.spare c.self.inside.labels.items c.self.inside.vectors c.self.inside.links c.args.self.now c.self.view_is (vec_len c.self.inside.labels) (vec_capacity c.self.inside.labels) c.self.inside.labels.ok.0 c.self.invariant.0 c.args.row c.requires.row

pub index_mut-requires : goal.index_mut-requires
index_mut-requires c =
    let row = seen_row c.self.inside.params c.self.inside.spare c.self.inside.labels.items c.self.inside.vectors c.self.inside.links c.args.self.now c.self.view_is (vec_len c.self.inside.labels) (vec_capacity c.self.inside.labels) c.self.inside.labels.ok.0 c.self.invariant.0 c.args.row c.requires.row in
    let size = c.self.inside.labels.ok.0 in omega arith

pub returns-clause-nodes : goal.returns-clause-nodes
returns-clause-nodes c =
    let count : c.len-count.result ≡ length c.args.self.now.nodes = c.len-count.ensures ∙ c.self.inside.labels.ok.0 ∙ seen_count c.self.inside.params c.self.inside.spare c.self.inside.labels.items c.self.inside.vectors c.self.inside.links c.args.self.now c.self.view_is (vec_len c.self.inside.labels) (vec_capacity c.self.inside.labels) c.self.inside.labels.ok.0 c.self.invariant.0 in
    link_is c.self.inside.params c.self.inside.spare c.self.inside.labels.items c.self.inside.vectors c.self.inside.links c.args.self.now c.self.view_is (vec_len c.self.inside.labels) (vec_capacity c.self.inside.labels) c.self.inside.labels.ok.0 c.self.invariant.0 c.set.new.self.lists c.args.row c.index_mut.result.now c.args.neighbours.now c.len-count.result c.requires.row c.index_mut.ensures.value c.set.ensures.lists
    ∙ ap (linked c.args.self.now.nodes c.args.row c.args.neighbours.now) count

pub invariant_of-self : goal.invariant_of-self
invariant_of-self c = (
  stored_set _ _ _ _ c.self.inside.vectors c.self.inside.links c.set.new.self c.args.row c.args.neighbours.now c.self.invariant.0 c.set.ensures.places c.set.ensures.lists c.set.ensures.spare,
  sound_linked c.self.inside.params c.self.inside.spare c.self.inside.labels.items c.self.inside.vectors c.self.inside.links c.args.self.now c.self.view_is (vec_len c.self.inside.labels) (vec_capacity c.self.inside.labels) c.self.inside.labels.ok.0 c.self.invariant.0 c.self.invariant.1 _ c.args.row c.args.neighbours.now (length c.args.self.now.nodes) (returns-clause-nodes c) c.requires.row c.requires.neighbours c.requires.settled (omega arith),
)
