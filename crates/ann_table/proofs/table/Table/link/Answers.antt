use Rattle.std.proofs.Common.{[], ◌∷◌, ◌++◌, ap, arith, length, vec_len, vec_capacity}
use Rattle.ann_types.specs.Kept.{rule_of}
use Rattle.ann_types.specs.declared.params.Params.{Params}
use Rattle.ann_table.specs.Node.{node_at, apart_rows}
use Rattle.ann_table.proofs.Settled.{settled_push}
use Rattle.ann_table.proofs.Tables.{seen_params, seen_links_row, seen_links, known_is, append_is, sound_linked, stored_set, neighbours_push}
use Rattle.ann_table.proofs.table.Table.link.Goals as goal

pub append-requires-clause-row : goal.append-requires-clause-row
append-requires-clause-row c = seen_links_row c.self.inside.params c.self.inside.spare c.self.inside.labels.items c.self.inside.vectors c.self.inside.links c.args.self.now c.self.view_is (vec_len c.self.inside.labels) (vec_capacity c.self.inside.labels) c.self.inside.labels.ok.0 c.self.invariant.0 c.args.row c.requires.row

pub append-requires-clause-few : goal.append-requires-clause-few
append-requires-clause-few c =
    let links = ap length (seen_links c.self.inside.params c.self.inside.spare c.self.inside.labels.items c.self.inside.vectors c.self.inside.links c.args.self.now c.self.view_is (vec_len c.self.inside.labels) (vec_capacity c.self.inside.labels) c.self.inside.labels.ok.0 c.self.invariant.0 c.args.row c.requires.row) in
    let most = ap (λ (p : Params). p.r) (seen_params c.self.inside.params c.self.inside.spare c.self.inside.labels.items c.self.inside.vectors c.self.inside.links c.args.self.now c.self.view_is) in
    let places = c.self.invariant.0.places in
    let few = c.requires.few in omega arith

pub returns-clause-nodes : goal.returns-clause-nodes
returns-clause-nodes c = append_is c.self.inside.params c.self.inside.spare c.self.inside.labels.items c.self.inside.vectors c.self.inside.links c.args.self.now c.self.view_is (vec_len c.self.inside.labels) (vec_capacity c.self.inside.labels) c.self.inside.labels.ok.0 c.self.invariant.0 c.append.new.self.lists c.args.row c.args.neighbour c.requires.row c.append.ensures.lists

pub invariant_of-self : goal.invariant_of-self
invariant_of-self c =
    let sound = (known_is c.self.inside.params c.self.inside.spare c.self.inside.labels.items c.self.inside.vectors c.self.inside.links c.args.self.now c.self.view_is (vec_len c.self.inside.labels) (vec_capacity c.self.inside.labels) c.self.inside.labels.ok.0 c.self.invariant.0 c.self.invariant.1).each c.args.row c.requires.row in
    let links = (node_at c.args.self.now.nodes c.args.row).links in
    let newer = (node_at c.args.self.now.nodes c.args.row).newer in (
      stored_set _ _ _ _ c.self.inside.vectors c.self.inside.links c.append.new.self c.args.row _ c.self.invariant.0 c.append.ensures.places c.append.ensures.lists c.append.ensures.spare,
      sound_linked c.self.inside.params c.self.inside.spare c.self.inside.labels.items c.self.inside.vectors c.self.inside.links c.args.self.now c.self.view_is (vec_len c.self.inside.labels) (vec_capacity c.self.inside.labels) c.self.inside.labels.ok.0 c.self.invariant.0 c.self.invariant.1 _ c.args.row (links ++ c.args.neighbour ∷ []) newer (returns-clause-nodes c) c.requires.row
          (neighbours_push c.args.self.now.params (length c.args.self.now.nodes) c.args.row c.args.neighbour links sound.links c.requires.inside c.requires.other c.requires.last.above c.requires.few)
          (settled_push (rule_of c.args.self.now.params) (apart_rows c.args.self.now.nodes) c.args.row newer links c.args.neighbour c.requires.last.newer sound.settled)
          sound.newer,
    )
