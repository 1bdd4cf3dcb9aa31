use Rattle.std.proofs.Common.{sym, ap, arith, vec_len, vec_capacity}
use Rattle.ann_table.specs.Node.{Node}
use Rattle.ann_table.proofs.Tables.{seen_row, seen_at}
use Rattle.ann_table.proofs.table.Table.tag.Goals as goal

pub index-requires : goal.index-requires
index-requires c =
    let row = seen_row c.self.inside.params c.self.inside.spare c.self.inside.labels.items c.self.inside.vectors c.self.inside.links c.args.self.now c.self.view_is (vec_len c.self.inside.labels) (vec_capacity c.self.inside.labels) c.self.inside.labels.ok.0 c.self.invariant.0 c.args.row c.requires in
    let size = c.self.inside.labels.ok.0 in omega arith

pub returns : goal.returns
returns c = sym (ap (λ (x : Node). x.tag) (seen_at c.self.inside.params c.self.inside.spare c.self.inside.labels.items c.self.inside.vectors c.self.inside.links c.args.self.now c.self.view_is (vec_len c.self.inside.labels) (vec_capacity c.self.inside.labels) c.self.inside.labels.ok.0 c.self.invariant.0 c.args.row c.index.result.now c.requires c.index.ensures))
