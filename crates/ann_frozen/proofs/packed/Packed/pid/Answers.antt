use Rattle.std.proofs.Common.{sym, ap, arith}
use Rattle.ann_table.specs.Node.{Node}
use Rattle.ann_frozen.proofs.Rows.{seen_row, seen_at}
use Rattle.ann_frozen.proofs.packed.Packed.pid.Goals as goal

pub index-requires : goal.index-requires
index-requires c =
    let row = seen_row c.self.inside.width c.self.inside.labels.items c.self.inside.bytes.items c.self.inside.numbers.items c.args.self.now c.self.view_is c.args.row c.requires in
    let size = c.self.inside.labels.ok.0 in omega arith

pub returns : goal.returns
returns c = sym (ap (λ (x : Node). x.pid) (seen_at c.self.inside.width c.self.inside.labels.items c.self.inside.bytes.items c.self.inside.numbers.items c.args.self.now c.self.view_is c.args.row c.index.result.now c.requires c.index.ensures))
