use Rattle.std.proofs.Common.{◌∙◌, sym, arith, replicate}
use Rattle.ann_table.proofs.Listed.{seen_places}
use Rattle.ann_table.proofs.Filled.{filled_count, filled_push}
use Rattle.ann_table.proofs.vectors.Vectors.push.Goals as goal

pub overflow_add-self : goal.overflow_add-self
overflow_add-self c =
    let count = filled_count c.self.inside.width c.self.inside.spare c.self.inside.count c.self.inside.bytes.items c.args.self.now c.self.view_is in
    let few = c.requires.few in omega arith

pub returns-clause-lists : goal.returns-clause-lists
returns-clause-lists c =
    let size = c.self.inside.bytes.ok.0 in
    let whole = c.self.invariant.0 in
    filled_push c.self.inside.width c.self.inside.spare c.self.inside.count c.self.inside.bytes.items c.args.self.now c.self.view_is (omega arith) _ c.args.vector.now c.extend_within.ensures.items (c.requires.width ∙ sym (seen_places c.self.inside.width c.self.inside.spare (replicate c.self.inside.count c.self.inside.width) c.self.inside.bytes.items c.args.self.now c.self.view_is))
