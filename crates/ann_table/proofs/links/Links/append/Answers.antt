use Rattle.std.proofs.Common.{◌+◌, ◌*◌, ap, ◌∙◌, arith, set, length-set}
use Rattle.ann_table.specs.Lists.{lists_in}
use Rattle.ann_table.proofs.Listed.{seen_row, append_is, append_fits, append_few, places_set}
use Rattle.ann_table.proofs.links.Links.append.Goals as goal

pub index-count-requires : goal.index-count-requires
index-count-requires c =
    let row = seen_row _ _ _ _ c.args.self.now c.self.view_is c.args.row c.requires.row in
    let size = c.self.inside.counts.ok.0 in omega arith

pub index_mut-requires : goal.index_mut-requires
index_mut-requires c =
    let fits = append_fits _ _ _ _ c.args.self.now c.self.view_is c.self.invariant.used c.self.invariant.whole c.args.row c.from.result c.from-2.result c.index-count.result.now c.requires.row c.from.ensures (c.from-2.ensures ∙ c.index-count.ensures) c.requires.few in
    let size = c.self.inside.numbers.ok.0 in omega arith

pub overflow_add-count : goal.overflow_add-count
overflow_add-count c =
    let few = append_few _ _ _ _ c.args.self.now c.self.view_is c.self.invariant.used c.self.invariant.whole c.args.row c.index-count.result.now c.index-count.result.now c.requires.row c.index-count.ensures c.requires.few in
    let most = c.self.invariant.few in omega arith

pub index_mut-requires-2 : goal.index_mut-requires-2
index_mut-requires-2 c =
    let row = seen_row _ _ _ _ c.args.self.now c.self.view_is c.args.row c.requires.row in
    let size = c.self.inside.counts.ok.0 in omega arith

pub invariant_of-self : goal.invariant_of-self
invariant_of-self c =
    let few = append_few _ _ _ _ c.args.self.now c.self.view_is c.self.invariant.used c.self.invariant.whole c.args.row c.index-count.result.now c.index-count.result.now c.requires.row c.index-count.ensures c.requires.few in
    places_set _ _ c.self.inside.counts.items c.self.inside.numbers.items _ _ _ c.args.row (c.index-count.result.now + 1) c.self.invariant (length-set c.self.inside.numbers.items (c.args.row * c.from.result + c.from-2.result) c.args.number) (omega arith)

pub returns-clause-lists : goal.returns-clause-lists
returns-clause-lists c =
    ap (λ n. lists_in c.self.inside.places (set c.self.inside.counts.items c.args.row (c.index-count.result.now + 1)) (set c.self.inside.numbers.items (c.args.row * c.from.result + n) c.args.number)) c.from-2.ensures
    ∙ append_is _ _ _ _ c.args.self.now c.self.view_is c.self.invariant.used c.self.invariant.whole c.args.row c.from.result c.index-count.result.now c.index-count.result.now c.args.number c.requires.row c.from.ensures c.index-count.ensures c.requires.few
