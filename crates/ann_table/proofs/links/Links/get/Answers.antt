use Rattle.std.proofs.Common.{◌≤◌, ◌+◌, ◌*◌, ◌-◌, ap, ◌∙◌, arith, take, drop, length}
use Rattle.ann_table.proofs.Listed.{seen_row, get_ends, get_is}
use Rattle.ann_table.proofs.links.Links.get.Goals as goal

pub index-requires : goal.index-requires
index-requires c =
    let row = seen_row _ _ _ _ c.args.self.now c.self.view_is c.args.row c.requires in
    let size = c.self.inside.counts.ok.0 in omega arith

pub slice_bounds-result-end : goal.slice_bounds-result-end
slice_bounds-result-end c =
    let ends = get_ends _ _ _ _ c.args.self.now c.self.view_is c.self.invariant.used c.self.invariant.whole c.args.row c.from.result c.from-count.result c.index.result.now c.requires c.from.ensures (c.from-count.ensures ∙ c.index.ensures) in
    let size = c.self.inside.numbers.ok.0 in
    let same = c.deref.ensures.len in
    let goes : c.args.row * c.from.result + c.from-count.result ≤ length c.deref.result.now = omega arith in goes

pub returns-clause-list : goal.returns-clause-list
returns-clause-list c =
    ap (λ t. take (c.args.row * c.from.result + c.from-count.result - c.args.row * c.from.result) (drop (c.args.row * c.from.result) t)) c.deref.ensures.value
    ∙ get_is _ _ _ _ c.args.self.now c.self.view_is c.self.invariant.used c.self.invariant.whole c.args.row c.from.result c.from-count.result c.index.result.now c.requires c.from.ensures (c.from-count.ensures ∙ c.index.ensures)
