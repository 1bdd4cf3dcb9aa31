use Rattle.std.proofs.Common.{◌≤◌, ◌+◌, ◌-◌, ap, ◌∙◌, arith, take, drop, length}
use Rattle.ann_frozen.proofs.Rows.{seen_row, links_end, links_is}
use Rattle.ann_frozen.proofs.packed.Packed.neighbours.Goals as goal

pub index-label-requires : goal.index-label-requires
index-label-requires c =
    let row = seen_row c.self.inside.width c.self.inside.labels.items c.self.inside.bytes.items c.self.inside.numbers.items c.args.self.now c.self.view_is c.args.row c.requires in
    let size = c.self.inside.labels.ok.0 in omega arith

pub overflow_add-end : goal.overflow_add-end
overflow_add-end c =
    let ends = links_end c.self.inside.width c.self.inside.labels.items c.self.inside.bytes.items c.self.inside.numbers.items c.args.self.now c.self.view_is c.self.invariant c.args.row c.index-label.result.now c.requires c.index-label.ensures in
    let size = c.self.inside.numbers.ok.0 in
    let from = c.from.ensures in omega arith

pub offset_bounds-deref-label : goal.offset_bounds-deref-label
offset_bounds-deref-label c =
    let ends = links_end c.self.inside.width c.self.inside.labels.items c.self.inside.bytes.items c.self.inside.numbers.items c.args.self.now c.self.view_is c.self.invariant c.args.row c.index-label.result.now c.requires c.index-label.ensures in
    let size = c.self.inside.numbers.ok.0 in omega arith

pub slice_bounds-result-end : goal.slice_bounds-result-end
slice_bounds-result-end c =
    let ends = links_end c.self.inside.width c.self.inside.labels.items c.self.inside.bytes.items c.self.inside.numbers.items c.args.self.now c.self.view_is c.self.invariant c.args.row c.index-label.result.now c.requires c.index-label.ensures in
    let size = c.self.inside.numbers.ok.0 in
    let from = c.from.ensures in
    let same = c.deref.ensures.len in
    let goes : c.index-label.result.now.start + c.from.result ≤ length c.deref.result.now = omega arith in goes

pub returns : goal.returns
returns c =
    ap (λ t. take (c.index-label.result.now.start + c.from.result - c.index-label.result.now.start) (drop c.index-label.result.now.start t)) c.deref.ensures.value
    ∙ links_is c.self.inside.width c.self.inside.labels.items c.self.inside.bytes.items c.self.inside.numbers.items c.args.self.now c.self.view_is c.self.invariant c.args.row c.from.result c.index-label.result.now c.requires c.index-label.ensures c.from.ensures
