use Rattle.std.proofs.Common.{◌≡◌, ◌*◌, ap, arith, length}
use Rattle.ann_table.proofs.Listed.{seen_row, seen_places, place_ends, set_is}
use Rattle.ann_table.proofs.links.Links.set.Goals as goal

pub write_at-requires : goal.write_at-requires
write_at-requires c =
    let row = seen_row _ _ _ _ c.args.self.now c.self.view_is c.args.row c.requires.row in
    let places = seen_places _ _ _ _ c.args.self.now c.self.view_is in
    let few = c.requires.few in
    let ends = place_ends c.args.row (length c.self.inside.counts.items) c.self.inside.places (length c.args.list.now) (length c.self.inside.numbers.items) row (omega arith) c.self.invariant.whole in
    let at : c.args.row * c.from.result ≡ c.args.row * c.self.inside.places = ap (λ n. c.args.row * n) c.from.ensures in
    let size = c.self.inside.numbers.ok.0 in omega arith

pub index_mut-requires : goal.index_mut-requires
index_mut-requires c =
    let row = seen_row _ _ _ _ c.args.self.now c.self.view_is c.args.row c.requires.row in
    let size = c.self.inside.counts.ok.0 in omega arith

pub returns-clause-lists : goal.returns-clause-lists
returns-clause-lists c = set_is _ _ _ _ c.args.self.now c.self.view_is c.self.invariant.used c.self.invariant.whole _ c.args.row c.from.result c.args.list.now c.requires.row c.from.ensures c.requires.few c.write_at.ensures.numbers
