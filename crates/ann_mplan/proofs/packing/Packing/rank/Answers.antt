use Rattle.ann_mplan.specs.Packing.{rank_in}
use Rattle.std.proofs.Common.{◌≡◌, ◌<◌, ℕ, List, true, sym, subst, ap, ◌∙◌, arith, get_or, length}
use Rattle.std.proofs.lemmas.List.{get_or_read}
use Rattle.ann_types.specs.Order.{has}
use Rattle.ann_mplan.proofs.Ranked.{rank_is}
use Rattle.ann_mplan.proofs.packing.Packing.rank.Goals as goal

pub index-requires : goal.index-requires
index-requires c =
    let there : has c.self.inside.survivors.items c.args.row ≡ true = ap (λ t. has t c.args.row) c.self.view_is ∙ c.requires in
    let is = rank_is c.self.inside.survivors.items c.self.inside.ranks.items c.args.row c.self.invariant there in
    let within = is.0 in
    let size = c.self.inside.ranks.ok.0 in omega arith

pub returns : goal.returns
returns c =
    let there : has c.self.inside.survivors.items c.args.row ≡ true = ap (λ t. has t c.args.row) c.self.view_is ∙ c.requires in
    let is = rank_is c.self.inside.survivors.items c.self.inside.ranks.items c.args.row c.self.invariant there in
    get_or_read c.self.inside.ranks.items c.args.row c.index.result.now is.0 c.index.ensures 0 ∙ is.1
    ∙ ap (λ (t : List ℕ). rank_in t c.args.row) c.self.view_is
