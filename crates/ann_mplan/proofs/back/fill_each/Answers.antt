use Rattle.std.proofs.Common.{◌≡◌, ◌+◌, ◌<◌, ◌≤◌, ℕ, List, [], sym, refl, subst, ◌∙◌, arith, length, get_or, ap}
use Rattle.std.specs.Prelude.{All}
use Rattle.std.proofs.lemmas.List.Elements.{All-get_or}
use Rattle.ann_types.proofs.Sets.{rises_from_increasing}
use Rattle.ann_mplan.proofs.Filled.{end_within, filled_list, filled_more}
use Rattle.ann_mplan.proofs.back.fill_each.Goals as goal

pub bounds-numbers-end : goal.bounds-numbers-end
bounds-numbers-end c =
    let links = c.args.links.now in
    let list : List ℕ = get_or links c.args.i [] in
    let same : c.get-row-items.result.now ≡ list = c.get-row-items.ensures in
    let row : ℕ = get_or c.get-row-items.result.now c.loop-row.row-index 0 in
    let at : row ≡ get_or list c.loop-row.row-index 0 = ap (λ t. get_or t c.loop-row.row-index 0) same in
    let here : c.loop-row.row-index < length list = subst (λ (t : List ℕ). c.loop-row.row-index < length t) same c.loop-row-test.true in
    let below = All-get_or (λ r. r < c.args.base_rows) list c.loop-row.row-index 0 here (c.requires.into.inside c.args.i c.requires.row) in
    end_within c.args.base_rows links c.args.i list refl c.requires.row (rises_from_increasing list (c.requires.into.rising c.args.i c.requires.row)) c.loop-row.row-index row here at
    c.loop-row.ends c.loop-row.numbers (omega arith) c.loop-row.invariant

pub offset_bounds-numbers-end : goal.offset_bounds-numbers-end
offset_bounds-numbers-end c = let within = bounds-numbers-end c in omega arith

pub overflow_add-ends : goal.overflow_add-ends
overflow_add-ends c = let within = bounds-numbers-end c in omega arith

pub loop-row-preserved : goal.loop-row-preserved
loop-row-preserved c =
    let links = c.args.links.now in
    let list : List ℕ = get_or links c.args.i [] in
    let same : c.get-row-items.result.now ≡ list = c.get-row-items.ensures in
    let row : ℕ = get_or c.get-row-items.result.now c.loop-row.row-index 0 in
    let at : row ≡ get_or list c.loop-row.row-index 0 = ap (λ t. get_or t c.loop-row.row-index 0) same in
    let here : c.loop-row.row-index < length list = subst (λ (t : List ℕ). c.loop-row.row-index < length t) same c.loop-row-test.true in
    let below = All-get_or (λ r. r < c.args.base_rows) list c.loop-row.row-index 0 here (c.requires.into.inside c.args.i c.requires.row) in
    filled_more c.args.base_rows links c.args.i list refl c.requires.row (rises_from_increasing list (c.requires.into.rising c.args.i c.requires.row)) c.loop-row.row-index row here at
    c.loop-row.ends c.loop-row.numbers (omega arith) c.loop-row.invariant

pub returns : goal.returns
returns c =
    let links = c.args.links.now in
    let list : List ℕ = get_or links c.args.i [] in
    let past : length list ≤ c.loop-row.row-index = subst (λ (t : List ℕ). length t ≤ c.loop-row.row-index) c.get-row-items.ensures c.loop-row-test.false in
    filled_list c.args.base_rows links c.args.i list refl c.requires.row c.loop-row.row-index c.loop-row.ends c.loop-row.numbers past c.loop-row.invariant
