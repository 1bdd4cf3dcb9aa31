use Rattle.std.proofs.Common.{◌≡◌, ◌<◌, ◌+◌, ◌^◌, ℕ, List, [], ap, sym, subst, ◌∙◌, arith, drop, length, get_or}
use Rattle.std.proofs.lemmas.List.{take_at}
use Rattle.std.proofs.lemmas.List.FromFn.{fill_by_all}
use Rattle.ann_mplan.specs.Back.{linking, once}
use Rattle.ann_mplan.proofs.Sizes.{sizes_more, small_sizes}
use Rattle.ann_mplan.proofs.back.sizes.Goals as goal

pub count_each-requires-clause-small : goal.count_each-requires-clause-small
count_each-requires-clause-small c row =
    let links = c.args.links.now in
    let few : c.loop-i.i < 2 ^ 32 = (let all = c.requires.few in let count = c.len-i-end.ensures in let test = c.loop-i-test.true in omega arith) in
    subst (λ (t : List ℕ). get_or t row 0 < 2 ^ 32) (sym c.deref_mut.ensures.value)
    (small_sizes c.args.base_rows links c.loop-i.i c.loop-i.sizes.items few c.loop-i.invariant.rows c.loop-i.invariant.counted row)

pub loop-i-preserved : goal.loop-i-preserved
loop-i-preserved c =
    let links = c.args.links.now in
    let new : List ℕ = c.count_each.new.sizes in
    let value : c.deref_mut.result.now ≡ c.loop-i.sizes.items = c.deref_mut.ensures.value in
    let long : length new ≡ c.loop-i.sizes.len = (let same = c.count_each.auto.sizes in let size = c.loop-i.sizes.ok.0 in let all = ap length value in omega arith) in
    let whole = take_at new (drop (length new) c.loop-i.sizes.items) c.loop-i.sizes.len long in
    let counted : (row : ℕ) → row < length c.loop-i.sizes.items → get_or new row 0 ≡ get_or c.loop-i.sizes.items row 0 + length (once c.get.result.now 0 row) =
    subst (λ (t : List ℕ). (row : ℕ) → row < length t → get_or new row 0 ≡ get_or t row 0 + length (once c.get.result.now 0 row)) value c.count_each.ensures in
    let more = sizes_more c.args.base_rows links c.loop-i.i c.loop-i.sizes.items new c.get.result.now c.get.ensures c.loop-i.invariant.rows c.loop-i.invariant.counted counted in
    record {
      rows = ap length whole ∙ (let size = c.loop-i.sizes.ok.0 in let rows = c.loop-i.invariant.rows in omega arith);
      counted = λ row h. ap (λ (t : List ℕ). get_or t row 0) whole ∙ more row h;
    }

pub returns : goal.returns
returns c =
    let links = c.args.links.now in
    let all : c.loop-i.i ≡ length links = (let count = c.len-i-end.ensures in let past = c.loop-i-test.false in let end = c.loop-i.auto.i-end in omega arith) in
    fill_by_all (λ row. length (linking c.args.base_rows links (length links) row)) c.loop-i.sizes.items c.args.base_rows 0 c.loop-i.invariant.rows
    (λ row h. c.loop-i.invariant.counted row h ∙ ap (λ (n : ℕ). length (linking c.args.base_rows links n row)) all)
