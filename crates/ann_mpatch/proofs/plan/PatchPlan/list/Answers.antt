use Rattle.std.proofs.Common.{rules, ◌≡◌, ◌++◌, ◌≤◌, ◌<◌, ◌-◌, ℕ, List, [], length, get_or, sym, ap, ap₂, subst, ◌∙◌, arith}
use Rattle.std.specs.List.Sorted.{IsStrictlyIncreasing}
use Rattle.std.proofs.lemmas.Result.{on_ok_weaker}
use Rattle.ann_types.specs.Order.{ascending}
use Rattle.ann_types.specs.Kept.{rule_of, within}
use Rattle.ann_prune.specs.Gathered.{AreRows}
use Rattle.ann_mdelete.specs.Decoded.{apart_of}
use Rattle.ann_mpatch.specs.Joined.{ShareNothing}
use Rattle.ann_mpatch.proofs.Listed.{apart, joined_rows, list_later, list_patched, new_rows, own_rows}
use Rattle.ann_mpatch.proofs.plan.PatchPlan.list.Goals as goal

pub patch-requires-clause-rows : goal.patch-requires-clause-rows
patch-requires-clause-rows g c =
    let below : c.args.row < length c.args.self.now.base = (let more = c.if-place-count.true in let count = c.len-count.ensures in omega arith) in
    subst (AreRows (length c.args.self.now.decoded) c.args.row) (sym (ap₂ (λ (x y : List ℕ). x ++ y) c.get-own.ensures c.get-delta.ensures)) (joined_rows c.args.self.now c.requires.plan c.args.row below)

pub patch-requires-clause-own : goal.patch-requires-clause-own
patch-requires-clause-own g c =
    let below : c.args.row < length c.args.self.now.base = (let more = c.if-place-count.true in let count = c.len-count.ensures in omega arith) in
    subst IsStrictlyIncreasing (sym c.get-own.ensures) (own_rows c.args.self.now c.requires.plan c.args.row below).rising

pub patch-requires-clause-delta : goal.patch-requires-clause-delta
patch-requires-clause-delta g c =
    let below : c.args.row < length c.args.self.now.base = (let more = c.if-place-count.true in let count = c.len-count.ensures in omega arith) in
    subst IsStrictlyIncreasing (sym c.get-delta.ensures) (new_rows c.args.self.now c.requires.plan c.args.row below).rising

pub patch-requires-clause-apart : goal.patch-requires-clause-apart
patch-requires-clause-apart g c =
    let below : c.args.row < length c.args.self.now.base = (let more = c.if-place-count.true in let count = c.len-count.ensures in omega arith) in
    subst (λ (x : List ℕ). ShareNothing x c.get-delta.result.now) (sym c.get-own.ensures)
    (subst (ShareNothing (get_or c.args.self.now.base c.args.row [])) (sym c.get-delta.ensures) (apart c.args.self.now c.requires.plan c.args.row below))

pub returns-then-place-count : goal.returns-then-place-count
returns-then-place-count g c =
    let plan = c.args.self.now in
    let below : c.args.row < length plan.base = (let more = c.if-place-count.true in let count = c.len-count.ensures in omega arith) in
    on_ok_weaker c.patch.result
    (λ (is : c.patch.new.out.items ≡ within (rule_of plan.params) (apart_of plan.decoded) c.args.row (ascending (c.get-own.result.now ++ c.get-delta.result.now))).
    is
    ∙ ap₂ (λ (x y : List ℕ). within (rule_of plan.params) (apart_of plan.decoded) c.args.row (ascending (x ++ y))) c.get-own.ensures c.get-delta.ensures
    ∙ sym (list_patched plan c.args.row below))
    c.patch.ensures

pub returns : goal.returns
returns g c =
    let plan = c.args.self.now in
    let past : length plan.base ≤ c.args.row = (let more = c.if-place-count.false in let count = c.len-count.ensures in omega arith) in
    let links : c.get.result.now ≡ get_or plan.links (c.args.row - length plan.base) [] = c.get.ensures ∙ ap (λ (n : ℕ). get_or plan.links (c.args.row - n) []) c.len-count.ensures in
    let copied : c.try_extend_from_slice.new.self.items ≡ c.get.result.now = search rules in
    copied ∙ links ∙ sym (list_later plan c.args.row past)
