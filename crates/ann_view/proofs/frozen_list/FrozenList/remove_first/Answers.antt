use Rattle.std.proofs.Common.{◌≡◌, ℕ, length, drop, map, sym, ap, ◌∙◌, arith, length-drop}
use Rattle.std.specs.Arc.{arc_value}
use Rattle.ann_view.proofs.Shared.{removed_first}
use Rattle.std.proofs.lemmas.List.{drop-map, length-map}
use Rattle.ann_view.proofs.frozen_list.FrozenList.remove_first.Goals as goal

pub loop-removed-preserved : goal.loop-removed-preserved
loop-removed-preserved c =
    ap (map arc_value) c.remove.ensures.items
    ∙ sym (drop-map arc_value 1 c.loop-removed.self-inside.graphs.items)
    ∙ ap (drop 1) c.loop-removed.invariant
    ∙ removed_first c.args.self.now c.loop-removed.removed (let more = c.loop-removed-test.true in let most = c.requires in omega arith)

pub returns : goal.returns
returns c =
    let all : c.loop-removed.removed ≡ c.args.count = omega arith in
    c.loop-removed.invariant ∙ ap (λ (n : ℕ). drop n c.args.self.now) all

pub remove-requires : goal.remove-requires
remove-requires c =
    let size = length-map c.loop-removed.self-inside.graphs.items arc_value in
    let left = ap length c.loop-removed.invariant ∙ length-drop c.loop-removed.removed c.args.self.now in
    let more = c.loop-removed-test.true in
    let most = c.requires in
    omega (arith, size, left, more, most)
