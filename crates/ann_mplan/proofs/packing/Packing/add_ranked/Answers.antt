use Rattle.std.proofs.Common.{◌≡◌, ◌++◌, ◌∷◌, [], ℕ, List, ap, sym, ◌∙◌, map, take, get_or}
use Rattle.std.proofs.lemmas.List.{map-append, take_more}
use Rattle.ann_mplan.specs.Packing.{rank_in}
use Rattle.ann_mplan.proofs.packing.Packing.add_ranked.Goals as goal

pub loop-row-preserved : goal.loop-row-preserved
loop-row-preserved c =
    let rank : ℕ → ℕ = rank_in c.args.self.now in
    let list = c.args.list.now in
    let at = c.loop-row.row-index in
    let row : ℕ = get_or list at 0 in
    c.push.ensures.items
    ∙ ap (λ (n : ℕ). c.loop-row.ranks.items ++ n ∷ []) c.rank.ensures
    ∙ ap (λ (t : List ℕ). t ++ rank row ∷ []) c.loop-row.invariant
    ∙ sym (ap (map rank) (take_more list at 0 c.loop-row-test.true) ∙ map-append rank (take at list) (row ∷ []))
