use Rattle.std.proofs.Common.{◌≡◌, ◌∷◌, [], List, ℕ, sym, ap, subst, map, take, length, All, arith, length-take}
use Rattle.std.proofs.lemmas.List.{length-map}
use Rattle.std.proofs.lemmas.List.Elements.{All-from_recursion}
use Rattle.ann_merge_tests.proofs.Lines.{singles_wide}
use Rattle.ann_merge_tests.proofs.rows.vectors.Goals as goal

pub push_vector-requires-clause-same : goal.push_vector-requires-clause-same
push_vector-requires-clause-same c =
    let front = take c.loop-component.component-index c.args.components.now in
    subst (All (λ v. length v ≡ 1)) (sym c.loop-component.invariant) (All-from_recursion (λ v. length v ≡ 1) (map (λ x. x ∷ []) front) (singles_wide front))

pub push_vector-requires-clause-few : goal.push_vector-requires-clause-few
push_vector-requires-clause-few c =
    let front = take c.loop-component.component-index c.args.components.now in
    let size = ap length c.loop-component.invariant in
    let same = length-map front (λ x. x ∷ []) in
    let short = length-take c.loop-component.component-index c.args.components.now in
    let inside = c.loop-component-test.true in
    let few = c.requires in
    omega arith
