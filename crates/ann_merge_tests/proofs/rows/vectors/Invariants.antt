use Rattle.std.proofs.Common.{◌≡◌, ◌∷◌, [], map, take}
use Rattle.ann_merge_tests.proofs.rows.vectors.Given as goal

-- the vectors so far
abbrev pub invariant-loop-component : goal.invariant-loop-component
invariant-loop-component l = l.decoded ≡ map (λ x. x ∷ []) (take l.component-index l.components)
