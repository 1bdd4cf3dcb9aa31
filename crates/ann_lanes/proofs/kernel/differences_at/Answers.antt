use Rattle.std.proofs.Common.{◌≤◌, length, ℕ, sym, subst, ap, ◌∙◌, w8}
use Rattle.std.proofs.lemmas.Simd.{chunk-fits, below_from_Fits, length-chunk, length-zip2}
use Rattle.std.specs.Int.{abs_diff}
use Rattle.ann_lanes.specs.Lanes.{Each1, chunk}
use Rattle.ann_lanes.proofs.Differences.{differences, differences_small, masked}
use Rattle.ann_lanes.proofs.kernel.differences_at.Goals as goal

pub returns-clause-value : goal.returns-clause-value
returns-clause-value c =
    let x_lanes = below_from_Fits w8 _ (chunk-fits w8 c.args.at 16 c.args.x.now c.type_inv.x) in
    let y_lanes = below_from_Fits w8 _ (chunk-fits w8 c.args.at 16 c.args.y.now c.type_inv.y) in
    differences _ _ masked (chunk c.args.at 16 c.args.x.now) (chunk c.args.at 16 c.args.y.now) (length-chunk _ _ _ c.requires.x_has ∙ sym (length-chunk _ _ _ c.requires.y_has)) x_lanes y_lanes

pub returns-clause-small : goal.returns-clause-small
returns-clause-small c =
    let x_lanes = below_from_Fits w8 _ (chunk-fits w8 c.args.at 16 c.args.x.now c.type_inv.x) in
    let y_lanes = below_from_Fits w8 _ (chunk-fits w8 c.args.at 16 c.args.y.now c.type_inv.y) in
    subst (Each1 {A = ℕ} (λ d. d ≤ 255)) (sym (returns-clause-value c)) (differences_small (chunk c.args.at 16 c.args.x.now) (chunk c.args.at 16 c.args.y.now) x_lanes y_lanes)

pub returns-clause-lanes : goal.returns-clause-lanes
returns-clause-lanes c =
    ap length (returns-clause-value c) ∙ length-zip2 abs_diff (chunk c.args.at 16 c.args.x.now) (chunk c.args.at 16 c.args.y.now) (length-chunk _ _ _ c.requires.x_has ∙ sym (length-chunk _ _ _ c.requires.y_has)) ∙ length-chunk _ _ _ c.requires.x_has
