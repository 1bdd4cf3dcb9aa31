use Rattle.std.proofs.Common.{◌≤◌, ◌<◌, ◌+◌, ◌-◌, ◌%◌, cond, length, ℕ, sym, subst, ap, ◌∙◌, w8, replicate, arith}
use Rattle.std.proofs.lemmas.List.{length-map}
use Rattle.std.proofs.lemmas.Simd.{chunk-fits, below_from_Fits, length-chunk, zip2_splat_left, Each1-replicate}
use Rattle.std.specs.Int.{abs_diff}
use Rattle.ann_lanes.specs.Lanes.{Each1, chunk}
use Rattle.ann_lanes.proofs.Differences.{differences, differences_small, masked}
use lib.Dec.{ltb}
use Rattle.ann_pq.proofs.turned.differences_at.Goals as goal

abbrev wrapped : ℕ → ℕ → ℕ
wrapped a b = (a + (256 - b)) % 256

abbrev less : ℕ → ℕ → ℕ
less a b = cond (ltb a b) 255 0

pub returns-clause-value : goal.returns-clause-value
returns-clause-value c =
    let lanes = below_from_Fits w8 _ (chunk-fits w8 c.args.at 16 c.args.turned.now c.type_inv.turned) in
    let long = length-chunk c.args.at 16 c.args.turned.now c.requires in
    let byte : c.args.component < 256 = omega arith in
    differences wrapped less masked (replicate 16 c.args.component) (chunk c.args.at 16 c.args.turned.now) (sym long) (Each1-replicate (λ a. a < 256) 16 c.args.component byte) lanes
    ∙ zip2_splat_left abs_diff c.args.component 16 (chunk c.args.at 16 c.args.turned.now) long

pub returns-clause-small : goal.returns-clause-small
returns-clause-small c =
    let lanes = below_from_Fits w8 _ (chunk-fits w8 c.args.at 16 c.args.turned.now c.type_inv.turned) in
    let long = length-chunk c.args.at 16 c.args.turned.now c.requires in
    let byte : c.args.component < 256 = omega arith in
    let same = zip2_splat_left abs_diff c.args.component 16 (chunk c.args.at 16 c.args.turned.now) long in
    subst (Each1 {A = ℕ} (λ d. d ≤ 255)) (same ∙ sym (returns-clause-value c)) (differences_small (replicate 16 c.args.component) (chunk c.args.at 16 c.args.turned.now) (Each1-replicate (λ a. a < 256) 16 c.args.component byte) lanes)

pub returns-clause-lanes : goal.returns-clause-lanes
returns-clause-lanes c =
    ap length (returns-clause-value c) ∙ length-map (chunk c.args.at 16 c.args.turned.now) (abs_diff c.args.component) ∙ length-chunk c.args.at 16 c.args.turned.now c.requires
