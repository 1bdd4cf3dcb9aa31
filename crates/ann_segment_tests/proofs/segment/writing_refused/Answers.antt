use Rattle.std.proofs.Common.{ℕ, List, Option, cond, None, Some, ap, ◌∙◌}
use Rattle.std.specs.Ordering.{nat_cmp}
use Rattle.std.specs.Cmp.{nat_cmp_total}
use Rattle.std.specs.FinMap.{FinMap, empty, get, get-empty, get-insert, insert}
use Rattle.ann_segment_tests.proofs.segment.writing_refused.Goals as goal

pub preset-requires : goal.preset-requires
preset-requires c = ap (λ (held : FinMap nat_cmp (List ℕ)). get held 12) c.in_ok-vault.ensures.empty ∙ get-empty nat_cmp 12

pub write_into-requires : goal.write_into-requires
write_into-requires c =
    ap (λ (held : FinMap nat_cmp (List ℕ)). get held 13) c.in_ok-preset.ensures.sealed
    ∙ get-insert nat_cmp_total _ 12 _ 13
    ∙ ap (λ (held : FinMap nat_cmp (List ℕ)). get held 13) c.in_ok-vault.ensures.empty
    ∙ get-empty nat_cmp 13
