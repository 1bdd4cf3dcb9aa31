use Rattle.std.proofs.Common.{ℕ, List, ap, ◌∙◌}
use Rattle.std.specs.Ordering.{nat_cmp}
use Rattle.std.specs.FinMap.{FinMap, get, get-empty}
use Rattle.ann_segment_tests.proofs.vault.stays.Goals as goal

pub preset-requires : goal.preset-requires
preset-requires c = ap (λ (held : FinMap nat_cmp (List ℕ)). get held 8) c.requires ∙ get-empty nat_cmp 8
