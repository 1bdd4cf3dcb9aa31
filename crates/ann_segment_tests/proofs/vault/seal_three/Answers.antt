use Rattle.std.proofs.Common.{ℕ, List, ap, ◌∙◌}
use Rattle.std.specs.Ordering.{nat_cmp}
use Rattle.std.specs.FinMap.{FinMap, get, get-empty}
use Rattle.ann_segment_tests.proofs.vault.seal_three.Goals as goal

pub create-requires : goal.create-requires
create-requires c = ap (λ (held : FinMap nat_cmp (List ℕ)). get held 7) c.requires ∙ get-empty nat_cmp 7
