use Rattle.std.proofs.Common.{ℕ, List, ap, ◌∙◌}
use Rattle.std.specs.Ordering.{nat_cmp}
use Rattle.std.specs.FinMap.{FinMap, get, get-empty}
use Rattle.ann_segment_tests.proofs.segment.written.Goals as goal

pub write_into-requires : goal.write_into-requires
write_into-requires c = ap (λ (held : FinMap nat_cmp (List ℕ)). get held 13) c.in_ok-vault.ensures.empty ∙ get-empty nat_cmp 13
