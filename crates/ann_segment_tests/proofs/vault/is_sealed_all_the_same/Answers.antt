use Rattle.std.proofs.Common.{ℕ, List, ap, ◌∙◌}
use Rattle.std.specs.Ordering.{nat_cmp}
use Rattle.std.specs.FinMap.{FinMap, get, get-empty}
use Rattle.ann_segment_tests.proofs.vault.is_sealed_all_the_same.Goals as goal

pub create-requires : goal.create-requires
create-requires c = ap (λ (held : FinMap nat_cmp (List ℕ)). get held 6) c.requires ∙ get-empty nat_cmp 6

pub create-requires-2 : goal.create-requires-2
create-requires-2 c = ap (λ (held : FinMap nat_cmp (List ℕ)). get held 6) (c.create.ensures.same ∙ c.requires) ∙ get-empty nat_cmp 6
