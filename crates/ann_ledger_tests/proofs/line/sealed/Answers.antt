use Rattle.std.proofs.Common.{ℕ, List, ap, ◌∙◌}
use Rattle.std.specs.Ordering.{nat_cmp}
use Rattle.std.specs.FinMap.{FinMap, get, get-empty}
use Rattle.ann_ledger_tests.proofs.line.sealed.Goals as goal

pub preset-requires : goal.preset-requires
preset-requires c = ap (λ (held : FinMap nat_cmp (List ℕ)). get held 7) c.in_ok-vault.ensures.empty ∙ get-empty nat_cmp 7
