use Rattle.std.proofs.Common.{ℕ, List, ap, ◌∙◌}
use Rattle.std.specs.Ordering.{nat_cmp}
use Rattle.std.specs.FinMap.{FinMap, get, get-empty}
use Rattle.ann_job_tests.proofs.old.seal_of.Goals as goal

pub preset-requires : goal.preset-requires
preset-requires c = ap (λ (held : FinMap nat_cmp (List ℕ)). get held c.args.number) c.in_ok-vault.ensures.empty ∙ get-empty nat_cmp c.args.number
