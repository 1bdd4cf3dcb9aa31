use Rattle.std.proofs.Common.{◌∙◌, ap, nat_cmp}
use Rattle.std.specs.FinMap.{get, get-empty}
use Rattle.ann_vault.specs.Held.{Holding}
use Rattle.ann_core.proofs.kept.vault_with.Goals as goal

pub preset-requires : goal.preset-requires
preset-requires c = ap (λ (h : Holding). get h c.in-Some.number) c.in_ok-vault.ensures.empty ∙ get-empty nat_cmp c.in-Some.number
