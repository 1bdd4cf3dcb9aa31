use Rattle.std.proofs.Common.{◌∙◌}
use Rattle.ann_resume.proofs.Removing.{removed_none}
use Rattle.ann_resume.proofs.remove.remove.Goals as goal

pub returns-in-None-clause-removed : goal.returns-in-None-clause-removed
returns-in-None-clause-removed g c told =
    c.in_ok-seal.ensures.same told
    ∙ removed_none (g.V.Vault.held c.args.vault.now) c.args.number (rw c.in-None.is at (c.in_ok-seal.ensures.found told))
