use Rattle.std.proofs.Common.{◌≡◌, true, subst}
use Rattle.ann_preamble.specs.Base.{is_base}
use Rattle.ann_journal.specs.Journal.{JournalView}
use Rattle.ann_journal.proofs.Bases.{list_older}
use Rattle.ann_journal.proofs.journal.Journal.base.Goals as goal

pub returns-clause-older : goal.returns-clause-older
returns-clause-older g c h is =
    list_older g.F.LogFile c.args.self.now.log h is.list (subst (λ (j : JournalView _ _). is_base j.log.base ≡ true) c.self.view_is c.base.ensures.valid)
