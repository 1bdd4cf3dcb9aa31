use Rattle.std.proofs.Common.{subst}
use Rattle.ann_log.specs.LogView.{files_of, held_of}
use Rattle.ann_log.specs.Pairs.{EachPair}
use Rattle.ann_log.specs.Text.{StandsFor}
use Rattle.ann_journal.specs.Journal.{JournalView}
use Rattle.ann_journal.proofs.Frames.{safe_open}
use Rattle.ann_journal.proofs.journal.Journal.is_closed.Goals as goal

pub returns-clause-safe : goal.returns-clause-safe
returns-clause-safe g c tells open_now h held is kept =
    safe_open g.F.LogFile held c.args.self.now h tells is kept
    (subst (λ (j : JournalView _ _). EachPair g.F.LogFile.unsynced (StandsFor (held_of j.log)) (files_of j.log)) c.self.view_is (c.is_closed.ensures.images tells open_now))
