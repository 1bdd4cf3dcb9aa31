use Rattle.std.proofs.Common.{sym, ap, subst, ◌∙◌}
use Rattle.std.specs.Prelude.{Result}
use Rattle.ann_log.specs.Appended.{FitFrame, HasAppended, IsSameLog}
use Rattle.ann_log.specs.LogView.{LogView, files_of, held_of, IsBeforeOrAfter}
use Rattle.ann_log.specs.Pairs.{LeavePairs}
use Rattle.ann_journal.specs.Journal.{JournalView}
use Rattle.ann_journal.specs.Logged.{StaysSafe}
use Rattle.ann_journal.specs.declared.refused.Unlogged.{Unlogged}
use Rattle.ann_journal.proofs.Frames.{idle_log, fit_frame, safe_more, safe_doubt}
use Rattle.ann_journal.proofs.journal.Journal.store.Goals as goal
use Rattle.ann_journal.proofs.journal.Journal.store.Goals.{in-Ok, in-Err}

pub returns-in_err-reserve-clause-during : goal.returns-in_err-reserve-clause-during
returns-in_err-reserve-clause-during g c tells =
    let log_same = ap (λ (j : JournalView _ _). j.log) c.self.view_is in
    subst (λ (l : LogView _). LeavePairs g.F.LogFile.past g.F.LogFile.unsynced (files_of l) (files_of c.self.inside.log) (IsBeforeOrAfter (held_of l) c.args.entries.now)) log_same
    (idle_log g.F.LogFile c.self.inside.log c.args.entries.now
    (c.is_closed-open.ensures.images tells (c.is_closed-open.ensures.closed ∙ ap (λ (l : LogView _). l.is_closed) log_same ∙ c.requires.1.open_now)))

pub append-requires-clause-fits : goal.append-requires-clause-fits
append-requires-clause-fits g c =
    subst (λ (j : JournalView _ _). FitFrame j.log.params.d c.args.entries.now) (sym c.self.view_is) (fit_frame g.F.LogFile c.requires.0 c.args.entries.now c.args.self.now c.requires.1)

pub returns-clause-safe : goal.returns-clause-safe
returns-clause-safe g c tells held h can may =
    let log = c.args.self.now.log in
    let same : IsSameLog log c.append.new.self = subst (λ (j : JournalView _ _). IsSameLog j.log c.append.new.self) c.self.view_is c.append.ensures.same in
    let during : LeavePairs g.F.LogFile.past g.F.LogFile.unsynced (files_of log) (files_of c.append.new.self) (IsBeforeOrAfter (held_of log) c.args.entries.now) =
    subst (λ (j : JournalView _ _). LeavePairs g.F.LogFile.past g.F.LogFile.unsynced (files_of j.log) (files_of c.append.new.self) (IsBeforeOrAfter (held_of j.log) c.args.entries.now)) c.self.view_is (c.append.ensures.during tells) in
    elim c.match-append.branch [
      | in-Ok w ↦ subst (λ (r : Result Unit Unlogged). StaysSafe g.F.LogFile held c.append.new.self h c.args.entries.now r) (sym w.result-is)
          (safe_more g.F.LogFile held log c.append.new.self h c.args.entries.now tells can.journal_is.list can.legal may.longer
          (subst (λ (j : JournalView _ _). HasAppended g.F.LogFile j.log c.args.entries.now c.append.new.self) c.self.view_is w.in-Ok.ensures.appended) same)
      | in-Err w ↦ subst (λ (r : Result Unit Unlogged). StaysSafe g.F.LogFile held c.append.new.self h c.args.entries.now r) (sym w.result-is)
          (safe_doubt g.F.LogFile held log c.append.new.self h c.args.entries.now tells can.journal_is.list can.journal_is.legal can.legal may.safe.list may.longer during same)
    ]
