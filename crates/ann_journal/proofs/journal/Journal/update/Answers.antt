use Rattle.std.proofs.Common.{List, sym, ap, subst, ◌∙◌}
use Rattle.std.specs.Prelude.{Result, OnOk}
use Rattle.ann_types.specs.Lists.{with_entries}
use Rattle.ann_types.specs.declared.entry.Entry.{Entry}
use Rattle.ann_account.specs.Steps.{StillLead}
use Rattle.ann_log.specs.LogView.{files_of, held_of, IsBeforeOrAfter}
use Rattle.ann_log.specs.Pairs.{LeavePairs}
use Rattle.ann_journal.specs.Journal.{JournalView, index_in}
use Rattle.ann_journal.specs.Logged.{CanLogAll, HasLogged, StaysSafe}
use Rattle.ann_journal.specs.Safe.{IsSafe}
use Rattle.ann_journal.specs.declared.refused.Receipt.{Receipt}
use Rattle.ann_journal.specs.declared.refused.UpdateRefused.{UpdateRefused}
use Rattle.ann_journal.specs.Updated.{entries_by, IsAccepted, IsUpdate}
use Rattle.ann_journal.proofs.Frames.{idle_log}
use Rattle.ann_journal.proofs.Updating.{can_here, accepted_here, has_updated, unlogged_by, untouched_by}
use Rattle.ann_journal.proofs.journal.Journal.update.Goals as goal
use Rattle.ann_journal.proofs.journal.Journal.update.Goals.{in-Ok, in-Err-Memory, in-Err-Fault}

pub returns-in-Some-clause-during : goal.returns-in-Some-clause-during
returns-in-Some-clause-during g c going tells =
    subst (λ (j : JournalView _ _). LeavePairs g.F.LogFile.past g.F.LogFile.unsynced (files_of j.log) (files_of j.log) (IsBeforeOrAfter (held_of j.log) (entries_by c.args.by c.args.changes.now))) c.self.view_is
    (idle_log g.F.LogFile c.self.inside.log (entries_by c.args.by c.args.changes.now) (c.is_closed.ensures.images tells c.if-is_closed.false))

pub returns-in_err-entries-clause-during : goal.returns-in_err-entries-clause-during
returns-in_err-entries-clause-during g c going tells =
    subst (λ (j : JournalView _ _). LeavePairs g.F.LogFile.past g.F.LogFile.unsynced (files_of j.log) (files_of j.log) (IsBeforeOrAfter (held_of j.log) (entries_by c.args.by c.args.changes.now))) c.self.view_is
    (idle_log g.F.LogFile c.self.inside.log (entries_by c.args.by c.args.changes.now) (c.is_closed.ensures.images tells c.if-is_closed.false))

pub log_all-requires : goal.log_all-requires
log_all-requires g c =
    let h = c.requires.list.0 in (
      h,
      can_here g.F.LogFile h c.args.by c.args.changes.now c.in_ok-entries.entries.items c.standing.result.params.now (record { log = c.self.inside.log; account = c.self.inside.account }) c.args.self.now c.self.view_is c.requires.list.1
          (sym c.is_closed.ensures.closed ∙ c.if-is_closed.false) c.requires.some c.requires.few c.standing.ensures.small (c.standing.ensures.params ∙ c.params.ensures)
          (λ here. c.in_default.ensures h c.args.by (c.standing.ensures.knows (index_in c.self.inside.log) h here.account_is)) c.in_ok-entries.ensures,
    )

pub returns-clause-updated : goal.returns-clause-updated
returns-clause-updated g c h is =
    let can : CanLogAll g.F.LogFile h c.in_ok-entries.entries.items c.args.self.now = can_here g.F.LogFile h c.args.by c.args.changes.now c.in_ok-entries.entries.items c.standing.result.params.now (record { log = c.self.inside.log; account = c.self.inside.account }) c.args.self.now c.self.view_is is
    (sym c.is_closed.ensures.closed ∙ c.if-is_closed.false) c.requires.some c.requires.few c.standing.ensures.small (c.standing.ensures.params ∙ c.params.ensures)
    (λ here. c.in_default.ensures h c.args.by (c.standing.ensures.knows (index_in c.self.inside.log) h here.account_is)) c.in_ok-entries.ensures in
    let ok : IsAccepted g.F.LogFile h c.args.by c.args.changes.now c.args.self.now c.log_all.new.self = accepted_here g.F.LogFile h c.args.by c.args.changes.now c.standing.result.params.now (record { log = c.self.inside.log; account = c.self.inside.account }) c.args.self.now c.log_all.new.self c.self.view_is is
    (sym c.is_closed.ensures.closed ∙ c.if-is_closed.false) (c.standing.ensures.params ∙ c.params.ensures)
    (λ here. c.in_default.ensures h c.args.by (c.standing.ensures.knows (index_in c.self.inside.log) h here.account_is)) in
    elim c.match-log_all.branch [
      | in-Ok w ↦ subst (λ (r : Result Receipt UpdateRefused). IsUpdate g.F.LogFile h c.args.by c.args.changes.now c.args.self.now c.log_all.new.self r) (sym w.result-is)
          (has_updated g.F.LogFile h c.args.by c.args.changes.now c.args.self.now is c.log_all.new.self w.at-in-Ok.result ok
          (subst (λ (es : List Entry). HasLogged g.F.LogFile h es c.args.self.now c.log_all.new.self) c.in_ok-entries.ensures (w.in-Ok.ensures.logged h can))
          (w.at-in-Ok.ensures ∙ ap (λ (j : JournalView _ _). j.account.at) c.self-2.view_is))
      | in-Err-Memory w ↦ subst (λ (r : Result Receipt UpdateRefused). IsUpdate g.F.LogFile h c.args.by c.args.changes.now c.args.self.now c.log_all.new.self r) (sym w.result-is)
          (record { accepted = ok; untouched = untouched_by (Unit {0}) g.F.LogFile h c.in_ok-entries.entries.items c.args.self.now c.log_all.new.self w.in-Err-Memory.field-0 w.in-Err-Memory.field-0-is (w.in-Err-Memory.ensures.logged h can) })
      | in-Err-Fault w ↦ subst (λ (r : Result Receipt UpdateRefused). IsUpdate g.F.LogFile h c.args.by c.args.changes.now c.args.self.now c.log_all.new.self r) (sym w.result-is)
          (record { accepted = ok; unlogged = unlogged_by (Unit {0}) g.F.LogFile h c.in_ok-entries.entries.items c.args.self.now c.log_all.new.self w.in-Err-Fault.field-0 w.in-Err-Fault.field-0-is (w.in-Err-Fault.ensures.logged h can) })
    ]

pub returns-clause-brings : goal.returns-clause-brings
returns-clause-brings g c h is =
    let can : CanLogAll g.F.LogFile h c.in_ok-entries.entries.items c.args.self.now = can_here g.F.LogFile h c.args.by c.args.changes.now c.in_ok-entries.entries.items c.standing.result.params.now (record { log = c.self.inside.log; account = c.self.inside.account }) c.args.self.now c.self.view_is is
    (sym c.is_closed.ensures.closed ∙ c.if-is_closed.false) c.requires.some c.requires.few c.standing.ensures.small (c.standing.ensures.params ∙ c.params.ensures)
    (λ here. c.in_default.ensures h c.args.by (c.standing.ensures.knows (index_in c.self.inside.log) h here.account_is)) c.in_ok-entries.ensures in
    elim c.match-log_all.branch [
      | in-Ok w ↦ subst (λ (r : Result Receipt UpdateRefused). OnOk r (StillLead g.S.Sealed.bytes (index_in c.args.self.now.log) h (entries_by c.args.by c.args.changes.now) c.args.self.now.account c.log_all.new.self.account)) (sym w.result-is)
          (subst (λ (es : List Entry). StillLead g.S.Sealed.bytes (index_in c.args.self.now.log) h es c.args.self.now.account c.log_all.new.self.account) c.in_ok-entries.ensures (w.in-Ok.ensures.brings h can))
      | in-Err-Memory w ↦ subst (λ (r : Result Receipt UpdateRefused). OnOk r (StillLead g.S.Sealed.bytes (index_in c.args.self.now.log) h (entries_by c.args.by c.args.changes.now) c.args.self.now.account c.log_all.new.self.account)) (sym w.result-is) tt
      | in-Err-Fault w ↦ subst (λ (r : Result Receipt UpdateRefused). OnOk r (StillLead g.S.Sealed.bytes (index_in c.args.self.now.log) h (entries_by c.args.by c.args.changes.now) c.args.self.now.account c.log_all.new.self.account)) (sym w.result-is) tt
    ]

pub returns-clause-safe : goal.returns-clause-safe
returns-clause-safe g c tells held h is safe =
    let can : CanLogAll g.F.LogFile h c.in_ok-entries.entries.items c.args.self.now = can_here g.F.LogFile h c.args.by c.args.changes.now c.in_ok-entries.entries.items c.standing.result.params.now (record { log = c.self.inside.log; account = c.self.inside.account }) c.args.self.now c.self.view_is is
    (sym c.is_closed.ensures.closed ∙ c.if-is_closed.false) c.requires.some c.requires.few c.standing.ensures.small (c.standing.ensures.params ∙ c.params.ensures)
    (λ here. c.in_default.ensures h c.args.by (c.standing.ensures.knows (index_in c.self.inside.log) h here.account_is)) c.in_ok-entries.ensures in
    elim c.match-log_all.branch [
      | in-Ok w ↦ subst (λ (r : Result Receipt UpdateRefused). StaysSafe g.F.LogFile held c.log_all.new.self.log h (entries_by c.args.by c.args.changes.now) r) (sym w.result-is)
          (subst (λ (es : List Entry). IsSafe g.F.LogFile held c.log_all.new.self.log (with_entries h es)) c.in_ok-entries.ensures (w.in-Ok.ensures.safe tells held h can safe))
      | in-Err-Memory w ↦ subst (λ (r : Result Receipt UpdateRefused). StaysSafe g.F.LogFile held c.log_all.new.self.log h (entries_by c.args.by c.args.changes.now) r) (sym w.result-is) (w.in-Err-Memory.ensures.safe tells held h can safe)
      | in-Err-Fault w ↦ subst (λ (r : Result Receipt UpdateRefused). StaysSafe g.F.LogFile held c.log_all.new.self.log h (entries_by c.args.by c.args.changes.now) r) (sym w.result-is) (w.in-Err-Fault.ensures.safe tells held h can safe)
    ]
