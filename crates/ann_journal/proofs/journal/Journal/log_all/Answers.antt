use Rattle.std.proofs.Common.{List, sym, subst}
use Rattle.ann_types.specs.Lists.{with_entries}
use Rattle.ann_types.specs.declared.entry.Entry.{Entry}
use Rattle.ann_account.specs.Account.{IsSameBut}
use Rattle.ann_journal.specs.Journal.{JournalView, index_in}
use Rattle.ann_journal.specs.Logged.{CanLog, HasStored, MayGrow}
use Rattle.ann_journal.specs.Safe.{IsSafe}
use Rattle.ann_journal.proofs.Frames.{can_note, may_grow, safe_refused, still_brings}
use Rattle.ann_journal.proofs.journal.Journal.log_all.Goals as goal

pub returns-in_err-store-clause-safe : goal.returns-in_err-store-clause-safe
returns-in_err-store-clause-safe g c tells held h can safe =
    safe_refused g.F.LogFile held c.store.new.self.log h c.args.entries.items c.from_residual.result c.from_residual.ensures.0
    (c.in_err-store.ensures.safe tells held h
    (subst (λ (es : List Entry). CanLog g.F.LogFile h es c.args.self.now) (sym c.deref.ensures.value) can.frame)
    (subst (λ (es : List Entry). MayGrow g.F.LogFile held c.args.self.now.log h es) (sym c.deref.ensures.value) (may_grow g.F.LogFile held h c.args.entries.items c.args.self.now can safe)))

pub note_all-requires-clause-legal : goal.note_all-requires-clause-legal
note_all-requires-clause-legal g c =
    let frame = c.requires.1.frame in
    let stored : HasStored g.F.LogFile c.requires.0 c.deref.result.now c.args.self.now c.store.new.self =
    c.in_ok-store.ensures.stored c.requires.0 (subst (λ (es : List Entry). CanLog g.F.LogFile c.requires.0 es c.args.self.now) (sym c.deref.ensures.value) frame) in
    let same : IsSameBut c.args.self.now.account c.self-2.inside.account = subst (λ (j : JournalView _ _). IsSameBut c.args.self.now.account j.account) (sym c.self-2.view_is) stored.account in
    (index_in c.args.self.now.log, c.requires.0, can_note g.F.LogFile c.requires.0 c.args.entries.items c.args.self.now c.self-2.inside.account frame same)

pub returns-clause-brings : goal.returns-clause-brings
returns-clause-brings g c h can =
    let stored : HasStored g.F.LogFile h c.deref.result.now c.args.self.now c.store.new.self =
    c.in_ok-store.ensures.stored h (subst (λ (es : List Entry). CanLog g.F.LogFile h es c.args.self.now) (sym c.deref.ensures.value) can.frame) in
    let same : IsSameBut c.args.self.now.account c.self-2.inside.account = subst (λ (j : JournalView _ _). IsSameBut c.args.self.now.account j.account) (sym c.self-2.view_is) stored.account in
    still_brings g.S.Sealed.bytes (index_in c.args.self.now.log) h c.args.entries.items c.args.self.now.account c.self-2.inside.account c.note_all.new.self same
    (c.note_all.ensures.brings (index_in c.args.self.now.log) h (can_note g.F.LogFile h c.args.entries.items c.args.self.now c.self-2.inside.account can.frame same))

pub returns-clause-safe : goal.returns-clause-safe
returns-clause-safe g c tells held h can safe =
    subst (λ (j : JournalView _ _). IsSafe g.F.LogFile held j.log (with_entries h c.args.entries.items)) (sym c.self-2.view_is)
    (subst (λ (es : List Entry). IsSafe g.F.LogFile held c.store.new.self.log (with_entries h es)) c.deref.ensures.value
    (c.in_ok-store.ensures.safe tells held h
    (subst (λ (es : List Entry). CanLog g.F.LogFile h es c.args.self.now) (sym c.deref.ensures.value) can.frame)
    (subst (λ (es : List Entry). MayGrow g.F.LogFile held c.args.self.now.log h es) (sym c.deref.ensures.value) (may_grow g.F.LogFile held h c.args.entries.items c.args.self.now can safe))))
