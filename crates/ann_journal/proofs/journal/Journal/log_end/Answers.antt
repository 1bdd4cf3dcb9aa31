use Rattle.std.proofs.Common.{◌≡◌, [], ◌∷◌, ℕ, ap, sym, subst, ◌∙◌}
use Rattle.ann_types.specs.declared.entry.Entry.TheVariants.{End}
use Rattle.ann_account.specs.Account.{IsSameBut}
use Rattle.ann_segment.specs.Segment.{SegmentView}
use Rattle.ann_journal.specs.Journal.{JournalView, index_in}
use Rattle.ann_journal.specs.Logged.{CanLog, HasStored}
use Rattle.ann_journal.proofs.Frames.{may_end, still_brings}
use Rattle.ann_journal.proofs.journal.Journal.log_end.Goals as goal

pub returns-clause-brings : goal.returns-clause-brings
returns-clause-brings g c h can holds =
    let number : c.number-number.result ≡ c.args.segment.value.number = c.number-number.ensures ∙ ap (λ (s : SegmentView _). s.number) c.deref.ensures in
    let stored : HasStored g.F.LogFile h (End c.args.by c.number-number.result ∷ []) c.args.self.now c.store.new.self =
    c.in_ok-store.ensures.stored h (subst (λ (n : ℕ). CanLog g.F.LogFile h (End c.args.by n ∷ []) c.args.self.now) (sym number) can.frame) in
    let same : IsSameBut c.args.self.now.account c.self-2.inside.account = subst (λ (j : JournalView _ _). IsSameBut c.args.self.now.account j.account) (sym c.self-2.view_is) stored.account in
    still_brings g.S.Sealed.bytes (index_in c.args.self.now.log) h (End c.args.by c.args.segment.value.number ∷ []) c.args.self.now.account c.self-2.inside.account c.note_end.new.self same
    (c.note_end.ensures.brings (index_in c.args.self.now.log) h (may_end g.F.LogFile h c.args.by c.args.segment.value c.args.self.now c.self-2.inside.account can same) holds)
