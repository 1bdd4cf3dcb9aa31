use Rattle.std.proofs.Common.{◌≡◌, ap, false, subst, sym}
use Rattle.ann_log.specs.LogView.{files_of, held_of}
use Rattle.ann_log.specs.Pairs.{LeavePairs}
use Rattle.ann_vault.specs.Counted.{CountsFault}
use Rattle.ann_journal.specs.Journal.{index_in}
use Rattle.ann_index.specs.Index.{HolderView, KeptView, IsIndexOf, kept_of}
use Rattle.ann_index.specs.Left.{LeavesBy}
use Rattle.ann_index.specs.Merged.{IsMergeOf, IsOfMerge}
use Rattle.ann_index.specs.declared.refusal.MergeRefused.TheVariants.{LogFault}
use Rattle.ann_index.proofs.Counted.{merge_counts}
use Rattle.ann_index.proofs.Opened.{some_merged}
use Rattle.ann_index.proofs.index.Index.merge.Goals as goal

pub invariant_of-self : goal.invariant_of-self
invariant_of-self g c =
    some_merged g.F.LogFile g.S.Sealed.tells g.S.Sealed.bytes g.V.Vault.held g.V.Vault.faults g.E.Eye.faults c.self.invariant.0 c.self.invariant.1 (kept_of c.self.inside.ledger.journal c.self.inside.ledger.stock c.self.inside.view) (kept_of c.merge_shown.new.ledger.journal c.merge_shown.new.ledger.stock c.merge_shown.new.view) c.merge_shown.result c.self.invariant.2 c.merge_shown.ensures.stopped
    (c.merge_shown.ensures.merged false c.self.invariant.0 c.self.invariant.1 c.self.invariant.2)

pub returns-clause-merged : goal.returns-clause-merged
returns-clause-merged g c sound h shown was =
    let is : IsIndexOf g.F.LogFile g.S.Sealed.tells g.S.Sealed.bytes g.V.Vault.held sound h shown (kept_of c.self.inside.ledger.journal c.self.inside.ledger.stock c.self.inside.view) =
    subst (λ (i : HolderView _ _ _ _). IsIndexOf g.F.LogFile g.S.Sealed.tells g.S.Sealed.bytes g.V.Vault.held sound h shown i.kept) (sym c.self.view_is) was in
    subst (λ (i : HolderView _ _ _ _). IsMergeOf g.F.LogFile g.S.Sealed.tells g.S.Sealed.bytes g.V.Vault.held g.V.Vault.faults g.E.Eye.faults sound h shown i.kept.journal.log i.kept.stock.tools (kept_of c.merge_shown.new.ledger.journal c.merge_shown.new.ledger.stock c.merge_shown.new.view) c.merge_shown.result) c.self.view_is
    (c.merge_shown.ensures.merged sound h shown is)

pub returns-clause-during : goal.returns-clause-during
returns-clause-during g c sound h shown was =
    let is : IsIndexOf g.F.LogFile g.S.Sealed.tells g.S.Sealed.bytes g.V.Vault.held sound h shown (kept_of c.self.inside.ledger.journal c.self.inside.ledger.stock c.self.inside.view) =
    subst (λ (i : HolderView _ _ _ _). IsIndexOf g.F.LogFile g.S.Sealed.tells g.S.Sealed.bytes g.V.Vault.held sound h shown i.kept) (sym c.self.view_is) was in
    subst (λ (i : HolderView _ _ _ _). i.kept.journal.log.is_closed ≡ false → g.F.LogFile.tells → LeavePairs g.F.LogFile.past g.F.LogFile.unsynced (files_of i.kept.journal.log) (files_of c.merge_shown.new.ledger.journal.log) (IsOfMerge (index_in i.kept.journal.log) h (held_of i.kept.journal.log))) c.self.view_is
    (c.merge_shown.ensures.during sound h shown is)

pub returns-clause-cause : goal.returns-clause-cause
returns-clause-cause g c =
    subst (λ (i : HolderView _ _ _ _). CountsFault (λ why. why ≡ LogFault) c.merge_shown.result (g.F.LogFile.faults i.kept.journal.log.log) (g.F.LogFile.faults c.merge_shown.new.ledger.journal.log.log)) c.self.view_is
    (merge_counts g.F.LogFile g.S.Sealed.tells g.S.Sealed.bytes g.V.Vault.held g.V.Vault.faults g.E.Eye.faults false c.self.invariant.0 c.self.invariant.1 c.self.inside.ledger.journal.log c.self.inside.ledger.stock.tools (kept_of c.merge_shown.new.ledger.journal c.merge_shown.new.ledger.stock c.merge_shown.new.view) c.merge_shown.result
    (λ closed. ap (λ (k : KeptView _ _ _ _). k.journal.log) (c.merge_shown.ensures.stopped closed))
    (c.merge_shown.ensures.merged false c.self.invariant.0 c.self.invariant.1 c.self.invariant.2))

pub returns-clause-left : goal.returns-clause-left
returns-clause-left g c sound h shown was =
    let is : IsIndexOf g.F.LogFile g.S.Sealed.tells g.S.Sealed.bytes g.V.Vault.held sound h shown (kept_of c.self.inside.ledger.journal c.self.inside.ledger.stock c.self.inside.view) =
    subst (λ (i : HolderView _ _ _ _). IsIndexOf g.F.LogFile g.S.Sealed.tells g.S.Sealed.bytes g.V.Vault.held sound h shown i.kept) (sym c.self.view_is) was in
    subst (λ (i : HolderView _ _ _ _). LeavesBy g.F.LogFile h i.kept.journal.log c.merge_shown.new.ledger.journal.log i.kept.stock c.merge_shown.new.ledger.stock g.S.Sealed.tells g.S.Sealed.bytes g.V.Vault.held g.V.Vault.faults g.E.Eye.reads c.merge_shown.result) c.self.view_is
    (c.merge_shown.ensures.left sound h shown is)
