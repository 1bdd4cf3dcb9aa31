use Rattle.std.proofs.Common.{◌≡◌, ◌≢◌, ◌∙◌, ℕ, false, ap, length, subst, sym}
use Rattle.std.specs.Prelude.{IsErrOf}
use Rattle.ann_beam.specs.Found.{IsSearched}
use Rattle.ann_beam.specs.declared.refused.SearchRefused.TheVariants.{Dimension}
use Rattle.ann_view.specs.Search.{from_near, quest_in}
use Rattle.ann_index.specs.Index.{HolderView, IsIndexOf, kept_of}
use Rattle.ann_index.specs.Searched.{HasSearched, standing_of}
use Rattle.ann_index.proofs.Searching.{has_searched}
use Rattle.ann_index.proofs.Shown.{index_later, shown_on, still_all}
use Rattle.ann_index.proofs.index.Index.search.Goals as goal

pub invariant_of-self : goal.invariant_of-self
invariant_of-self g c =
    let h = c.self.invariant.0 in
    let shown = c.self.invariant.1 in
    let is = c.self.invariant.2 in
    let next = c.show_all-shown.ensures.follows false h shown is.follows in (
      h,
      next.0,
      index_later g.F.LogFile g.V.Seal.Sealed.tells g.V.Seal.Sealed.bytes g.V.Vault.held false h c.self.inside.ledger.journal c.show_all-shown.new.journal c.self.inside.ledger.stock shown c.self.inside.view c.show_all-shown.new.view c.show_all-shown.ensures.some next is,
    )

pub returns-clause-found : goal.returns-clause-found
returns-clause-found g c sound h shown was =
    let is : IsIndexOf g.F.LogFile g.V.Seal.Sealed.tells g.V.Seal.Sealed.bytes g.V.Vault.held sound h shown (kept_of c.self.inside.ledger.journal c.self.inside.ledger.stock c.self.inside.view) =
    subst (λ (i : HolderView _ _ _ _). IsIndexOf g.F.LogFile g.V.Seal.Sealed.tells g.V.Seal.Sealed.bytes g.V.Vault.held sound h shown i.kept) (sym c.self.view_is) was in
    let next = c.show_all-shown.ensures.follows sound h shown is.follows in
    subst (λ (i : HolderView _ _ _ _). HasSearched g.F.LogFile g.V.Seal.Sealed.tells g.V.Seal.Sealed.bytes g.V.Vault.held g.E.Eye.reads sound h shown c.args.ask.now i (record { kept = kept_of c.show_all-shown.new.journal c.self.inside.ledger.stock c.show_all-shown.new.view; result = c.search.new.desk.ranking; page = c.search.new.desk.page; eye = c.search.new.eye }) c.search.result) c.self.view_is
    (has_searched g.F.LogFile g.V.Seal.Sealed.tells g.V.Seal.Sealed.bytes g.V.Vault.held g.E.Eye.reads g.E.Eye.faults sound h shown next.0 c.args.ask.now
    (record { kept = kept_of c.self.inside.ledger.journal c.self.inside.ledger.stock c.self.inside.view; result = c.self.inside.desk.ranking; page = c.self.inside.desk.page; eye = c.self.inside.eye })
    (record { kept = kept_of c.show_all-shown.new.journal c.self.inside.ledger.stock c.show_all-shown.new.view; result = c.search.new.desk.ranking; page = c.search.new.desk.page; eye = c.search.new.eye })
    (index_later g.F.LogFile g.V.Seal.Sealed.tells g.V.Seal.Sealed.bytes g.V.Vault.held sound h c.self.inside.ledger.journal c.show_all-shown.new.journal c.self.inside.ledger.stock shown c.self.inside.view c.show_all-shown.new.view c.show_all-shown.ensures.some next is)
    c.search.result
    (shown_on g.F.LogFile g.V.Seal.Sealed.bytes sound h shown next.0 c.self.inside.ledger.journal c.show_all-shown.new.journal c.self.inside.view c.show_all-shown.new.view is.follows next.1 c.show_all-shown.ensures.some)
    (still_all g.F.LogFile g.V.Seal.Sealed.bytes sound h shown next.0 c.self.inside.ledger.journal c.show_all-shown.new.journal c.self.inside.view c.show_all-shown.new.view is.follows next.1 c.show_all-shown.ensures.some)
    (record {
      at = c.search.ensures.at;
      differ = λ ne. (c.search.ensures.differ ne).0;
      searched = c.search.ensures.searched;
      answered = c.search.ensures.answered;
    }))

pub returns-clause-differ : goal.returns-clause-differ
returns-clause-differ g c =
    let is = c.self.invariant.2 in
    let next = c.show_all-shown.ensures.follows false c.self.invariant.0 c.self.invariant.1 is.follows in
    let same : c.show_all-shown.new.view.params.d ≡ c.args.self.now.kept.journal.log.params.d =
    ap (λ p. p.d) (next.1.shows.index.0 ∙ ap (λ l. l.params) c.show_all-shown.ensures.some.log) ∙ ap (λ (i : HolderView _ _ _ _). i.kept.journal.log.params.d) c.self.view_is in
    subst (λ (d : ℕ). length c.args.ask.now.vector ≢ d → IsErrOf c.search.result (Dimension (length c.args.ask.now.vector) d) × (c.search.new.eye ≡ c.args.self.now.eye)) same
    (λ ne. ((c.search.ensures.differ ne).0, (c.search.ensures.differ ne).1 ∙ ap (λ (i : HolderView _ _ _ _). i.eye) c.self.view_is))

pub returns-clause-searched : goal.returns-clause-searched
returns-clause-searched g c width =
    let is = c.self.invariant.2 in
    let next = c.show_all-shown.ensures.follows false c.self.invariant.0 c.self.invariant.1 is.follows in
    let same : c.show_all-shown.new.view.params.d ≡ c.args.self.now.kept.journal.log.params.d =
    ap (λ p. p.d) (next.1.shows.index.0 ∙ ap (λ l. l.params) c.show_all-shown.ensures.some.log) ∙ ap (λ (i : HolderView _ _ _ _). i.kept.journal.log.params.d) c.self.view_is in
    subst (λ (i : HolderView _ _ _ _). IsSearched g.V.Seal.Sealed.tells g.V.Seal.Sealed.bytes (quest_in c.show_all-shown.new.view c.args.ask.now) (from_near c.show_all-shown.new.view c.args.ask.now (standing_of g.E.Eye.reads g.E.Eye.faults i)) (standing_of g.E.Eye.reads g.E.Eye.faults (record { kept = kept_of c.show_all-shown.new.journal c.self.inside.ledger.stock c.show_all-shown.new.view; result = c.search.new.desk.ranking; page = c.search.new.desk.page; eye = c.search.new.eye })) c.search.result) c.self.view_is
    (c.search.ensures.searched (width ∙ sym same))
