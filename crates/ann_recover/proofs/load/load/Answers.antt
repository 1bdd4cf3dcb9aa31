use Rattle.std.proofs.Common.{◌≡◌, refl, sym, ap, subst, List, ℕ, ◌+◌, length, arith}
use Rattle.std.specs.Prelude.{Option}
use Rattle.ann_base.proofs.Results.{err_is}
use Rattle.ann_types.specs.declared.entry.Entry.{Entry}
use Rattle.ann_pq.specs.Codebook.{CodebookView}
use Rattle.ann_resume.specs.Resumed.{IsResumedBy, IsResumed, HoldsAtStart, position_of}
use Rattle.ann_state.specs.List.{IsListState}
use Rattle.ann_recover.specs.Loaded.{IsLoadRefused}
use Rattle.ann_recover.proofs.Counting.{list_counted}
use Rattle.ann_recover.proofs.Loading.{merge_refused, loaded_is}
use Rattle.ann_recover.proofs.Moved.{merged_at}
use Rattle.ann_recover.proofs.load.load.Goals as goal

pub returns-in_err-merged-clause-refused : goal.returns-in_err-merged-clause-refused
returns-in_err-merged-clause-refused g c =
    err_is c.from_residual-in_err-merged.result (IsLoadRefused g.V.Seal.Sealed.tells g.V.Seal.Sealed.bytes (g.V.Vault.held c.args.vault.now) c.args.params.now c.args.base.now c.args.entries.items) _ c.from_residual-in_err-merged.ensures.1
    (merge_refused g.V.Seal.Sealed.tells g.V.Seal.Sealed.bytes (g.V.Vault.held c.args.vault.now) c.args.params.now c.args.base.now c.args.entries.items c.in_ok-list.list (subst (λ (t : List Entry). IsListState g.V.Seal.Sealed.tells g.V.Seal.Sealed.bytes (g.V.Vault.held c.args.vault.now) c.args.params.now c.args.base.now t c.in_ok-list.list) c.deref.ensures.value c.in_ok-list.ensures.read) (g.V.Vault.held c.read_list.new.vault) c.in_ok-list.ensures.same _ c.in_err-merged.ensures.refused)

pub returns-in_err-merged-clause-cause : goal.returns-in_err-merged-clause-cause
returns-in_err-merged-clause-cause g c =
    list_counted c.in_err-merged.field-0.0 c.from_residual-in_err-merged.result _ _ _ c.from_residual-in_err-merged.ensures.1 c.in_ok-list.ensures.cause.calm c.in_err-merged.ensures.cause.failed c.in_err-merged.ensures.cause.refused

pub state_of-state-requires-clause-known : goal.state_of-state-requires-clause-known
state_of-state-requires-clause-known g c = (
  g.V.Vault.held c.args.vault.now,
  c.args.params.now,
  (subst (λ (t : List Entry). IsListState g.V.Seal.Sealed.tells g.V.Seal.Sealed.bytes (g.V.Vault.held c.args.vault.now) c.args.params.now c.args.base.now t c.in_ok-list.list) c.deref.ensures.value c.in_ok-list.ensures.read),
  merged_at g.V.Seal.Sealed.tells g.V.Seal.Sealed.bytes (g.V.Vault.held c.args.vault.now) (g.V.Vault.held c.read_list.new.vault) c.in_ok-list.ensures.same c.args.params.now c.in_ok-list.list.judged.merge c.in_ok-merged.merged c.in_ok-merged.ensures.opened,
)

pub resume-requires-clause-start : goal.resume-requires-clause-start
resume-requires-clause-start g c =
    (c.state_of-state.ensures (g.V.Vault.held c.args.vault.now) c.args.params.now (subst (λ (t : List Entry). IsListState g.V.Seal.Sealed.tells g.V.Seal.Sealed.bytes (g.V.Vault.held c.args.vault.now) c.args.params.now c.args.base.now t c.in_ok-list.list) c.deref.ensures.value c.in_ok-list.ensures.read)
    (merged_at g.V.Seal.Sealed.tells g.V.Seal.Sealed.bytes (g.V.Vault.held c.args.vault.now) (g.V.Vault.held c.read_list.new.vault) c.in_ok-list.ensures.same c.args.params.now c.in_ok-list.list.judged.merge c.in_ok-merged.merged c.in_ok-merged.ensures.opened)).can_start

pub resume-requires-clause-room : goal.resume-requires-clause-room
resume-requires-clause-room g c =
    let st = c.state_of-state.ensures (g.V.Vault.held c.args.vault.now) c.args.params.now (subst (λ (t : List Entry). IsListState g.V.Seal.Sealed.tells g.V.Seal.Sealed.bytes (g.V.Vault.held c.args.vault.now) c.args.params.now c.args.base.now t c.in_ok-list.list) c.deref.ensures.value c.in_ok-list.ensures.read)
    (merged_at g.V.Seal.Sealed.tells g.V.Seal.Sealed.bytes (g.V.Vault.held c.args.vault.now) (g.V.Vault.held c.read_list.new.vault) c.in_ok-list.ensures.same c.args.params.now c.in_ok-list.list.judged.merge c.in_ok-merged.merged c.in_ok-merged.ensures.opened) in
    let size = c.args.entries.ok.0 in
    let room = c.requires.room in
    let all : position_of c.state_of-state.result.start + length c.state_of-state.result.entries.items ≡ c.args.base.now.position + length c.args.entries.items = st.long in
    let many = ap (λ (t : List Entry). length t) c.deref-2.ensures.value in
    omega (arith, all, room, size, many)

pub resume-requires-clause-list : goal.resume-requires-clause-list
resume-requires-clause-list g c =
    let st = c.state_of-state.ensures (g.V.Vault.held c.args.vault.now) c.args.params.now (subst (λ (t : List Entry). IsListState g.V.Seal.Sealed.tells g.V.Seal.Sealed.bytes (g.V.Vault.held c.args.vault.now) c.args.params.now c.args.base.now t c.in_ok-list.list) c.deref.ensures.value c.in_ok-list.ensures.read)
    (merged_at g.V.Seal.Sealed.tells g.V.Seal.Sealed.bytes (g.V.Vault.held c.args.vault.now) (g.V.Vault.held c.read_list.new.vault) c.in_ok-list.ensures.same c.args.params.now c.in_ok-list.list.judged.merge c.in_ok-merged.merged c.in_ok-merged.ensures.opened) in
    let r = st.resumable c.in_ok-copy.field-0 in (
      r.left,
      subst (λ (t : List Entry). IsResumedBy c.args.params.now c.in_ok-copy.field-0 c.state_of-state.result.start t c.deref-3.result.now r.left) (sym c.deref-2.ensures.value)
          (subst (λ (t : List (Option ℕ)). IsResumedBy c.args.params.now c.in_ok-copy.field-0 c.state_of-state.result.start c.state_of-state.result.entries.items t r.left) (sym c.deref-3.ensures.value) r.resumed),
    )

pub returns-clause-loaded : goal.returns-clause-loaded
returns-clause-loaded g c =
    let st = c.state_of-state.ensures (g.V.Vault.held c.args.vault.now) c.args.params.now (subst (λ (t : List Entry). IsListState g.V.Seal.Sealed.tells g.V.Seal.Sealed.bytes (g.V.Vault.held c.args.vault.now) c.args.params.now c.args.base.now t c.in_ok-list.list) c.deref.ensures.value c.in_ok-list.ensures.read)
    (merged_at g.V.Seal.Sealed.tells g.V.Seal.Sealed.bytes (g.V.Vault.held c.args.vault.now) (g.V.Vault.held c.read_list.new.vault) c.in_ok-list.ensures.same c.args.params.now c.in_ok-list.list.judged.merge c.in_ok-merged.merged c.in_ok-merged.ensures.opened) in
    let book : CodebookView = c.args.book.now in
    let same = c.in_ok-copy.ensures in
    let r = st.resumable book in
    let by : IsResumedBy c.args.params.now c.in_ok-copy.field-0 c.state_of-state.result.start c.deref-2.result.now c.deref-3.result.now r.left =
    subst (λ (k : CodebookView). IsResumedBy c.args.params.now k c.state_of-state.result.start c.deref-2.result.now c.deref-3.result.now r.left) (sym same)
    (subst (λ (t : List Entry). IsResumedBy c.args.params.now book c.state_of-state.result.start t c.deref-3.result.now r.left) (sym c.deref-2.ensures.value)
    (subst (λ (t : List (Option ℕ)). IsResumedBy c.args.params.now book c.state_of-state.result.start c.state_of-state.result.entries.items t r.left) (sym c.deref-3.ensures.value) r.resumed)) in
    loaded_is g.V.Seal.Sealed.tells g.V.Seal.Sealed.bytes (g.V.Vault.held c.args.vault.now) c.args.params.now book c.args.base.now c.args.entries.items c.in_ok-list.list (subst (λ (t : List Entry). IsListState g.V.Seal.Sealed.tells g.V.Seal.Sealed.bytes (g.V.Vault.held c.args.vault.now) c.args.params.now c.args.base.now t c.in_ok-list.list) c.deref.ensures.value c.in_ok-list.ensures.read) c.state_of-state.result st c.in_ok-view.view
    (subst (λ (k : CodebookView). IsResumed c.args.params.now k c.state_of-state.result.start c.in_ok-view.view) same c.in_ok-view.ensures.index)
    (c.in_ok-view.ensures.stands r.left by)
    (λ w. c.in_ok-view.ensures.holds r.left by (subst (λ (k : CodebookView). HoldsAtStart g.V.Seal.Sealed.bytes c.args.params.now k.book c.state_of-state.result.start r.left.base.graph) (sym same) w))
    _ refl refl refl refl refl
