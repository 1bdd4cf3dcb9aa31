use Rattle.std.proofs.Common.{◌≡◌, ◌+◌, List, ℕ, length, refl, sym, ap, subst, arith}
use Rattle.std.specs.Prelude.{Option}
use Rattle.ann_types.specs.declared.entry.Entry.{Entry}
use Rattle.ann_pq.specs.Codebook.{CodebookView}
use Rattle.ann_resume.specs.Resumed.{IsResumedBy, IsResumed, HoldsAtStart, position_of}
use Rattle.ann_vault.specs.Seal.{seal_bytes}
use Rattle.ann_core.proofs.Opening.{listed, opened_is}
use Rattle.ann_core.proofs.prefix.resume_list.Goals as goal

pub state_of-state-requires-clause-known : goal.state_of-state-requires-clause-known
state_of-state-requires-clause-known c =
    let w = c.requires.known.1 in
    (c.requires.known.0, c.args.params.now, listed c.requires.known.0 c.args.params.now c.args.entries.items c.args.judged c.args.merged w, w.opened)

pub resume-requires-clause-start : goal.resume-requires-clause-start
resume-requires-clause-start c =
    let held = c.requires.known.0 in
    let w = c.requires.known.1 in
    (c.state_of-state.ensures held c.args.params.now (listed held c.args.params.now c.args.entries.items c.args.judged c.args.merged w) w.opened).can_start

pub resume-requires-clause-room : goal.resume-requires-clause-room
resume-requires-clause-room c =
    let held = c.requires.known.0 in
    let w = c.requires.known.1 in
    let st = c.state_of-state.ensures held c.args.params.now (listed held c.args.params.now c.args.entries.items c.args.judged c.args.merged w) w.opened in
    let all : position_of c.state_of-state.result.start + length c.state_of-state.result.entries.items ≡ 0 + length c.args.entries.items = st.long in
    let many = ap (λ (t : List Entry). length t) c.deref.ensures.value in
    let size = c.args.entries.ok.0 in
    omega (arith, all, many, size)

pub resume-requires-clause-list : goal.resume-requires-clause-list
resume-requires-clause-list c =
    let held = c.requires.known.0 in
    let w = c.requires.known.1 in
    let st = c.state_of-state.ensures held c.args.params.now (listed held c.args.params.now c.args.entries.items c.args.judged c.args.merged w) w.opened in
    let r = st.resumable c.in_ok-copy.field-0 in (
      r.left,
      subst (λ (t : List Entry). IsResumedBy c.args.params.now c.in_ok-copy.field-0 c.state_of-state.result.start t c.deref-2.result.now r.left) (sym c.deref.ensures.value)
          (subst (λ (t : List (Option ℕ)). IsResumedBy c.args.params.now c.in_ok-copy.field-0 c.state_of-state.result.start c.state_of-state.result.entries.items t r.left) (sym c.deref-2.ensures.value) r.resumed),
    )

pub returns : goal.returns
returns c = λ held w.
    let st = c.state_of-state.ensures held c.args.params.now (listed held c.args.params.now c.args.entries.items c.args.judged c.args.merged w) w.opened in
    let book : CodebookView = c.args.book.now in
    let same = c.in_ok-copy.ensures in
    let r = st.resumable book in
    let by : IsResumedBy c.args.params.now c.in_ok-copy.field-0 c.state_of-state.result.start c.deref.result.now c.deref-2.result.now r.left =
    subst (λ (k : CodebookView). IsResumedBy c.args.params.now k c.state_of-state.result.start c.deref.result.now c.deref-2.result.now r.left) (sym same)
    (subst (λ (t : List Entry). IsResumedBy c.args.params.now book c.state_of-state.result.start t c.deref-2.result.now r.left) (sym c.deref.ensures.value)
    (subst (λ (t : List (Option ℕ)). IsResumedBy c.args.params.now book c.state_of-state.result.start c.state_of-state.result.entries.items t r.left) (sym c.deref-2.ensures.value) r.resumed)) in
    opened_is held c.args.params.now c.args.entries.items c.args.judged c.args.merged w book c.state_of-state.result st (record { view = c.in_ok-view.view; begun = c.state_of-state.result.begun })
    (subst (λ (k : CodebookView). IsResumed c.args.params.now k c.state_of-state.result.start c.in_ok-view.view) same c.in_ok-view.ensures.index)
    (c.in_ok-view.ensures.stands r.left by)
    (λ h. c.in_ok-view.ensures.holds r.left by (subst (λ (k : CodebookView). HoldsAtStart seal_bytes c.args.params.now k.book c.state_of-state.result.start r.left.base.graph) (sym same) h))
    refl
