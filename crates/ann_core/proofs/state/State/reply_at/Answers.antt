use Rattle.std.proofs.Common.{ℕ, List, take, length, ap, subst, arith}
use Rattle.ann_types.specs.declared.entry.Entry.{Entry}
use Rattle.ann_pq.specs.Codebook.{CodebookView}
use Rattle.ann_core_laws.specs.State.{last_end}
use Rattle.ann_core.specs.Core.{CoreView, seen}
use Rattle.ann_core.specs.Kept.{texts_of, held_for}
use Rattle.ann_core.specs.Opened.{IsOpened}
use Rattle.ann_core.specs.declared.kept.Kept.{Kept}
use Rattle.ann_core.proofs.Keeping.{replied}
use Rattle.ann_core.proofs.state.State.reply_at.Goals as goal

pub returns : goal.returns
returns c = λ index state core pin.
    let v : CoreView = seen c.args.self.now in
    let n = c.args.pin in
    let many = ap (λ (t : List ℕ). length t) c.bytes.ensures.components in
    let want = c.from.ensures in
    let is : IsOpened (held_for v.kept (last_end (take n v.list))) v.params v.book (take n v.list) c.in_ok-opened.opened =
    subst (λ (t : List Entry). IsOpened (held_for v.kept (last_end (take n t))) v.params v.book (take n t) c.in_ok-opened.opened) c.deref.ensures.value
    (subst (λ (k : CodebookView). IsOpened (held_for v.kept (last_end (take n c.deref.result.now))) v.params k (take n c.deref.result.now) c.in_ok-opened.opened) c.deref-2.ensures
    (subst (λ (t : List Kept). IsOpened (held_for (texts_of t) (last_end (take n c.deref.result.now))) v.params c.deref-2.result.now (take n c.deref.result.now) c.in_ok-opened.opened) c.deref-3.ensures.value c.in_ok-opened.ensures)) in
    replied index v state core n pin c.args.ask.now (omega (arith, many, want)) c.in_ok-opened.opened is c.in_ok-hits.hits (λ h s g. c.in_ok-hits.ensures h s g)
