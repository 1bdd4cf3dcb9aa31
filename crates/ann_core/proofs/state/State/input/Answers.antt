use Rattle.std.proofs.Common.{List, subst}
use Rattle.ann_types.specs.declared.entry.Entry.{Entry}
use Rattle.ann_pq.specs.Codebook.{CodebookView}
use Rattle.ann_core_laws.specs.State.{last_end}
use Rattle.ann_core.specs.Core.{CoreView, seen}
use Rattle.ann_core.specs.Kept.{texts_of, held_for}
use Rattle.ann_core.specs.Opened.{IsOpened}
use Rattle.ann_core.specs.declared.kept.Kept.{Kept}
use Rattle.ann_core.proofs.Merges.{older, inputs}
use Rattle.ann_core.proofs.state.State.input.Goals as goal

pub of_begin-requires-clause-older : goal.of_begin-requires-clause-older
of_begin-requires-clause-older c =
    older c.args.self.now.params c.deref.result.now c.deref-3.result.now (held_for (texts_of c.deref-2.result.now) (last_end c.deref-3.result.now)) c.in_ok-opened.opened c.in-Some.position c.in_ok-opened.ensures c.in-Some.is

pub returns : goal.returns
returns c = λ index state core.
    let v : CoreView = seen c.args.self.now in
    let is : IsOpened (held_for v.kept (last_end v.list)) v.params v.book v.list c.in_ok-opened.opened =
    subst (λ (t : List Entry). IsOpened (held_for v.kept (last_end t)) v.params v.book t c.in_ok-opened.opened) c.deref-3.ensures.value
    (subst (λ (k : CodebookView). IsOpened (held_for v.kept (last_end c.deref-3.result.now)) v.params k c.deref-3.result.now c.in_ok-opened.opened) c.deref.ensures
    (subst (λ (t : List Kept). IsOpened (held_for (texts_of t) (last_end c.deref-3.result.now)) v.params c.deref.result.now c.deref-3.result.now c.in_ok-opened.opened) c.deref-2.ensures.value c.in_ok-opened.ensures)) in
    inputs index v state core c.in_ok-opened.opened is c.in_ok-input.input c.in_ok-input.ensures.job c.in_ok-input.ensures.lti
