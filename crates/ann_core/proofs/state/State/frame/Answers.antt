use Rattle.std.proofs.Common.{◌≡◌, ◌∙◌, ◌++◌, List, length, sym, ap, subst, arith, true}
use Rattle.std.specs.List.{list_any}
use Rattle.ann_types.specs.Index.{Index}
use Rattle.ann_types.specs.Legal.{is_legal}
use Rattle.ann_types.specs.declared.entry.Entry.{Entry}
use Rattle.ann_reopen.specs.Judged.{IsRefused}
use Rattle.ann_core_laws.specs.State.{logged}
use Rattle.ann_core_laws.specs.Events.{frame, is_begin}
use Rattle.ann_core_laws.specs.declared.step.Step.TheVariants.{Done}
use Rattle.ann_core.specs.Core.{CoreView, ComesTo, seen, with_list}
use Rattle.ann_core.proofs.Coming.{frame_done, frame_refused, illegal, some_of}
use Rattle.ann_core.proofs.state.State.frame.Goals as goal

pub returns-in-Ok-clause-comes : goal.returns-in-Ok-clause-comes
returns-in-Ok-clause-comes c = λ index state core.
    let v : CoreView = seen c.args.self.now in
    let es : List Entry = c.args.entries.now in
    let first : c.copy_all.new.out.items ≡ v.list = c.in_ok-copy_all.ensures ∙ ap (λ (t : List Entry). t ++ c.deref.result.now) c.new-list.ensures.items ∙ c.deref.ensures.value in
    let items : c.copy_all-2.new.out.items ≡ v.list ++ es = c.in_ok-copy_all-2.ensures ∙ ap (λ (t : List Entry). t ++ es) first in
    let same = ap (λ (i : Index). i.params) core.index_is in
    let legal : is_legal index (logged (v.list ++ es)) ≡ true = ap (λ (t : List Entry). is_legal index (logged t)) (sym (c.deref-2.ensures.value ∙ items)) ∙ (c.in-Ok.ensures index same).legal.entries in
    let now : seen c.append.new.self ≡ with_list v (v.list ++ es) (list_any is_begin es) =
    c.append.ensures ∙ ap (λ (t : List Entry). with_list v t c.has_begin.result) items ∙ ap (with_list v (v.list ++ es)) c.has_begin.ensures in
    subst (λ (w : CoreView). ComesTo index (frame index state es) w Done) (sym now)
    (frame_done index v state core es (some_of (length es) c.is_empty.result c.is_empty.ensures c.if-is_empty.false) (omega arith) (sym c.has_end.ensures ∙ c.if-has_end.false) legal)

pub returns-in-Err-BadLog-clause-comes : goal.returns-in-Err-BadLog-clause-comes
returns-in-Err-BadLog-clause-comes c = λ index state core.
    let v : CoreView = seen c.args.self.now in
    let es : List Entry = c.args.entries.now in
    let first : c.copy_all.new.out.items ≡ v.list = c.in_ok-copy_all.ensures ∙ ap (λ (t : List Entry). t ++ c.deref.result.now) c.new-list.ensures.items ∙ c.deref.ensures.value in
    let items : c.copy_all-2.new.out.items ≡ v.list ++ es = c.in_ok-copy_all-2.ensures ∙ ap (λ (t : List Entry). t ++ es) first in
    let same = ap (λ (i : Index). i.params) core.index_is in
    frame_refused index v state core es
    (ap (λ (t : List Entry). is_legal index (logged t)) (sym (c.deref-2.ensures.value ∙ items)) ∙ illegal index c.deref-2.result.now c.in-Err-BadLog.field-0-0 (subst (IsRefused index (logged c.deref-2.result.now)) c.in-Err-BadLog.field-0-is (c.in-Err-BadLog.ensures index same)))
