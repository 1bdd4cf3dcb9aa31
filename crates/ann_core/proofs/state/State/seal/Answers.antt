use Rattle.std.proofs.Common.{◌≡◌, ◌∙◌, ◌+◌, ◌/◌, ◌++◌, ◌∷◌, [], true, List, ℕ, length, sym, ap, subst, arith}
use Rattle.std.specs.Prelude.{Option, MatchOption, None}
use Rattle.std.proofs.lemmas.List.{map-append}
use Rattle.std.specs.Arc.{arc_value}
use Rattle.std.specs.Option.{option_map}
use Rattle.std.specs.declared.alloc.Global.{Global}
use Rattle.std.specs.declared.sync.Arc.{Arc}
use Rattle.ann_segment.specs.Segment.{SegmentView}
use Rattle.ann_vault.specs.Seal.{seal_bytes}
use Rattle.ann_vault.specs.declared.shelf.MemorySeal.{MemorySeal}
use Rattle.ann_core.specs.Core.{CoreView, ComesTo, seen}
use Rattle.ann_core_laws.specs.State.{open_begin}
use Rattle.ann_core_laws.specs.Events.{seal}
use Rattle.ann_core_laws.specs.declared.step.Step.TheVariants.{Done}
use Rattle.ann_core.specs.Kept.{Text, text_of, texts_of}
use Rattle.ann_core.specs.Made.{IsMadeBy, are_finished}
use Rattle.ann_core.proofs.Merges.{seal_early, seal_done, text_with, text_in_segment}
use Rattle.ann_core.proofs.state.State.seal.Goals as goal

pub returns-then-not-all_finished-clause-comes : goal.returns-then-not-all_finished-clause-comes
returns-then-not-all_finished-clause-comes g c = λ index state core.
    let v : CoreView = seen c.args.self.now in
    let made : IsMadeBy index state c.in-Some.segment.value = subst (λ (o : Option (Arc (SegmentView MemorySeal) Global)). MatchOption (option_map arc_value o) (open_begin index state ≡ None) (IsMadeBy index state)) c.in-Some.is (c.in_ok-segment.ensures index state core) in
    let size : (length c.in-Some.segment.value.items + 255) / 256 ≡ c.pieces_of.result = sym (c.pieces_of.ensures.count ∙ ap (λ (s : SegmentView MemorySeal). (length s.items + 255) / 256) c.deref-2.ensures) in
    seal_early index v state core c.in-Some.segment.value made
    (ap (λ (n : ℕ). are_finished v.pieces n) size ∙ ap (λ (t : List ℕ). are_finished t c.pieces_of.result) (sym c.deref.ensures.value) ∙ sym c.all_finished.ensures ∙ c.if-not-all_finished.true)

pub returns-clause-comes : goal.returns-clause-comes
returns-clause-comes g c = λ index state core.
    let v : CoreView = seen c.args.self.now in
    let made : IsMadeBy index state c.in-Some.segment.value = subst (λ (o : Option (Arc (SegmentView MemorySeal) Global)). MatchOption (option_map arc_value o) (open_begin index state ≡ None) (IsMadeBy index state)) c.in-Some.is (c.in_ok-segment.ensures index state core) in
    let size : (length c.in-Some.segment.value.items + 255) / 256 ≡ c.pieces_of.result = sym (c.pieces_of.ensures.count ∙ ap (λ (s : SegmentView MemorySeal). (length s.items + 255) / 256) c.deref-2.ensures) in
    let all = ap (λ (n : ℕ). are_finished v.pieces n) size ∙ ap (λ (t : List ℕ). are_finished t c.pieces_of.result) (sym c.deref.ensures.value) ∙ sym c.all_finished.ensures ∙ c.if-not-all_finished.false in
    let small = c.pieces_of.ensures.small in
    let same : length c.deref-2.result.now.items ≡ length c.in-Some.segment.value.items = ap (λ (x : SegmentView MemorySeal). length x.items) c.deref-2.ensures in
    let number : c.number.result ≡ c.in-Some.segment.value.number = c.number.ensures ∙ ap (λ (x : SegmentView MemorySeal). x.number) c.deref-4.ensures in
    let bytes : c.in_ok-bytes.bytes.items ≡ seal_bytes c.in-Some.segment.value.seal =
    c.in_ok-bytes.ensures.items_if_clones_equal (λ _ _ e. e) ∙ c.bytes.ensures ∙ ap seal_bytes (c.seal.ensures ∙ ap (λ (x : SegmentView MemorySeal). x.seal) c.deref-3.ensures) in
    let one : Text = record { number = c.number.result; bytes = c.in_ok-bytes.bytes.items } in
    let is : one ≡ text_in_segment c.in-Some.segment.value =
    ap (λ (n : ℕ). text_with n c.in_ok-bytes.bytes.items) number ∙ ap (text_with c.in-Some.segment.value.number) bytes in
    let kept : texts_of c.push.new.self.items ≡ v.kept ++ text_in_segment c.in-Some.segment.value ∷ [] =
    ap texts_of c.in_ok-push.ensures.items ∙ map-append text_of c.args.self.now.kept.items _ ∙ ap (λ (t : Text). v.kept ++ t ∷ []) is in
    subst (λ (t : List Text). ComesTo index (seal index state (open_begin index state)) (record v { sealed = true; kept = t }) Done) (sym kept)
    (seal_done index v state core c.in-Some.segment.value made all c.if-self.false c.known.ensures (omega (arith, small, same)))
