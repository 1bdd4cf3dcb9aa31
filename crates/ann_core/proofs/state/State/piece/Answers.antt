use Rattle.std.proofs.Common.{◌≡◌, ◌∙◌, ◌+◌, ◌/◌, List, ℕ, length, sym, ap, subst, arith}
use Rattle.std.specs.Prelude.{Option, MatchOption, None}
use Rattle.std.specs.Arc.{arc_value}
use Rattle.std.specs.Option.{option_map}
use Rattle.std.specs.declared.alloc.Global.{Global}
use Rattle.std.specs.declared.sync.Arc.{Arc}
use Rattle.ann_segment.specs.Segment.{SegmentView}
use Rattle.ann_vault.specs.declared.shelf.MemorySeal.{MemorySeal}
use Rattle.ann_core.specs.Core.{CoreView, ComesTo, seen}
use Rattle.ann_core_laws.specs.State.{open_begin}
use Rattle.ann_core_laws.specs.Events.{piece}
use Rattle.ann_core_laws.specs.declared.step.Step.TheVariants.{Done}
use Rattle.ann_core.specs.Made.{IsMadeBy, is_finished_in}
use Rattle.ann_core.proofs.Merges.{piece_beyond, piece_again, piece_done}
use Rattle.ann_core.proofs.state.State.piece.Goals as goal

pub returns-then-number-pieces_of-clause-comes : goal.returns-then-number-pieces_of-clause-comes
returns-then-number-pieces_of-clause-comes g c = λ index state core.
    let made : IsMadeBy index state c.in-Some.segment.value = subst (λ (o : Option (Arc (SegmentView MemorySeal) Global)). MatchOption (option_map arc_value o) (open_begin index state ≡ None) (IsMadeBy index state)) c.in-Some.is (c.in_ok-segment.ensures index state core) in
    let size : (length c.in-Some.segment.value.items + 255) / 256 ≡ c.pieces_of.result = sym (c.pieces_of.ensures.count ∙ ap (λ (s : SegmentView MemorySeal). (length s.items + 255) / 256) c.deref.ensures) in
    let at = c.if-number-pieces_of.true in
    piece_beyond index (seen c.args.self.now) state core c.in-Some.segment.value made c.args.number (omega (arith, size, at))

pub returns-then-is_finished-clause-comes : goal.returns-then-is_finished-clause-comes
returns-then-is_finished-clause-comes g c = λ index state core.
    let made : IsMadeBy index state c.in-Some.segment.value = subst (λ (o : Option (Arc (SegmentView MemorySeal) Global)). MatchOption (option_map arc_value o) (open_begin index state ≡ None) (IsMadeBy index state)) c.in-Some.is (c.in_ok-segment.ensures index state core) in
    piece_again index (seen c.args.self.now) state core c.in-Some.segment.value made c.args.number
    (ap (λ (t : List ℕ). is_finished_in t c.args.number) (sym c.deref-2.ensures.value) ∙ sym c.is_finished.ensures ∙ c.if-is_finished.true)

pub returns-clause-comes : goal.returns-clause-comes
returns-clause-comes g c = λ index state core.
    let v : CoreView = seen c.args.self.now in
    let made : IsMadeBy index state c.in-Some.segment.value = subst (λ (o : Option (Arc (SegmentView MemorySeal) Global)). MatchOption (option_map arc_value o) (open_begin index state ≡ None) (IsMadeBy index state)) c.in-Some.is (c.in_ok-segment.ensures index state core) in
    let size : (length c.in-Some.segment.value.items + 255) / 256 ≡ c.pieces_of.result = sym (c.pieces_of.ensures.count ∙ ap (λ (s : SegmentView MemorySeal). (length s.items + 255) / 256) c.deref.ensures) in
    let at = c.if-number-pieces_of.false in
    subst (λ (t : List ℕ). ComesTo index (piece index state c.args.number (open_begin index state)) (record v { pieces = t }) Done) (sym c.in_ok-push.ensures.items)
    (piece_done index v state core c.in-Some.segment.value made c.args.number (omega (arith, size, at))
    (ap (λ (t : List ℕ). is_finished_in t c.args.number) (sym c.deref-2.ensures.value) ∙ sym c.is_finished.ensures ∙ c.if-is_finished.false))
