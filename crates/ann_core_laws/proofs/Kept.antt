-- The core facts after the other events.
use Rattle.std.proofs.Common.{◌≡◌, ◌∙◌, ◌≢◌, ℕ, ◌+◌, ◌*◌, ◌≤◌, ◌<◌, Bool, true, false, cond, eqb, not, ◌&&◌, ◌||◌, List, [], ◌∷◌, ◌++◌, set, take, filter, flat_map, length, slice_get, nat_lt, nat_le, refl, sym, ap, subst, arith, eqb-true}
use Rattle.std.specs.Prelude.{Option, Some, None, MatchOption, All, replicate, fold}
use Rattle.std.specs.List.{list_any, AllByRecursion}
use Rattle.std.proofs.lemmas.Bool.{false≢true, and_parts, or_parts, not-true, ltb-true}
use Rattle.std.proofs.lemmas.List.{take_all, length-append}
use Rattle.std.proofs.lemmas.List.Elements.{All-nil, All-push, All-set, All-weaker, All-replicate, All-from_recursion, recursion_from_All}
use Rattle.std.proofs.lemmas.Option.{slice_get-get_or}
use Rattle.std.proofs.Math.Seq.{get_or-append_seam}
use Rattle.ann_types.specs.Graph.{Point, Graph, empty_graph}
use Rattle.ann_types.specs.Order.{has}
use Rattle.ann_types.specs.Index.{Index}
use Rattle.ann_types.specs.Merge.{entered}
use Rattle.ann_types.specs.Fold.{Begun, State, merge_of, fold_of}
use Rattle.ann_types.specs.Legal.{is_legal}
use Rattle.ann_types.specs.Answer.{hits}
use Rattle.ann_types.specs.declared.ask.Ask.{Ask}
use Rattle.ann_types.specs.declared.entry.Entry.{Entry}
use Rattle.ann_types.specs.declared.entry.Entry.TheVariants.{Begin}
use Rattle.ann_types.proofs.Ordered.{has_append}
use Rattle.ann_types.proofs.Booleans.{same_true}
use Rattle.ann_laws.specs.Replays.{is_end}
use Rattle.ann_laws.proofs.Ended.{OpensAt, opens_at}
use Rattle.ann_core_laws.specs.State.{Piece, Kept, CoreState, first_state, readers, logged, last_end, graph_in, held_state, open_begin, segment_of, open_points, pieces_of, rows_of_piece, is_finished, all_finished, joined, of_begin, of_end, of_pin, in_use, is_kept}
use Rattle.ann_core_laws.specs.Events.{frame_end, may_append, appended, frame, refused, done, pin_of, with_pin, enter, leave, reply, with_piece, may_finish, piece, may_seal, with_segment, seal, ended, switch, without_segment, may_remove, remove, core_step, state_after}
use Rattle.ann_core_laws.specs.Facts.{HoldsEnd, made_graph, IsPieceOf, if_sealed, HoldsMerge, IsOfBegin, IsPin, CoreFacts}
use Rattle.ann_core_laws.specs.declared.event.Event.{Event}
use Rattle.ann_core_laws.specs.declared.event.Event.TheVariants as event
use Rattle.ann_core_laws.specs.declared.step.Step.{Step}
use Rattle.ann_core_laws.specs.declared.step.Step.TheVariants.{Answered}
use Rattle.ann_core_laws.proofs.Segments.{found_new, lacking, others_stay, holds_more, holds_less, held_is}
use Rattle.ann_core_laws.proofs.Pieces.{merge_entered, joined_is}
use Rattle.ann_core_laws.proofs.Appended.{kept_frame, kept_end}

-- ---- the first state

pub first_facts : (index : Index) → CoreFacts index first_state
first_facts index = record {
  legal = refl;
  shown = omega arith;
  list_held = tt;
  shown_held = tt;
  pins = All-replicate (IsPin index first_state) readers None tt;
  pieces = All-nil (IsPieceOf (made_graph index []).points);
  merge = refl;
  numbers = All-nil (λ (k : Kept). IsOfBegin [] k.number);
}

-- ---- what is shown, and pins

-- what is true of the open merge doesn't speak of what is shown, of pins or of pieces
merge_stays : (index : Index) (c : CoreState) (shown : ℕ) (pins : List (Option ℕ)) (pieces : List Piece) (o : Option Begun) → HoldsMerge index c o → HoldsMerge index (record c { shown = shown; pins = pins; pieces = pieces }) o
merge_stays index c shown pins pieces None w = w
merge_stays index c shown pins pieces (Some b) w = w

shown_pin : (index : Index) (c : CoreState) → CoreFacts index c → (pin : Option ℕ) → IsPin index c pin → IsPin index (record c { shown = length c.list }) pin
shown_pin index c facts None w = tt
shown_pin index c facts (Some n) (l, w) = (let within = facts.shown in omega (arith, l, within), w)

pub kept_show : (index : Index) (c : CoreState) → CoreFacts index c → CoreFacts index (record c { shown = length c.list })
kept_show index c facts = record {
  legal = facts.legal;
  shown = omega arith;
  list_held = facts.list_held;
  shown_held = subst (HoldsEnd index c.kept) (sym (take_all (length c.list) c.list (omega arith))) facts.list_held;
  pins = All-weaker (IsPin index c) (IsPin index (record c { shown = length c.list })) (shown_pin index c facts) c.pins facts.pins;
  pieces = facts.pieces;
  merge = merge_stays index c (length c.list) c.pins c.pieces (open_begin index c) facts.merge;
  numbers = facts.numbers;
}

pin_same : (index : Index) (c : CoreState) (pins : List (Option ℕ)) (pin : Option ℕ) → IsPin index c pin → IsPin index (record c { pins = pins }) pin
pin_same index c pins None w = tt
pin_same index c pins (Some n) w = w

kept_pin : (index : Index) (c : CoreState) (reader : ℕ) (pin : Option ℕ) → CoreFacts index c → IsPin index c pin → CoreFacts index (with_pin c reader pin)
kept_pin index c reader pin facts w = record {
  legal = facts.legal;
  shown = facts.shown;
  list_held = facts.list_held;
  shown_held = facts.shown_held;
  pins = All-weaker (IsPin index c) (IsPin index (with_pin c reader pin)) (pin_same index c (set c.pins reader pin)) (set c.pins reader pin) (All-set (IsPin index c) c.pins reader pin w facts.pins);
  pieces = facts.pieces;
  merge = merge_stays index c c.shown (set c.pins reader pin) c.pieces (open_begin index c) facts.merge;
  numbers = facts.numbers;
}

kept_enter : (index : Index) (c : CoreState) (reader : ℕ) (found : Option (Option ℕ)) → CoreFacts index c → CoreFacts index (enter c reader found).0
kept_enter index c reader None facts = facts
kept_enter index c reader (Some None) facts = kept_pin index c reader (Some c.shown) facts (omega arith, facts.shown_held)
kept_enter index c reader (Some (Some n)) facts = facts

kept_leave : (index : Index) (c : CoreState) (reader : ℕ) (found : Option (Option ℕ)) → CoreFacts index c → CoreFacts index (leave c reader found).0
kept_leave index c reader None facts = facts
kept_leave index c reader (Some None) facts = facts
kept_leave index c reader (Some (Some n)) facts = kept_pin index c reader None facts tt

either_stays : (index : Index) (c : CoreState) (step : Step) (t : Bool) → CoreFacts index c → CoreFacts index (cond t (c, step) (refused c)).0
either_stays index c step true facts = facts
either_stays index c step false facts = facts

kept_reply : (index : Index) (c : CoreState) (ask : Ask) (found : Option (Option ℕ)) → CoreFacts index c → CoreFacts index (reply index c ask found).0
kept_reply index c ask None facts = facts
kept_reply index c ask (Some None) facts = facts
kept_reply index c ask (Some (Some n)) facts =
    either_stays index c (Answered n (hits index (held_state index c.kept (take n c.list)) ask.k ask.l ask.vector)) (eqb (length ask.vector) index.params.d) facts

-- ---- pieces

pin_pieces : (index : Index) (c : CoreState) (pieces : List Piece) (pin : Option ℕ) → IsPin index c pin → IsPin index (record c { pieces = pieces }) pin
pin_pieces index c pieces None w = tt
pin_pieces index c pieces (Some n) w = w

-- the merge that starts from what the kept segment holds is the list's
pub points_are : (index : Index) (c : CoreState) → CoreFacts index c → open_points index c ≡ (made_graph index c.list).points
points_are index c facts = ap (λ (s : State). (merge_of index s s.begun).points) (held_is index c.kept c.list facts.list_held)

pub kept_piece : (index : Index) (c : CoreState) (number : ℕ) → CoreFacts index c → may_finish c (open_points index c) number ≡ true → CoreFacts index (with_piece c (open_points index c) number)
kept_piece index c number facts may =
    let one : Piece = record { number = number; rows = rows_of_piece (open_points index c) number } in
    let below = ltb-true number (pieces_of (open_points index c)) (and_parts (nat_lt number (pieces_of (open_points index c))) (not (is_finished c.pieces number)) may).0 in
    let same = points_are index c facts in
    record {
      legal = facts.legal;
      shown = facts.shown;
      list_held = facts.list_held;
      shown_held = facts.shown_held;
      pins = All-weaker (IsPin index c) (IsPin index (with_piece c (open_points index c) number)) (pin_pieces index c (c.pieces ++ one ∷ [])) c.pins facts.pins;
      pieces = All-push (IsPieceOf (made_graph index c.list).points) c.pieces one facts.pieces (record {
        number = subst (λ (t : List Point). number < pieces_of t) same below;
        rows = ap (λ (t : List Point). rows_of_piece t number) same;
      });
      merge = merge_stays index c c.shown c.pins (c.pieces ++ one ∷ []) (open_begin index c) facts.merge;
      numbers = facts.numbers;
    }

finish_or : (index : Index) (c : CoreState) (number : ℕ) (o : Option Begun) → CoreFacts index c → CoreFacts index (piece index c number o).0
finish_or index c number None facts = facts
finish_or index c number (Some b) facts =
    elim (may_finish c (open_points index c) number) as (λ t. may_finish c (open_points index c) number ≡ t → CoreFacts index (cond t (done (with_piece c (open_points index c) number)) (refused c)).0) [
      | true ↦ λ may. kept_piece index c number facts may
      | false ↦ λ _. facts
    ] refl

-- ---- the segment of a merge

seam : (xs : List Entry) (y : Entry) (ys : List Entry) → slice_get (xs ++ y ∷ ys) (length xs) ≡ Some y
seam xs y ys = slice_get-get_or (xs ++ y ∷ ys) (length xs) y (let n = length-append xs (y ∷ ys) in omega (arith, n)) ∙ ap (λ (x : Entry). Some x) (get_or-append_seam xs y ys y)

pub of_open : (index : Index) (c : CoreState) (b : Begun) → open_begin index c ≡ Some b → IsOfBegin c.list (segment_of b)
of_open index c b opened =
    let at : OpensAt (logged c.list) b = opens_at index (logged c.list) b opened in
    record {
      position = b.position;
      is = refl;
      by = at.begin_by;
      begin =
          ap (slice_get c.list) (let place = at.position in let n : b.position ≡ length at.before = omega (arith, place) in n)
          ∙ ap (λ (t : List Entry). slice_get t (length at.before)) at.entries
          ∙ seam at.before (Begin at.begin_by) at.inside;
    }

module _ (index : Index) (c : CoreState) (facts : CoreFacts index c) (b : Begun) (opened : open_begin index c ≡ Some b) (may : may_seal c (pieces_of (open_points index c)) ≡ true) where
  abbrev count : ℕ
  count = pieces_of (open_points index c)

  all_there : all_finished c.pieces count ≡ true
  all_there = (and_parts (all_finished c.pieces count) (not c.sealed) may).0

  not_yet : c.sealed ≡ false
  not_yet = not-true c.sealed (and_parts (all_finished c.pieces count) (not c.sealed) may).1

  -- the segment holds the merged graph
  pub sealed_graph : entered index (joined c.pieces count) ≡ made_graph index c.list
  sealed_graph =
      ap (λ (n : ℕ). entered index (joined c.pieces n)) (ap pieces_of (points_are index c facts))
      ∙ ap (entered index) (joined_is (made_graph index c.list).points c.pieces facts.pieces (subst (λ (t : List Point). all_finished c.pieces (pieces_of t) ≡ true) (points_are index c facts) all_there))
      ∙ subst (λ (o : Option Begun). entered index (merge_of index (fold_of index (logged c.list)) o).points ≡ merge_of index (fold_of index (logged c.list)) o) (sym opened) (merge_entered index (fold_of index (logged c.list)) b)

  abbrev segment : Kept
  segment = record { number = segment_of b; graph = entered index (joined c.pieces count) }

  abbrev now : CoreState
  now = with_segment index c (segment_of b) count

  pin_more : (pin : Option ℕ) → IsPin index c pin → IsPin index now pin
  pin_more None w = tt
  pin_more (Some n) (l, w) = (l, holds_more index c.kept segment (take n c.list) w)

  pub new_held : graph_in now.kept (segment_of b) ≡ Some (made_graph index c.list)
  new_held =
      found_new c.kept (segment_of b) (entered index (joined c.pieces count))
      (subst (HoldsMerge index c) opened facts.merge ∙ ap (λ (s : Bool). if_sealed s (made_graph index c.list)) not_yet)
      ∙ ap (λ (g : Graph). Some g) sealed_graph

  pub kept_segment : CoreFacts index now
  kept_segment = record {
    legal = facts.legal;
    shown = facts.shown;
    list_held = holds_more index c.kept segment c.list facts.list_held;
    shown_held = holds_more index c.kept segment (take c.shown c.list) facts.shown_held;
    pins = All-weaker (IsPin index c) (IsPin index now) pin_more c.pins facts.pins;
    pieces = facts.pieces;
    merge = subst (HoldsMerge index now) (sym opened) new_held;
    numbers = All-push (λ (k : Kept). IsOfBegin c.list k.number) c.kept segment facts.numbers (of_open index c b opened);
  }

seal_or : (index : Index) (c : CoreState) (o : Option Begun) → open_begin index c ≡ o → CoreFacts index c → CoreFacts index (seal index c o).0
seal_or index c None e facts = facts
seal_or index c (Some b) e facts =
    elim (may_seal c (pieces_of (open_points index c))) as (λ t. may_seal c (pieces_of (open_points index c)) ≡ t → CoreFacts index (cond t (done (with_segment index c (segment_of b) (pieces_of (open_points index c)))) (refused c)).0) [
      | true ↦ λ may. kept_segment index c facts b e may
      | false ↦ λ _. facts
    ] refl

switch_or : (index : Index) (c : CoreState) (by : ℕ) (o : Option Begun) → open_begin index c ≡ o → CoreFacts index c → CoreFacts index (switch c by o).0
switch_or index c by None e facts = facts
switch_or index c by (Some b) e facts =
    elim c.sealed as (λ t. c.sealed ≡ t → CoreFacts index (cond t (done (ended c by (segment_of b))) (refused c)).0) [
      | true ↦ λ sealed. kept_end index c facts by b e sealed
      | false ↦ λ _. facts
    ] refl

-- ---- a removal

pub parts_of : (xs ys : List ℕ) (n : ℕ) → has (xs ++ ys) n ≡ false → (has xs n ≡ false) × (has ys n ≡ false)
parts_of xs ys n h = or_parts (has xs n) (has ys n) (sym (has_append xs ys n) ∙ h)

-- a number that isn't in use
pub record IsUnused (index : Index) (c : CoreState) (number : ℕ) : Type 0 where
  pub begin : has (of_begin (open_begin index c)) number ≡ false
  pub list : has (of_end (last_end c.list)) number ≡ false
  pub shown : has (of_end (last_end (take c.shown c.list))) number ≡ false
  pub pins : has (flat_map (of_pin c.list) c.pins) number ≡ false

pub unused_parts : (index : Index) (c : CoreState) (number : ℕ) → has (in_use index c) number ≡ false → IsUnused index c number
unused_parts index c number h =
    let opening : List ℕ = of_begin (open_begin index c) in
    let list : List ℕ = of_end (last_end c.list) in
    let shown : List ℕ = of_end (last_end (take c.shown c.list)) in
    let last = parts_of (opening ++ list ++ shown) (flat_map (of_pin c.list) c.pins) number h in
    let third = parts_of (opening ++ list) shown number last.0 in
    let second = parts_of opening list number third.0 in
    record { begin = second.0; list = second.1; shown = third.1; pins = last.1 }

pub removal_unused : (index : Index) (c : CoreState) (number : ℕ) → may_remove index c number ≡ true → IsUnused index c number
removal_unused index c number may =
    unused_parts index c number (not-true (has (in_use index c) number) (and_parts (is_kept c.kept number) (not (has (in_use index c) number)) may).1)

module _ (index : Index) (c : CoreState) (facts : CoreFacts index c) (number : ℕ) (unused : IsUnused index c number) where
  abbrev left : CoreState
  left = without_segment c number

  pin_less : (pin : Option ℕ) → has (of_pin c.list pin) number ≡ false → IsPin index c pin → IsPin index left pin
  pin_less None h w = tt
  pin_less (Some n) h (l, w) = (l, holds_less index c.kept number (take n c.list) h w)

  pins_less : (pins : List (Option ℕ)) → has (flat_map (of_pin c.list) pins) number ≡ false → AllByRecursion (IsPin index c) pins → AllByRecursion (IsPin index left) pins
  pins_less [] h w = tt
  pins_less (p ∷ ps) h (first, rest) =
      let both = parts_of (of_pin c.list p) (flat_map (of_pin c.list) ps) number h in
      (pin_less p both.0 first, pins_less ps both.1 rest)

  merge_less : (o : Option Begun) → has (of_begin o) number ≡ false → HoldsMerge index c o → HoldsMerge index left o
  merge_less None h w = w
  merge_less (Some b) h w =
      others_stay c.kept number (segment_of b) (λ same. false≢true (sym h ∙ ap (λ t. t || false) (same_true number (segment_of b) (sym same)))) ∙ w

  numbers_less : (kept : List Kept) → AllByRecursion (λ (k : Kept). IsOfBegin c.list k.number) kept → AllByRecursion (λ (k : Kept). IsOfBegin c.list k.number) (lacking kept number)
  numbers_less [] w = tt
  numbers_less (k ∷ ks) (first, rest) =
      elim (eqb k.number number) as (λ t. AllByRecursion (λ (x : Kept). IsOfBegin c.list x.number) (cond (not t) (k ∷ lacking ks number) (lacking ks number))) [
        | true ↦ numbers_less ks rest
        | false ↦ (first, numbers_less ks rest)
      ]

  pub kept_less : CoreFacts index left
  kept_less = record {
    legal = facts.legal;
    shown = facts.shown;
    list_held = holds_less index c.kept number c.list unused.list facts.list_held;
    shown_held = holds_less index c.kept number (take c.shown c.list) unused.shown facts.shown_held;
    pins =
        All-from_recursion (IsPin index left) c.pins
        (pins_less c.pins unused.pins (recursion_from_All (IsPin index c) c.pins facts.pins));
    pieces = facts.pieces;
    merge = merge_less (open_begin index c) unused.begin facts.merge;
    numbers =
        All-from_recursion (λ (k : Kept). IsOfBegin c.list k.number) (lacking c.kept number)
        (numbers_less c.kept (recursion_from_All (λ (k : Kept). IsOfBegin c.list k.number) c.kept facts.numbers));
  }

remove_or : (index : Index) (c : CoreState) (number : ℕ) → CoreFacts index c → CoreFacts index (remove index c number).0
remove_or index c number facts =
    elim (may_remove index c number) as (λ t. may_remove index c number ≡ t → CoreFacts index (cond t (done (without_segment c number)) (refused c)).0) [
      | true ↦ λ may. kept_less index c facts number (removal_unused index c number may)
      | false ↦ λ _. facts
    ] refl

-- ---- a frame

frame_or : (index : Index) (c : CoreState) (entries : List Entry) → CoreFacts index c → CoreFacts index (frame index c entries).0
frame_or index c entries facts =
    elim (may_append index c entries) as (λ t. may_append index c entries ≡ t → CoreFacts index (cond t (done (appended c entries)) (refused c)).0) [
      | true ↦ λ may.
          let last = and_parts (nat_lt 0 (length entries) && nat_le (length entries) frame_end && not (list_any is_end entries)) (is_legal index (logged (c.list ++ entries))) may in
          let third = and_parts (nat_lt 0 (length entries) && nat_le (length entries) frame_end) (not (list_any is_end entries)) last.0 in
          kept_frame index c entries facts last.1 (not-true (list_any is_end entries) third.1)
      | false ↦ λ _. facts
    ] refl

-- ---- each event

pub kept_step : (index : Index) (c : CoreState) (e : Event) → CoreFacts index c → CoreFacts index (core_step index c e).0
kept_step index c (event.Frame entries) facts = frame_or index c entries facts
kept_step index c event.Show facts = kept_show index c facts
kept_step index c (event.Enter reader) facts = kept_enter index c reader (pin_of c reader) facts
kept_step index c (event.Reply reader ask) facts = kept_reply index c ask (pin_of c reader) facts
kept_step index c (event.Leave reader) facts = kept_leave index c reader (pin_of c reader) facts
kept_step index c (event.Piece number) facts = finish_or index c number (open_begin index c) facts
kept_step index c event.Seal facts = seal_or index c (open_begin index c) refl facts
kept_step index c (event.Switch by) facts = switch_or index c by (open_begin index c) refl facts
kept_step index c (event.Remove number) facts = remove_or index c number facts

pub kept_all : (index : Index) (c : CoreState) (events : List Event) → CoreFacts index c → CoreFacts index (state_after index c events)
kept_all index c [] facts = facts
kept_all index c (e ∷ es) facts = kept_all index (core_step index c e).0 es (kept_step index c e facts)
