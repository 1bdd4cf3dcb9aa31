-- The core facts after a frame and after an End.
use Rattle.std.proofs.Common.{◌≡◌, ◌∙◌, ◌≢◌, ℕ, ◌+◌, ◌*◌, ◌≤◌, ◌<◌, Bool, true, false, cond, eqb, not, ◌&&◌, ◌||◌, List, [], ◌∷◌, ◌++◌, take, length, slice_get, refl, sym, ap, subst, arith, append_assoc}
use Rattle.std.specs.Prelude.{Option, Some, None, is_none, MatchOption, All}
use Rattle.std.specs.List.{list_any}
use Rattle.std.proofs.lemmas.Bool.{false≢true, and_parts, or_parts}
use Rattle.std.proofs.lemmas.List.{take-append-le, length_push}
use Rattle.std.proofs.lemmas.List.Elements.{All-nil, All-weaker}
use Rattle.std.proofs.lemmas.Option.{slice_get_within, slice_get-get_or, get_or_from_slice_get}
use Rattle.std.proofs.Math.ListN.{get_or, get_or-append}
use Rattle.ann_types.specs.Graph.{Point, Graph}
use Rattle.ann_types.specs.Index.{Index}
use Rattle.ann_types.specs.Lists.{BasedList, with_entries, length_of}
use Rattle.ann_types.specs.Fold.{Begun, State, merge_of, switched, step, fold_of}
use Rattle.ann_types.specs.Legal.{may_follow, is_legal, has_work, names_segment}
use Rattle.ann_types.specs.declared.entry.Entry.{Entry}
use Rattle.ann_types.specs.declared.entry.Entry.TheVariants.{Insert, Delete, Begin, End, Replace}
use Rattle.ann_types.proofs.Booleans.{same_true}
use Rattle.ann_types.proofs.Folds.{legal_before}
use Rattle.ann_laws.specs.Replays.{is_mark, is_end}
use Rattle.ann_core_laws.specs.State.{Piece, Kept, CoreState, logged, last_end, end_after, graph_in, segment_of, open_begin}
use Rattle.ann_core_laws.specs.Events.{is_begin, appended, ended}
use Rattle.ann_core_laws.specs.Facts.{HoldsEnd, made_graph, IsPieceOf, if_sealed, HoldsMerge, IsOfBegin, IsPin, CoreFacts}
use Rattle.ann_core_laws.proofs.Logged.{end_push, no_end, step_lti, state_more, legal_parts, legal_join, step_open, made_more}
use Rattle.ann_core_laws.proofs.Segments.{absent}

-- ---- what stays of a list that is longer

pub begin_stays : (list : List Entry) (e : Entry) (n : ℕ) → IsOfBegin list n → IsOfBegin (list ++ e ∷ []) n
begin_stays list e n w =
    let within : w.position < length list = slice_get_within list w.position (Begin w.by) w.begin in
    record {
      position = w.position;
      is = w.is;
      by = w.by;
      begin =
          slice_get-get_or (list ++ e ∷ []) w.position e (let more = length_push list e in omega (arith, more, within))
          ∙ ap (λ (x : Entry). Some x) (get_or-append list (e ∷ []) e w.position within ∙ get_or_from_slice_get list w.position (Begin w.by) e w.begin);
    }

pub begins_stay : (list : List Entry) (e : Entry) (kept : List Kept) → All (λ (k : Kept). IsOfBegin list k.number) kept → All (λ (k : Kept). IsOfBegin (list ++ e ∷ []) k.number) kept
begins_stay list e kept a = All-weaker (λ (k : Kept). IsOfBegin list k.number) (λ (k : Kept). IsOfBegin (list ++ e ∷ []) k.number) (λ k w. begin_stays list e k.number w) kept a

prefix_stays : (index : Index) (kept : List Kept) (list : List Entry) (e : Entry) (n : ℕ) → n ≤ length list → HoldsEnd index kept (take n list) → HoldsEnd index kept (take n (list ++ e ∷ []))
prefix_stays index kept list e n l w = subst (HoldsEnd index kept) (sym (take-append-le n list (e ∷ []) l)) w

module _ (index : Index) (c : CoreState) (facts : CoreFacts index c) (e : Entry) where
  abbrev longer : List Entry
  longer = c.list ++ e ∷ []

  pub shown_stays : c.shown ≤ length longer
  shown_stays = let more = length_push c.list e in let within = facts.shown in omega (arith, more, within)

  pub shown_prefix : HoldsEnd index c.kept (take c.shown longer)
  shown_prefix = prefix_stays index c.kept c.list e c.shown facts.shown facts.shown_held

  pin_stays : (d : CoreState) → d.list ≡ longer → d.shown ≡ c.shown → d.kept ≡ c.kept → (pin : Option ℕ) → IsPin index c pin → IsPin index d pin
  pin_stays d list shown kept None w = tt
  pin_stays d list shown kept (Some n) (l, w) = (
    let same = shown in omega (arith, same, l),
    subst (λ (k : List Kept). HoldsEnd index k (take n d.list)) (sym kept)
        (subst (λ (t : List Entry). HoldsEnd index c.kept (take n t)) (sym list)
        (prefix_stays index c.kept c.list e n (let within = facts.shown in omega (arith, within, l)) w)),
  )

  pub pins_stay : (d : CoreState) → d.list ≡ longer → d.shown ≡ c.shown → d.kept ≡ c.kept → d.pins ≡ c.pins → All (IsPin index d) d.pins
  pins_stay d list shown kept pins =
      subst (All (IsPin index d)) (sym pins) (All-weaker (IsPin index c) (IsPin index d) (pin_stays d list shown kept) c.pins facts.pins)

-- ---- one entry of a frame

ends_same : (index : Index) (kept : List Kept) (list : List Entry) (e : Entry) → is_end e ≡ false → HoldsEnd index kept list → HoldsEnd index kept (list ++ e ∷ [])
ends_same index kept list e n w =
    subst (λ (o : Option ℕ). MatchOption o (Unit {0}) (λ number. graph_in kept number ≡ Some (fold_of index (logged (list ++ e ∷ []))).lti)) (sym (end_push list e ∙ no_end (last_end list) e n))
    (subst (λ (g : Graph). MatchOption (last_end list) (Unit {0}) (λ number. graph_in kept number ≡ Some g))
    (sym (ap (λ (s : State). s.lti) (state_more index list e) ∙ step_lti index (logged list) (fold_of index (logged list)) e n)) w)

abbrev pub one_more : CoreState → Entry → CoreState
one_more c e = appended c (e ∷ [])

-- it is no mark
unmarked : (e : Entry) → is_begin e ≡ false → is_end e ≡ false → is_mark e ≡ false
unmarked (Insert by tag vector) b n = refl
unmarked (Delete by tag) b n = refl
unmarked (Begin by) b n = absurd (false≢true (sym b))
unmarked (End by segment) b n = absurd (false≢true (sym n))
unmarked (Replace by tag vector) b n = refl

module _ (index : Index) (c : CoreState) (facts : CoreFacts index c) (e : Entry) (legal : is_legal index (logged (c.list ++ e ∷ [])) ≡ true) (n : is_end e ≡ false) where
  abbrev state : State
  state = fold_of index (logged c.list)

  open_same : is_mark e ≡ false → open_begin index (one_more c e) ≡ state.begun
  open_same m = ap (λ (s : State). s.begun) (state_more index c.list e) ∙ step_open index (logged c.list) state e m

  holds_by : (d : CoreState) → d.kept ≡ c.kept → d.sealed ≡ c.sealed → made_graph index d.list ≡ made_graph index c.list → (o : Option Begun) → HoldsMerge index c o → HoldsMerge index d o
  holds_by d kept sealed made None w = sealed ∙ w
  holds_by d kept sealed made (Some b) w =
      ap (λ (k : List Kept). graph_in k (segment_of b)) kept ∙ w
      ∙ ap (λ (s : Bool). if_sealed s (made_graph index c.list)) (sym sealed)
      ∙ ap (λ (g : Graph). if_sealed d.sealed g) (sym made)

  merge_same : is_mark e ≡ false → HoldsMerge index (one_more c e) (open_begin index (one_more c e))
  merge_same m =
      subst (HoldsMerge index (one_more c e)) (sym (open_same m))
      (holds_by (one_more c e) refl refl (made_more index c.list e facts.legal m) state.begun facts.merge)

  pieces_same : is_mark e ≡ false → is_begin e ≡ false → All (IsPieceOf (made_graph index (c.list ++ e ∷ [])).points) (one_more c e).pieces
  pieces_same m b =
      subst (All (IsPieceOf (made_graph index (c.list ++ e ∷ [])).points)) (sym (ap (λ t. cond (t || false) [] c.pieces) b))
      (subst (λ (g : Graph). All (IsPieceOf g.points) c.pieces) (sym (made_more index c.list e facts.legal m)) facts.pieces)

  pub kept_unmarked : is_begin e ≡ false → CoreFacts index (one_more c e)
  kept_unmarked b =
      let m = unmarked e b n in
      record {
        legal = legal;
        shown = shown_stays index c facts e;
        list_held = ends_same index c.kept c.list e n facts.list_held;
        shown_held = shown_prefix index c facts e;
        pins = pins_stay index c facts e (one_more c e) refl refl refl refl;
        pieces = pieces_same m b;
        merge = merge_same m;
        numbers = begins_stay c.list e c.kept facts.numbers;
      }

none_is : (o : Option Begun) → is_none o ≡ true → o ≡ None
none_is None e = refl
none_is (Some b) e = absurd (false≢true e)

abbrev place : Option Begun → ℕ
place None = 0
place (Some b) = b.position

-- a Begin
module _ (index : Index) (c : CoreState) (facts : CoreFacts index c) (by : ℕ) (legal : is_legal index (logged (c.list ++ Begin by ∷ [])) ≡ true) where
  abbrev before : State
  before = fold_of index (logged c.list)

  closed : before.begun ≡ None
  closed = none_is before.begun (and_parts (is_none before.begun) (has_work before) (legal_parts index c.list (Begin by) legal).1).0

  unsealed : c.sealed ≡ false
  unsealed = subst (HoldsMerge index c) closed facts.merge

  opened_here : (o : Option Begun) → o ≡ (step index (logged c.list) before (Begin by)).begun → HoldsMerge index (one_more c (Begin by)) o
  opened_here None e = unsealed
  opened_here (Some b) e =
      absent c.list c.kept (segment_of b) facts.numbers (let at : b.position ≡ length_of (logged c.list) = ap place e in omega (arith, at))
      ∙ ap (λ (s : Bool). if_sealed s (made_graph index (c.list ++ Begin by ∷ []))) (sym unsealed)

  pub kept_begin : CoreFacts index (one_more c (Begin by))
  kept_begin = record {
    legal = legal;
    shown = shown_stays index c facts (Begin by);
    list_held = ends_same index c.kept c.list (Begin by) refl facts.list_held;
    shown_held = shown_prefix index c facts (Begin by);
    pins = pins_stay index c facts (Begin by) (one_more c (Begin by)) refl refl refl refl;
    pieces = All-nil (IsPieceOf (made_graph index (c.list ++ Begin by ∷ [])).points);
    merge = opened_here (open_begin index (one_more c (Begin by))) (ap (λ (s : State). s.begun) (state_more index c.list (Begin by)));
    numbers = begins_stay c.list (Begin by) c.kept facts.numbers;
  }

pub kept_entry : (index : Index) (c : CoreState) (e : Entry) → CoreFacts index c → is_legal index (logged (c.list ++ e ∷ [])) ≡ true → is_end e ≡ false → CoreFacts index (one_more c e)
kept_entry index c (Insert by tag vector) facts legal n = kept_unmarked index c facts (Insert by tag vector) legal n refl
kept_entry index c (Delete by tag) facts legal n = kept_unmarked index c facts (Delete by tag) legal n refl
kept_entry index c (Begin by) facts legal n = kept_begin index c facts by legal
kept_entry index c (End by segment) facts legal n = absurd (false≢true (sym n))
kept_entry index c (Replace by tag vector) facts legal n = kept_unmarked index c facts (Replace by tag vector) legal n refl

-- ---- a frame, entry by entry

pieces_then : (a b : Bool) (pieces : List Piece) → cond (a || b) [] pieces ≡ cond b [] (cond (a || false) [] pieces)
pieces_then true true pieces = refl
pieces_then true false pieces = refl
pieces_then false true pieces = refl
pieces_then false false pieces = refl

appended_then : (c : CoreState) (e : Entry) (es : List Entry) → appended c (e ∷ es) ≡ appended (one_more c e) es
appended_then c e es =
    ap (λ (t : List Entry). record c { list = t; pieces = cond (is_begin e || list_any is_begin es) [] c.pieces }) (sym (append_assoc c.list (e ∷ []) es))
    ∙ ap (λ (t : List Piece). record c { list = (c.list ++ e ∷ []) ++ es; pieces = t }) (pieces_then (is_begin e) (list_any is_begin es) c.pieces)

append_none : (xs : List Entry) → xs ++ [] ≡ xs
append_none [] = refl
append_none (x ∷ xs) = ap (λ t. x ∷ t) (append_none xs)

pub kept_frame : (index : Index) (c : CoreState) (es : List Entry) → CoreFacts index c → is_legal index (logged (c.list ++ es)) ≡ true → list_any is_end es ≡ false → CoreFacts index (appended c es)
kept_frame index c [] facts legal n = subst (λ (t : List Entry). CoreFacts index (record c { list = t })) (sym (append_none c.list)) facts
kept_frame index c (e ∷ es) facts legal n =
    let both = or_parts (is_end e) (list_any is_end es) n in
    let whole : is_legal index (logged ((c.list ++ e ∷ []) ++ es)) ≡ true = ap (λ (t : List Entry). is_legal index (logged t)) (append_assoc c.list (e ∷ []) es) ∙ legal in
    let front : is_legal index (logged (c.list ++ e ∷ [])) ≡ true = legal_before index (logged (c.list ++ e ∷ [])) es whole in
    subst (CoreFacts index) (sym (appended_then c e es))
    (kept_frame index (one_more c e) es (kept_entry index c e facts front both.0) whole both.1)

-- ---- an End

module _ (index : Index) (c : CoreState) (facts : CoreFacts index c) (by : ℕ) (b : Begun) (opened : open_begin index c ≡ Some b) (sealed : c.sealed ≡ true) where
  abbrev last : Entry
  last = End by (segment_of b)

  abbrev now : State
  now = fold_of index (logged c.list)

  pub made_is : made_graph index c.list ≡ merge_of index now (Some b)
  made_is = ap (merge_of index now) opened

  pub merge_held : graph_in c.kept (segment_of b) ≡ Some (made_graph index c.list)
  merge_held =
      subst (HoldsMerge index c) opened facts.merge ∙ ap (λ (s : Bool). if_sealed s (made_graph index c.list)) sealed

  after : fold_of index (logged (c.list ++ last ∷ [])) ≡ switched now (merge_of index now (Some b)) (Some b)
  after = state_more index c.list last ∙ ap (λ (o : Option Begun). switched now (merge_of index now o) o) opened

  made_again : made_graph index (c.list ++ last ∷ []) ≡ made_graph index c.list
  made_again = ap (λ (s : State). merge_of index s s.begun) after ∙ sym made_is

  pub kept_end : CoreFacts index (ended c by (segment_of b))
  kept_end = record {
    legal = legal_join index c.list last facts.legal (ap (names_segment (segment_of b)) opened ∙ same_true (segment_of b) (segment_of b) refl);
    shown = shown_stays index c facts last;
    list_held =
        subst (λ (o : Option ℕ). MatchOption o (Unit {0}) (λ number. graph_in c.kept number ≡ Some (fold_of index (logged (c.list ++ last ∷ []))).lti)) (sym (end_push c.list last))
        (merge_held ∙ ap (λ (g : Graph). Some g) (made_is ∙ sym (ap (λ (s : State). s.lti) after)));
    shown_held = shown_prefix index c facts last;
    pins = pins_stay index c facts last (ended c by (segment_of b)) refl refl refl refl;
    pieces = subst (λ (g : Graph). All (IsPieceOf g.points) c.pieces) (sym made_again) facts.pieces;
    merge = subst (HoldsMerge index (ended c by (segment_of b))) (sym (ap (λ (s : State). s.begun) after)) refl;
    numbers = begins_stay c.list last c.kept facts.numbers;
  }
