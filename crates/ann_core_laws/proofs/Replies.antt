-- The laws of replies, removals, pins and seals.
use Rattle.std.proofs.Common.{◌≡◌, ◌∙◌, ◌≢◌, ℕ, zero, suc, ◌+◌, ◌-◌, ◌*◌, ◌≤◌, ◌<◌, Bool, true, false, cond, eqb, eqb-true, not, ◌&&◌, ◌||◌, ◌⊎◌, inl, inr, List, [], ◌∷◌, ◌++◌, map, set, get_or, take, flat_map, length, slice_get, nat_lt, refl, sym, ap, subst, arith}
use Rattle.std.specs.Prelude.{Option, Some, None, MatchOption, All, IsTrue, fold}
use Rattle.std.specs.List.{list_any, list_all, range_with_len, AllByRecursion}
use Rattle.std.proofs.lemmas.Bool.{false≢true, and_parts, or_parts, or_cases, not-true, lt-ltb}
use Rattle.std.proofs.lemmas.List.{get_or-set_same, get_or-set_other, length-set, length-take-le}
use Rattle.std.proofs.lemmas.List.Elements.{All-get_or, All-from_recursion}
use Rattle.std.proofs.lemmas.List.Sums.{fold-append}
use Rattle.std.proofs.lemmas.Option.{slice_get-get_or, slice_get_within, get_or_from_slice_get}
use Rattle.ann_types.specs.Graph.{Point, Graph}
use Rattle.ann_types.specs.Order.{has}
use Rattle.ann_types.specs.Index.{Index}
use Rattle.ann_types.specs.Lists.{BasedList, upto, length_of}
use Rattle.ann_types.specs.Fold.{Begun, State, fold_of, merge_of}
use Rattle.ann_types.specs.Answer.{hits, answer}
use Rattle.ann_types.specs.declared.ask.Ask.{Ask}
use Rattle.ann_types.specs.declared.hit.Hit.{Hit}
use Rattle.ann_types.specs.declared.entry.Entry.{Entry}
use Rattle.ann_types.proofs.Booleans.{same_true}
use Rattle.ann_core_laws.specs.State.{Piece, CoreState, logged, last_end, graph_in, held_state, open_begin, segment_of, open_points, pieces_of, is_finished, all_finished, of_begin, of_end, of_pin, in_use, is_kept}
use Rattle.ann_core_laws.specs.Events.{appended, frame, may_append, refused, done, pin_of, with_pin, enter, leave, reply, with_piece, may_finish, piece, may_seal, with_segment, seal, ended, switch, without_segment, may_remove, remove, core_step, state_after}
use Rattle.ann_core_laws.specs.Facts.{made_graph, HoldsEnd, IsPin, CoreFacts}
use Rattle.ann_core_laws.specs.declared.event.Event.{Event}
use Rattle.ann_core_laws.specs.declared.event.Event.TheVariants as event
use Rattle.ann_core_laws.specs.declared.step.Step.{Step}
use Rattle.ann_core_laws.specs.declared.step.Step.TheVariants.{Done, Answered, NotAllowed}
use Rattle.ann_core_laws.proofs.Segments.{held_is}
use Rattle.ann_core_laws.proofs.Pieces.{finished_more, finished_new, all_from}
use Rattle.ann_core_laws.proofs.Kept.{points_are, new_held, kept_piece, kept_step, parts_of, removal_unused}

-- ---- replies

abbrev pub IsReply : Index → CoreState → Ask → Option (Option ℕ) → ℕ → List Hit → Type 0
IsReply index c ask found at hits =
    (found ≡ Some (Some at)) × (length_of (upto (logged c.list) at) ≡ at) × (hits ≡ answer index (upto (logged c.list) at) ask)

pin_at : (index : Index) (c : CoreState) (reader n : ℕ) → CoreFacts index c → pin_of c reader ≡ Some (Some n) → IsPin index c (Some n)
pin_at index c reader n facts found =
    subst (IsPin index c) (get_or_from_slice_get c.pins reader (Some n) None found)
    (All-get_or (IsPin index c) c.pins reader None (slice_get_within c.pins reader (Some n) found) facts.pins)

-- what a reply tells, by its pin
told : (index : Index) (c : CoreState) (reader n : ℕ) (ask : Ask) (at : ℕ) (told : List Hit) → CoreFacts index c → pin_of c reader ≡ Some (Some n) → Answered n (hits index (held_state index c.kept (take n c.list)) ask.k ask.l ask.vector) ≡ Answered at told → IsReply index c ask (pin_of c reader) at told
told index c reader n ask at these facts found same =
    let place : n ≡ at = cc in
    let list : hits index (held_state index c.kept (take n c.list)) ask.k ask.l ask.vector ≡ these = cc in
    let pin : IsPin index c (Some n) = pin_at index c reader n facts found in
    let within = facts.shown in
    let below = pin.0 in
    let cut : upto (logged c.list) n ≡ logged (take n c.list) = ap (λ (i : ℕ). logged (take i c.list)) (let i : n - 0 ≡ n = omega arith in i) in
    subst (λ (m : ℕ). IsReply index c ask (pin_of c reader) m these) place (
      found,
      ap length_of cut ∙ (let short = length-take-le n c.list (omega (arith, below, within)) in let size : length_of (logged (take n c.list)) ≡ n = omega (arith, short) in size),
      sym list ∙ ap (λ (s : State). hits index s ask.k ask.l ask.vector) (held_is index c.kept (take n c.list) pin.1)
          ∙ ap (λ (h : BasedList). hits index (fold_of index h) ask.k ask.l ask.vector) (sym cut),
    )

not_answered : (at : ℕ) (these : List Hit) → NotAllowed ≢ Answered at these
not_answered at these e = cc

reply_by : (index : Index) (c : CoreState) (reader : ℕ) (ask : Ask) (at : ℕ) (these : List Hit) → CoreFacts index c → (found : Option (Option ℕ)) → pin_of c reader ≡ found → (reply index c ask found).1 ≡ Answered at these → IsReply index c ask (pin_of c reader) at these
reply_by index c reader ask at these facts None f e = absurd (not_answered at these e)
reply_by index c reader ask at these facts (Some None) f e = absurd (not_answered at these e)
reply_by index c reader ask at these facts (Some (Some n)) f e =
    elim (eqb (length ask.vector) index.params.d) as (λ t. (cond t (c, Answered n (hits index (held_state index c.kept (take n c.list)) ask.k ask.l ask.vector)) (refused c)).1 ≡ Answered at these → IsReply index c ask (pin_of c reader) at these) [
      | true ↦ λ same. told index c reader n ask at these facts f same
      | false ↦ λ same. absurd (not_answered at these same)
    ] e

pub answers : (index : Index) (c : CoreState) (reader : ℕ) (ask : Ask) (at : ℕ) (these : List Hit) → CoreFacts index c → (core_step index c (event.Reply reader ask)).1 ≡ Answered at these → IsReply index c ask (pin_of c reader) at these
answers index c reader ask at these facts e = reply_by index c reader ask at these facts (pin_of c reader) refl e

-- ---- removals

not_done : NotAllowed ≢ Done
not_done e = cc

other_end : (o : Option ℕ) (n : ℕ) → has (of_end o) n ≡ false → o ≢ Some n
other_end o n h e = false≢true (sym h ∙ ap (λ (t : Option ℕ). has (of_end t) n) e ∙ ap (λ t. t || false) (same_true n n refl))

abbrev IsOther : List Entry → ℕ → Option ℕ → Type 0
IsOther list number pin = MatchOption pin (Unit {0}) (λ n. last_end (take n list) ≢ Some number)

other_pin : (list : List Entry) (number : ℕ) (pin : Option ℕ) → has (of_pin list pin) number ≡ false → IsOther list number pin
other_pin list number None h = tt
other_pin list number (Some n) h = other_end (last_end (take n list)) number h

other_pins : (list : List Entry) (number : ℕ) (pins : List (Option ℕ)) → has (flat_map (of_pin list) pins) number ≡ false → AllByRecursion (IsOther list number) pins
other_pins list number [] h = tt
other_pins list number (p ∷ ps) h =
    let both = parts_of (of_pin list p) (flat_map (of_pin list) ps) number h in
    (other_pin list number p both.0, other_pins list number ps both.1)

pub removes : (index : Index) (c : CoreState) (number : ℕ) → (core_step index c (event.Remove number)).1 ≡ Done → All (IsOther c.list number) c.pins
removes index c number e =
    elim (may_remove index c number) as (λ t. may_remove index c number ≡ t → (cond t (done (without_segment c number)) (refused c)).1 ≡ Done → All (IsOther c.list number) c.pins) [
      | true ↦ λ may _.
          All-from_recursion (IsOther c.list number) c.pins (other_pins c.list number c.pins (removal_unused index c number may).pins)
      | false ↦ λ _ k. absurd (not_done k)
    ] refl e

-- ---- pins

-- what a reader has pinned is what it had, or not before what was shown; and what is shown doesn't go back
pub record GoesOn (c d : CoreState) (reader : ℕ) : Type 0 where
  pub shown : c.shown ≤ d.shown
  pub pin : (m : ℕ) → pin_of d reader ≡ Some (Some m) → (pin_of c reader ≡ Some (Some m)) ⊎ (c.shown ≤ m)

same_pins : (c d : CoreState) (reader : ℕ) → c.shown ≤ d.shown → d.pins ≡ c.pins → GoesOn c d reader
same_pins c d reader l e = record { shown = l; pin = λ m f. inl (sym (ap (λ (t : List (Option ℕ)). slice_get t reader) e) ∙ f) }

stays : (c : CoreState) (reader : ℕ) → GoesOn c c reader
stays c reader = same_pins c c reader (omega arith) refl

set_pin : (c : CoreState) (reader other : ℕ) (pin : Option ℕ) → ((m : ℕ) → pin ≡ Some m → c.shown ≤ m) → GoesOn c (with_pin c other pin) reader
set_pin c reader other pin later = record {
  shown = omega arith;
  pin = λ m f.
      let size = length-set c.pins other pin in
      let within : reader < length c.pins = let inside = slice_get_within (set c.pins other pin) reader (Some m) f in omega (arith, size, inside) in
      let is : get_or (set c.pins other pin) reader None ≡ Some m = get_or_from_slice_get (set c.pins other pin) reader (Some m) None f in
      elim (eqb reader other) as (λ t. eqb reader other ≡ t → (pin_of c reader ≡ Some (Some m)) ⊎ (c.shown ≤ m)) [
        | true ↦ λ e.
            let here : reader ≡ other = eqb-true reader other e in
            let same : get_or (set c.pins other pin) reader None ≡ pin = ap (λ (i : ℕ). get_or (set c.pins other pin) i None) here ∙ get_or-set_same c.pins other pin None (subst (λ (i : ℕ). i < length c.pins) here within) in
            inr (later m (sym same ∙ is))
        | false ↦ λ e.
            let there : reader ≢ other = λ same. false≢true (sym e ∙ same_true reader other same) in
            inl (slice_get-get_or c.pins reader None within ∙ ap (λ (p : Option ℕ). Some p) (sym (get_or-set_other c.pins other reader pin None there) ∙ is))
      ] refl;
}

no_some : (m : ℕ) → None ≢ Some m
no_some m e = cc

some_is : (n m : ℕ) → Some n ≡ Some m → n ≡ m
some_is n m e = cc

enter_on : (c : CoreState) (reader other : ℕ) (found : Option (Option ℕ)) → GoesOn c (enter c other found).0 reader
enter_on c reader other None = stays c reader
enter_on c reader other (Some None) = set_pin c reader other (Some c.shown) (λ m e. let same = some_is c.shown m e in omega (arith, same))
enter_on c reader other (Some (Some n)) = stays c reader

leave_on : (c : CoreState) (reader other : ℕ) (found : Option (Option ℕ)) → GoesOn c (leave c other found).0 reader
leave_on c reader other None = stays c reader
leave_on c reader other (Some None) = stays c reader
leave_on c reader other (Some (Some n)) = set_pin c reader other None (λ m e. absurd (no_some m e))

either_on : (c : CoreState) (reader : ℕ) (step : Step) (t : Bool) → GoesOn c (cond t (c, step) (refused c)).0 reader
either_on c reader step true = stays c reader
either_on c reader step false = stays c reader

reply_on : (index : Index) (c : CoreState) (reader : ℕ) (ask : Ask) (found : Option (Option ℕ)) → GoesOn c (reply index c ask found).0 reader
reply_on index c reader ask None = stays c reader
reply_on index c reader ask (Some None) = stays c reader
reply_on index c reader ask (Some (Some n)) =
    either_on c reader (Answered n (hits index (held_state index c.kept (take n c.list)) ask.k ask.l ask.vector)) (eqb (length ask.vector) index.params.d)

-- an event that is done or refused, and pins nothing
choice_on : (c d : CoreState) (reader : ℕ) (b : Bool) → GoesOn c d reader → GoesOn c (cond b (done d) (refused c)).0 reader
choice_on c d reader true w = w
choice_on c d reader false w = stays c reader

piece_on : (index : Index) (c : CoreState) (reader number : ℕ) (o : Option Begun) → GoesOn c (piece index c number o).0 reader
piece_on index c reader number None = stays c reader
piece_on index c reader number (Some b) = choice_on c (with_piece c (open_points index c) number) reader (may_finish c (open_points index c) number) (same_pins c (with_piece c (open_points index c) number) reader (omega arith) refl)

seal_on : (index : Index) (c : CoreState) (reader : ℕ) (o : Option Begun) → GoesOn c (seal index c o).0 reader
seal_on index c reader None = stays c reader
seal_on index c reader (Some b) =
    choice_on c (with_segment index c (segment_of b) (pieces_of (open_points index c))) reader (may_seal c (pieces_of (open_points index c)))
    (same_pins c (with_segment index c (segment_of b) (pieces_of (open_points index c))) reader (omega arith) refl)

switch_on : (c : CoreState) (reader by : ℕ) (o : Option Begun) → GoesOn c (switch c by o).0 reader
switch_on c reader by None = stays c reader
switch_on c reader by (Some b) = choice_on c (ended c by (segment_of b)) reader c.sealed (same_pins c (ended c by (segment_of b)) reader (omega arith) refl)

step_on : (index : Index) (c : CoreState) (e : Event) (reader : ℕ) → c.shown ≤ length c.list → GoesOn c (core_step index c e).0 reader
step_on index c (event.Frame entries) reader l = choice_on c (appended c entries) reader (may_append index c entries) (same_pins c (appended c entries) reader (omega arith) refl)
step_on index c event.Show reader l = same_pins c (record c { shown = length c.list }) reader l refl
step_on index c (event.Enter other) reader l = enter_on c reader other (pin_of c other)
step_on index c (event.Reply other ask) reader l = reply_on index c reader ask (pin_of c other)
step_on index c (event.Leave other) reader l = leave_on c reader other (pin_of c other)
step_on index c (event.Piece number) reader l = piece_on index c reader number (open_begin index c)
step_on index c event.Seal reader l = seal_on index c reader (open_begin index c)
step_on index c (event.Switch by) reader l = switch_on c reader by (open_begin index c)
step_on index c (event.Remove number) reader l = choice_on c (without_segment c number) reader (may_remove index c number) (same_pins c (without_segment c number) reader (omega arith) refl)

then_on : (b c d : CoreState) (reader : ℕ) → GoesOn b c reader → GoesOn c d reader → GoesOn b d reader
then_on b c d reader v w = record {
  shown = (let first = v.shown in let second = w.shown in omega (arith, first, second));
  pin = λ m f. elim (w.pin m f) [
    | inl same ↦ v.pin m same
    | inr later ↦ inr (let first = v.shown in omega (arith, first, later))
  ];
}

all_on : (index : Index) (c : CoreState) (events : List Event) (reader : ℕ) → CoreFacts index c → GoesOn c (state_after index c events) reader
all_on index c [] reader facts = stays c reader
all_on index c (e ∷ es) reader facts =
    then_on c (core_step index c e).0 (state_after index (core_step index c e).0 es) reader (step_on index c e reader facts.shown) (all_on index (core_step index c e).0 es reader (kept_step index c e facts))

pins_same : (n m : ℕ) → Some (Some n) ≡ Some (Some m) → n ≡ m
pins_same n m e = cc

pub pins_rise : (index : Index) (c : CoreState) (events : List Event) (reader n m : ℕ) → CoreFacts index c → pin_of c reader ≡ Some (Some n) → pin_of (state_after index c events) reader ≡ Some (Some m) → n ≤ m
pins_rise index c events reader n m facts first last =
    let shown : n ≤ c.shown = (pin_at index c reader n facts first).0 in
    elim ((all_on index c events reader facts).pin m last) [
      | inl same ↦ (let equal : n ≡ m = pins_same n m (sym first ∙ same) in omega (arith, equal))
      | inr later ↦ omega (arith, shown, later)
    ]

-- ---- pieces in any order

-- some events that finish pieces leave the list, the segments and the seal, and the pieces that were finished; and each piece
-- that they name is finished
pub record Finishes (index : Index) (c d : CoreState) (order : List ℕ) : Type 0 where
  pub facts : CoreFacts index d
  pub list : d.list ≡ c.list
  pub kept : d.kept ≡ c.kept
  pub sealed : d.sealed ≡ c.sealed
  pub before : (n : ℕ) → is_finished c.pieces n ≡ true → is_finished d.pieces n ≡ true
  pub named : (n : ℕ) → n < pieces_of (made_graph index c.list).points → has order n ≡ true → is_finished d.pieces n ≡ true

or_none : (a : Bool) → (a || false) ≡ true → a ≡ true
or_none true e = refl
or_none false e = e

-- a piece that can't be finished is one that is
finished_else : (below finished : Bool) → below ≡ true → (below && not finished) ≡ false → finished ≡ true
finished_else true true e f = refl
finished_else true false e f = absurd (false≢true (sym f))
finished_else false finished e f = absurd (false≢true e)

module _ (index : Index) (b : Begun) where
  one_done : (c : CoreState) (k : ℕ) → CoreFacts index c → Finishes index c (piece index c k (Some b)).0 (k ∷ [])
  one_done c k facts =
      elim (may_finish c (open_points index c) k) as (λ t. may_finish c (open_points index c) k ≡ t → Finishes index c (cond t (done (with_piece c (open_points index c) k)) (refused c)).0 (k ∷ [])) [
        | true ↦ λ may. record {
          facts = kept_piece index c k facts may;
          list = refl;
          kept = refl;
          sealed = refl;
          before = λ n f. finished_more c.pieces _ n f;
          named = λ n l h. finished_new c.pieces _ n (same_true k n (sym (eqb-true n k (or_none (eqb n k) h))));
        }
        | false ↦ λ may. record {
          facts = facts;
          list = refl;
          kept = refl;
          sealed = refl;
          before = λ n f. f;
          named = λ n l h.
              let same : n ≡ k = eqb-true n k (or_none (eqb n k) h) in
              let below : k < pieces_of (open_points index c) = subst (λ (i : ℕ). i < pieces_of (open_points index c)) same (subst (λ (t : List Point). n < pieces_of t) (sym (points_are index c facts)) l) in
              subst (λ (i : ℕ). is_finished c.pieces i ≡ true) (sym same)
              (finished_else (nat_lt k (pieces_of (open_points index c))) (is_finished c.pieces k) (lt-ltb k (pieces_of (open_points index c)) below) may);
        }
      ] refl

  pub all_done : (c : CoreState) (order : List ℕ) → CoreFacts index c → open_begin index c ≡ Some b → Finishes index c (state_after index c (map event.Piece order)) order
  all_done c [] facts opened =
      record { facts = facts; list = refl; kept = refl; sealed = refl; before = λ n f. f; named = λ n l h. absurd (false≢true h) }
  all_done c (k ∷ ks) facts opened =
      let next : CoreState = (core_step index c (event.Piece k)).0 in
      let first : Finishes index c next (k ∷ []) = subst (λ (o : Option Begun). Finishes index c (piece index c k o).0 (k ∷ [])) (sym opened) (one_done c k facts) in
      let rest : Finishes index next (state_after index next (map event.Piece ks)) ks = all_done next ks first.facts (ap (λ (t : List Entry). (fold_of index (logged t)).begun) first.list ∙ opened) in
      record {
        facts = rest.facts;
        list = rest.list ∙ first.list;
        kept = rest.kept ∙ first.kept;
        sealed = rest.sealed ∙ first.sealed;
        before = λ n f. rest.before n (first.before n f);
        named = λ n l h. elim (or_cases (eqb n k) (has ks n) h) [
          | inl here ↦ rest.before n (first.named n l (ap (λ t. t || false) here))
          | inr later ↦ rest.named n (subst (λ (t : List Entry). n < pieces_of (made_graph index t).points) (sym first.list) l) later
        ];
      }

pub seals : (index : Index) (c : CoreState) (b : Begun) (order : List ℕ) → CoreFacts index c → open_begin index c ≡ Some b → c.sealed ≡ false → ((n : ℕ) → n < pieces_of (made_graph index c.list).points → has order n ≡ true) → graph_in (state_after index c (map event.Piece order ++ event.Seal ∷ [])).kept (segment_of b) ≡ Some (made_graph index c.list)
seals index c b order facts opened unsealed each =
    let d : CoreState = state_after index c (map event.Piece order) in
    let all : Finishes index c d order = all_done index b c order facts opened in
    let still : open_begin index d ≡ Some b = ap (λ (t : List Entry). (fold_of index (logged t)).begun) all.list ∙ opened in
    let points : (made_graph index c.list).points ≡ open_points index d = ap (λ (t : List Entry). (made_graph index t).points) (sym all.list) ∙ sym (points_are index d all.facts) in
    let there : all_finished d.pieces (pieces_of (open_points index d)) ≡ true =
    all_from d.pieces 0 (pieces_of (open_points index d)) (λ n l. let below = subst (λ (t : List Point). n < pieces_of t) (sym points) (let m : n < pieces_of (open_points index d) = omega (arith, l) in m) in all.named n below (each n below)) in
    let may : may_seal d (pieces_of (open_points index d)) ≡ true = ap (λ t. t && not d.sealed) there ∙ ap not (all.sealed ∙ unsealed) in
    let now : (core_step index d event.Seal).0 ≡ with_segment index d (segment_of b) (pieces_of (open_points index d)) =
    ap (λ (o : Option Begun). (seal index d o).0) still ∙ ap (λ t. (cond t (done (with_segment index d (segment_of b) (pieces_of (open_points index d)))) (refused d)).0) may in
    let whole : state_after index c (map event.Piece order ++ event.Seal ∷ []) ≡ (core_step index d event.Seal).0 = fold-append (λ (s : CoreState) (e : Event). (core_step index s e).0) c (map event.Piece order) (event.Seal ∷ []) in
    ap (λ (s : CoreState). graph_in s.kept (segment_of b)) (whole ∙ now)
    ∙ new_held index d all.facts b still may
    ∙ ap (λ (t : List Entry). Some (made_graph index t)) all.list
