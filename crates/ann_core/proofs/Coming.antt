-- What each event leaves of a core.
use Rattle.std.proofs.Common.{◌≡◌, ◌∙◌, ℕ, zero, suc, eqb, ◌+◌, ◌-◌, ◌≤◌, ◌<◌, Bool, true, false, cond, not, ◌&&◌, List, [], ◌++◌, map, take, drop, length, nat_lt, nat_le, refl, sym, ap, subst, arith}
use Rattle.std.specs.List.{list_any}
use Rattle.std.proofs.lemmas.Bool.{false≢true, lt-ltb, le-leb}
use Rattle.std.proofs.lemmas.List.{take-append-drop}
use Rattle.ann_types.specs.Index.{Index}
use Rattle.ann_types.specs.Legal.{is_legal}
use Rattle.ann_types.specs.Order.{has}
use Rattle.ann_types.specs.declared.entry.Entry.{Entry}
use Rattle.ann_types.proofs.Booleans.{and_false}
use Rattle.ann_types.proofs.Folds.{legal_before}
use Rattle.ann_laws.specs.Replays.{is_end}
use Rattle.ann_reopen.specs.Judged.{IsFirstIllegal}
use Rattle.ann_core_laws.specs.State.{Piece, CoreState, logged, in_use, is_kept}
use Rattle.ann_core_laws.specs.Events.{frame_end, may_append, appended, frame, refused, done, is_begin, may_remove, remove, without_segment, core_step}
use Rattle.ann_core_laws.specs.Facts.{CoreFacts}
use Rattle.ann_core_laws.specs.declared.event.Event.{Event}
use Rattle.ann_core_laws.specs.declared.event.Event.TheVariants as event
use Rattle.ann_core_laws.specs.declared.step.Step.{Step}
use Rattle.ann_core_laws.specs.declared.step.Step.TheVariants.{Done, NotAllowed}
use Rattle.ann_core_laws.proofs.Kept.{kept_step}
use Rattle.ann_core.specs.Core.{CoreView, IsCoreOf, ComesTo, with_list}
use Rattle.ann_core.specs.Kept.{is_kept_in, without_text}
use Rattle.ann_core.proofs.Keeping.{kept_same, without_same}

module _ (index : Index) (v : CoreView) (c : CoreState) (core : IsCoreOf index v c) where
  -- an event that isn't allowed
  pub stays : ComesTo index (refused c) v NotAllowed
  stays = record { step_is = refl; state = core }

  pub refused_by : (next : CoreState) (may : Bool) → may ≡ false → ComesTo index (cond may (done next) (refused c)) v NotAllowed
  refused_by next may e = subst (λ (b : Bool). ComesTo index (cond b (done next) (refused c)) v NotAllowed) (sym e) stays

  facts_after : (e : Event) (d : CoreState) → (core_step index c e).0 ≡ d → CoreFacts index d
  facts_after e d same = subst (CoreFacts index) same (kept_step index c e core.facts)

  -- ---- a frame

  module _ (entries : List Entry) where
    abbrev legal_one : Bool
    legal_one = is_legal index (logged (c.list ++ entries))

    pub frame_refused : is_legal index (logged (v.list ++ entries)) ≡ false → ComesTo index (frame index c entries) v NotAllowed
    frame_refused e =
        let not_legal : legal_one ≡ false = ap (λ (t : List Entry). is_legal index (logged (t ++ entries))) (sym core.list) ∙ e in
        refused_by (appended c entries) (may_append index c entries)
        (ap (λ b. nat_lt 0 (length entries) && nat_le (length entries) frame_end && not (list_any is_end entries) && b) not_legal
        ∙ and_false (nat_lt 0 (length entries) && nat_le (length entries) frame_end && not (list_any is_end entries)))

    pieces_are : (b : Bool) → cond b [] v.pieces ≡ map (λ (x : Piece). x.number) (cond b [] c.pieces)
    pieces_are true = refl
    pieces_are false = core.pieces

    pub frame_done : 0 < length entries → length entries ≤ 64 → list_any is_end entries ≡ false → is_legal index (logged (v.list ++ entries)) ≡ true → ComesTo index (frame index c entries) (with_list v (v.list ++ entries) (list_any is_begin entries)) Done
    frame_done some few no_end legal =
        let is_one : legal_one ≡ true = ap (λ (t : List Entry). is_legal index (logged (t ++ entries))) (sym core.list) ∙ legal in
        let may : may_append index c entries ≡ true =
        ap (λ b. b && nat_le (length entries) frame_end && not (list_any is_end entries) && legal_one) (lt-ltb 0 (length entries) some)
        ∙ ap (λ b. b && not (list_any is_end entries) && legal_one) (le-leb (length entries) frame_end few)
        ∙ ap (λ b. not b && legal_one) no_end
        ∙ is_one in
        let now : frame index c entries ≡ done (appended c entries) = ap (λ b. cond b (done (appended c entries)) (refused c)) may in
        subst (λ (next : CoreState × Step). ComesTo index next (with_list v (v.list ++ entries) (list_any is_begin entries)) Done) (sym now)
        (record {
          step_is = refl;
          state = record {
            index_is = core.index_is;
            sizes = core.sizes;
            list = ap (λ (t : List Entry). t ++ entries) core.list;
            shown = core.shown;
            pins = core.pins;
            pieces = pieces_are (list_any is_begin entries);
            sealed = core.sealed;
            kept = core.kept;
            facts = facts_after (event.Frame entries) (appended c entries) (ap (λ (next : CoreState × Step). next.0) now);
          };
        })

  -- ---- a removal

  pub remove_refused : (n : ℕ) → is_kept_in v.kept n ≡ false → ComesTo index (remove index c n) v NotAllowed
  remove_refused n e =
      refused_by (without_segment c n) (may_remove index c n)
      (ap (λ b. b && not (has (in_use index c) n)) (sym (kept_same index v.kept c.kept n core.kept) ∙ e))

  pub remove_used : (n : ℕ) → has (in_use index c) n ≡ true → ComesTo index (remove index c n) v NotAllowed
  remove_used n e =
      refused_by (without_segment c n) (may_remove index c n)
      (ap (λ b. is_kept c.kept n && not b) e ∙ and_false (is_kept c.kept n))

  pub remove_done : (n : ℕ) → is_kept_in v.kept n ≡ true → has (in_use index c) n ≡ false → ComesTo index (remove index c n) (record v { kept = without_text v.kept n }) Done
  remove_done n kept free =
      let may : may_remove index c n ≡ true =
      ap (λ b. b && not (has (in_use index c) n)) (sym (kept_same index v.kept c.kept n core.kept) ∙ kept) ∙ ap not free in
      let now : remove index c n ≡ done (without_segment c n) = ap (λ b. cond b (done (without_segment c n)) (refused c)) may in
      subst (λ (next : CoreState × Step). ComesTo index next (record v { kept = without_text v.kept n }) Done) (sym now)
      (record {
        step_is = refl;
        state = record {
          index_is = core.index_is;
          sizes = core.sizes;
          list = core.list;
          shown = core.shown;
          pins = core.pins;
          pieces = core.pieces;
          sealed = core.sealed;
          kept = without_same index v.kept c.kept n core.kept;
          facts = facts_after (event.Remove n) (without_segment c n) (ap (λ (next : CoreState × Step). next.0) now);
        };
      })

-- ---- a list that isn't legal

pub illegal : (index : Index) (entries : List Entry) (at : ℕ) → IsFirstIllegal index (logged entries) at → is_legal index (logged entries) ≡ false
illegal index entries at w =
    elim (is_legal index (logged entries)) as (λ b. is_legal index (logged entries) ≡ b → b ≡ false) [
      | false ↦ λ e. refl
      | true ↦ λ e.
          let n : ℕ = at + 1 - 0 in
          let whole : is_legal index (logged (take n entries ++ drop n entries)) ≡ true = ap (λ (t : List Entry). is_legal index (logged t)) (take-append-drop n entries) ∙ e in
          absurd (false≢true (sym w.at ∙ legal_before index (logged (take n entries)) (drop n entries) whole))
    ] refl

pub some_of : (n : ℕ) (b : Bool) → b ≡ eqb n 0 → b ≡ false → 0 < n
some_of zero b e f = absurd (false≢true (sym f ∙ e))
some_of (suc n) b e f = omega arith
