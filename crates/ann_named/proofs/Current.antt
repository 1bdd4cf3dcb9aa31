-- The current segment of a list, at its base, with one more entry, and at an End.
use Rattle.std.proofs.Common.{◌≡◌, ℕ, ◌+◌, ◌-◌, ◌*◌, ◌≤◌, true, false, List, [], ◌∷◌, ◌++◌, refl, sym, ap, ◌∙◌, subst, arith, length, take, eqb-true}
use Rattle.std.specs.Prelude.{Option, Some, None, count_by}
use Rattle.std.specs.List.{list_any}
use Rattle.std.proofs.lemmas.Bool.{false≢true, or_parts}
use Rattle.std.proofs.Math.Seq.{take-append_seam}
use Rattle.ann_types.specs.Index.{Index}
use Rattle.ann_types.specs.Lists.{BasedList, bare, length_of, upto, with_entry, makes_point, next_pid}
use Rattle.ann_types.specs.Fold.{Begun, State, merge_of, fold_of}
use Rattle.ann_types.specs.Legal.{IsLegal, may_follow, names_segment}
use Rattle.ann_types.specs.declared.entry.Entry.{Entry}
use Rattle.ann_types.specs.declared.entry.Entry.TheVariants.{End}
use Rattle.ann_types.proofs.Options.{none_some}
use Rattle.ann_types.proofs.Folds.{fold_push, next_pid_push}
use Rattle.ann_laws.specs.Replays.{is_end}
use Rattle.ann_laws.proofs.Newer.{upto_push, open_within}
use Rattle.ann_segment.specs.Segment.{SegmentView}
use Rattle.ann_named.specs.Named.{named_after, named_from, named_in, IsNamed, AreBelow, IsCurrent}
use Rattle.ann_named.proofs.Entries.{named_push, named_stays, end_closes, Opened, before, here, opened_by}

-- ---- numbers and bounds

pub named_same : {S : Type 0} (g h : BasedList) (segment : Option (SegmentView S)) → named_in h ≡ named_in g → IsNamed g segment → IsNamed h segment
named_same g h None e w = e ∙ w
named_same g h (Some segment) e w = (w.0 ∙ sym e, λ none. w.1 (sym e ∙ none))

pub below_more : {S : Type 0} (m n : ℕ) (segment : Option (SegmentView S)) → m ≤ n → AreBelow m segment → AreBelow n segment
below_more m n None l w = tt
below_more m n (Some segment) l w = λ k x at. let less = w k x at in omega arith

pub next_more : (h : BasedList) (e : Entry) → next_pid h ≤ next_pid (with_entry h e)
next_more h e = let more = next_pid_push h e in omega arith

next_base : (h : BasedList) → h.base.next ≤ next_pid h
next_base h = omega arith

-- the list up to a position behind all its entries is the whole list
pub upto_here : (h : BasedList) (e : Entry) → next_pid h ≤ next_pid (upto (with_entry h e) (length_of h))
upto_here h e =
    let all : length_of h - h.base.position ≡ length h.entries = omega arith in
    let same : take (length_of h - h.base.position) (h.entries ++ e ∷ []) ≡ h.entries = ap (λ n. take n (h.entries ++ e ∷ [])) all ∙ take-append_seam h.entries (e ∷ []) in
    let count = ap (count_by makes_point) same in
    omega arith

-- ---- without an End

no_end : (number : ℕ) (es : List Entry) → list_any is_end es ≡ false → named_from number es ≡ number
no_end number [] n = refl
no_end number (e ∷ es) n =
    let both = or_parts (is_end e) (list_any is_end es) n in
    no_end (named_after number e) es both.1 ∙ named_stays number e both.0

pub base_current : {S : Type 0} (index : Index) (h : BasedList) (segment : Option (SegmentView S)) → list_any is_end h.entries ≡ false → IsNamed (bare h.base) segment → AreBelow h.base.next segment → IsCurrent index h segment
base_current index h segment n named below = record {
  named = named_same (bare h.base) h segment (no_end h.base.segment h.entries n) named;
  below = below_more h.base.next (next_pid h) segment (next_base h) below;
  older = λ b o. below_more h.base.next (next_pid (upto h b.position)) segment (next_base (upto h b.position)) below;
}

-- ---- one more entry

pub stays : {S : Type 0} (index : Index) (h : BasedList) (e : Entry) (segment : Option (SegmentView S)) → is_end e ≡ false → IsCurrent index h segment → IsCurrent index (with_entry h e) segment
stays index h e segment n w = record {
  named = named_same h (with_entry h e) segment (named_push h e ∙ named_stays (named_in h) e n) w.named;
  below = below_more (next_pid h) (next_pid (with_entry h e)) segment (next_more h e) w.below;
  older = λ b o. still b (opened_by index h (fold_of index h) e b n (sym (ap (λ (s : State). s.begun) (fold_push index h e)) ∙ o));
}
  where
    still : (b : Begun) → Opened h (fold_of index h) e b → AreBelow (next_pid (upto (with_entry h e) b.position)) segment
    still b (before o) =
        let first = open_within index h b o in
        let same = upto_push h e b.position (omega arith) in
        subst (λ (g : BasedList). AreBelow (next_pid g) segment) (sym same) (w.older b o)
    still b (here _ at) =
        below_more (next_pid h) (next_pid (upto (with_entry h e) b.position)) segment
        (subst (λ n. next_pid h ≤ next_pid (upto (with_entry h e) n)) (sym at) (upto_here h e)) w.below

pub stays_current : {S : Type 0} (index : Index) (h : BasedList) (e : Entry) (segment : Option (SegmentView S)) → IsLegal index h → may_follow index.params h (fold_of index h) e ≡ true → is_end e ≡ false → IsCurrent index h segment → IsCurrent index (with_entry h e) segment
stays_current index h e segment l m n w = stays index h e segment n w

-- ---- an End

not_none : (segment : ℕ) (o : Option Begun) → names_segment segment o ≡ true → segment ≡ 0 → ⊥
not_none segment None m none = false≢true m
not_none segment (Some b) m none = let is = eqb-true segment (2 * b.position + 1) m in omega arith

pub ends : {S : Type 0} (index : Index) (h : BasedList) (by : ℕ) (segment : SegmentView S) → (segment.number ≡ 0 → ⊥) → AreBelow (next_pid h) (Some segment) → IsCurrent index (with_entry h (End by segment.number)) (Some segment)
ends index h by segment some below =
    let after : BasedList = with_entry h (End by segment.number) in
    let s : State = fold_of index h in
    let is : named_in after ≡ segment.number = named_push h (End by segment.number) in
    record {
      named = (sym is, λ none. some (sym is ∙ none));
      below = below_more (next_pid h) (next_pid after) (Some segment) (next_more h (End by segment.number)) below;
      older = λ b o. absurd (none_some b (sym (end_closes s (merge_of index s s.begun) s.begun refl) ∙ ap (λ (t : State). t.begun) (sym (fold_push index h (End by segment.number))) ∙ o));
    }

pub end_current : {S : Type 0} (index : Index) (h : BasedList) (by : ℕ) (segment : SegmentView S) → may_follow index.params h (fold_of index h) (End by segment.number) ≡ true → AreBelow (next_pid h) (Some segment) → IsCurrent index (with_entry h (End by segment.number)) (Some segment)
end_current index h by segment m below = ends index h by segment (not_none segment.number (fold_of index h).begun m) below
