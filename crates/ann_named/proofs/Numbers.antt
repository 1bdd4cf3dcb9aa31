-- The number that a list names is below that of its open merge.
use Rattle.std.proofs.Common.{◌≡◌, ℕ, ◌+◌, ◌*◌, ◌<◌, true, false, List, [], ◌∷◌, refl, sym, ◌∙◌, subst, arith, eqb-true}
use Rattle.std.specs.Prelude.{Option, Some, None}
use Rattle.std.proofs.lemmas.Bool.{false≢true, and_parts}
use Rattle.std.proofs.lemmas.List.{length_push}
use Rattle.ann_types.specs.Index.{Index}
use Rattle.ann_types.specs.Lists.{BasedList, bare, length_of, with_entry, with_entries}
use Rattle.ann_types.specs.Fold.{Begun, State, start, merge_of, step, fold_from, fold_of}
use Rattle.ann_types.specs.Legal.{IsLegal, may_follow, names_segment, legal_from}
use Rattle.ann_types.specs.declared.entry.Entry.{Entry}
use Rattle.ann_types.specs.declared.entry.Entry.TheVariants.{Insert, Delete, Begin, End, Replace}
use Rattle.ann_types.proofs.Options.{none_some}
use Rattle.ann_types.proofs.Folds.{entries_none, entries_then}
use Rattle.ann_laws.specs.Replays.{is_end}
use Rattle.ann_named.specs.Named.{named_in}
use Rattle.ann_named.proofs.Entries.{named_push, named_stays, end_closes, Opened, before, here, opened_by}

-- what is named is below the number of a merge that would begin, and of the one that is open
record AreOlder (h : BasedList) (s : State) : Type 0 where
  next : named_in h < 2 * length_of h + 1
  now : (b : Begun) → s.begun ≡ Some b → (named_in h < 2 * b.position + 1) × (b.position < length_of h)

keep_older : (index : Index) (h : BasedList) (s : State) (e : Entry) → is_end e ≡ false → AreOlder h s → AreOlder (with_entry h e) (step index h s e)
keep_older index h s e n w =
    let size = length_push h.entries e in
    let is : named_in (with_entry h e) ≡ named_in h = named_push h e ∙ named_stays (named_in h) e n in
    let next = w.next in
    record {
      next = omega arith;
      now = λ b o. still is b (opened_by index h s e b n o);
    }
  where
    still : named_in (with_entry h e) ≡ named_in h → (b : Begun) → Opened h s e b → (named_in (with_entry h e) < 2 * b.position + 1) × (b.position < length_of (with_entry h e))
    still is b (before o) = let size = length_push h.entries e in let old = w.now b o in let less = old.0 in let first = old.1 in (omega arith, omega arith)
    still is b (here _ at) = let size = length_push h.entries e in let next = w.next in (omega arith, omega arith)

end_older : (index : Index) (h : BasedList) (s : State) (by segment : ℕ) → may_follow index.params h s (End by segment) ≡ true → AreOlder h s → AreOlder (with_entry h (End by segment)) (step index h s (End by segment))
end_older index h s by segment m w = record {
  next = below s.begun refl m;
  now = λ b o. absurd (none_some b (sym (end_closes s (merge_of index s s.begun) s.begun refl) ∙ o));
}
  where
    below : (o : Option Begun) → s.begun ≡ o → names_segment segment o ≡ true → named_in (with_entry h (End by segment)) < 2 * length_of (with_entry h (End by segment)) + 1
    below None o m = absurd (false≢true m)
    below (Some b) o m =
        let size = length_push h.entries (End by segment) in
        let is = named_push h (End by segment) in
        let number = eqb-true segment (2 * b.position + 1) m in
        let first = (w.now b o).1 in
        omega arith

step_older : (index : Index) (h : BasedList) (s : State) (e : Entry) → may_follow index.params h s e ≡ true → AreOlder h s → AreOlder (with_entry h e) (step index h s e)
step_older index h s (Insert by tag vector) m w = keep_older index h s (Insert by tag vector) refl w
step_older index h s (Delete by tag) m w = keep_older index h s (Delete by tag) refl w
step_older index h s (Begin by) m w = keep_older index h s (Begin by) refl w
step_older index h s (End by segment) m w = end_older index h s by segment m w
step_older index h s (Replace by tag vector) m w = keep_older index h s (Replace by tag vector) refl w

fold_older : (index : Index) (h : BasedList) (s : State) (es : List Entry) → legal_from index h s es ≡ true → AreOlder h s → AreOlder (with_entries h es) (fold_from index h s es)
fold_older index h s [] l w = subst (λ (g : BasedList). AreOlder g s) (sym (entries_none h)) w
fold_older index h s (e ∷ es) l w =
    let after : State = step index h s e in
    let both = and_parts (may_follow index.params h s e) (legal_from index (with_entry h e) after es) l in
    subst (λ (g : BasedList). AreOlder g (fold_from index (with_entry h e) after es)) (entries_then h (e ∷ []) es)
    (fold_older index (with_entry h e) after es both.1 (step_older index h s e both.0 w))

pub named_older : (index : Index) (h : BasedList) (b : Begun) → IsLegal index h → h.base.segment < 2 * h.base.position + 1 → (fold_of index h).begun ≡ Some b → named_in h < 2 * b.position + 1
named_older index h b l first o =
    ((fold_older index (bare h.base) (start h.base.graph) h.entries l.entries (record { next = omega arith; now = λ c none. absurd (none_some c none) })).now b o).0
