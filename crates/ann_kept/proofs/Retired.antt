-- A number that no longer list names either.
use Rattle.std.proofs.Common.{◌≡◌, ◌≢◌, ℕ, ◌+◌, ◌*◌, ◌<◌, true, false, List, [], ◌∷◌, refl, sym, ap, ◌∙◌, subst, arith, eqb-true}
use Rattle.std.specs.Prelude.{Option, Some, None}
use Rattle.std.proofs.lemmas.Bool.{false≢true, and_parts}
use Rattle.std.proofs.lemmas.List.{length_push}
use Rattle.ann_types.specs.Fold.{Begun, State, merge_of, step, fold_of}
use Rattle.ann_types.specs.Index.{Index}
use Rattle.ann_types.specs.Legal.{IsLegal, is_legal, may_follow, names_segment}
use Rattle.ann_types.specs.Lists.{BasedList, with_entry, with_entries}
use Rattle.ann_types.specs.declared.entry.Entry.{Entry}
use Rattle.ann_types.specs.declared.entry.Entry.TheVariants.{Insert, Delete, Begin, End, Replace}
use Rattle.ann_types.proofs.Folds.{entries_none, entries_then, fold_push, legal_before, legal_push}
use Rattle.ann_types.proofs.Options.{none_some}
use Rattle.ann_laws.specs.Replays.{is_end}
use Rattle.ann_laws.proofs.Newer.{open_within}
use Rattle.ann_segment.specs.Segment.{SegmentView}
use Rattle.ann_named.specs.Named.{named_in, IsNamed}
use Rattle.ann_named.proofs.Entries.{named_push, named_stays, end_closes, Opened, before, here, opened_by}
use Rattle.ann_named.proofs.Numbers.{named_older}
use Rattle.ann_merge.specs.Job.{Order}
use Rattle.ann_mbegin.specs.Begun.{IsJobOf}
use Rattle.ann_kept.specs.Unnamed.{IsRetired}

-- ---- one more entry

module _ (index : Index) (h : BasedList) (number : ℕ) (is : IsRetired index h number) where
  begun_now : (e : Entry) (b : Begun) → (fold_of index (with_entry h e)).begun ≡ Some b → (step index h (fold_of index h) e).begun ≡ Some b
  begun_now e b o = sym (ap (λ (s : State). s.begun) (fold_push index h e)) ∙ o

  still_retired : (e : Entry) → is_end e ≡ false → IsRetired index (with_entry h e) number
  still_retired e none = record {
    unnamed = record {
      base = is.unnamed.base;
      last = λ same. is.unnamed.last (sym (named_push h e ∙ named_stays (named_in h) e none) ∙ same);
    };
    current = λ b o. greater b (opened_by index h (fold_of index h) e b none (begun_now e b o));
    next = (let size = length_push h.entries e in let less = is.next in omega (arith, size, less));
  }
    where
      greater : (b : Begun) → Opened h (fold_of index h) e b → number < 2 * b.position + 1
      greater b (before o) = is.current b o
      greater b (here _ at) = let less = is.next in omega (arith, at, less)

  end_retired : (by segment : ℕ) → may_follow index.params h (fold_of index h) (End by segment) ≡ true → IsRetired index (with_entry h (End by segment)) number
  end_retired by segment m = record {
    unnamed = record {
      base = is.unnamed.base;
      last = λ same. other (fold_of index h).begun refl m (sym (named_push h (End by segment)) ∙ same);
    };
    current = λ b o. absurd (none_some b (sym (end_closes (fold_of index h) (merge_of index (fold_of index h) (fold_of index h).begun) (fold_of index h).begun refl) ∙ begun_now (End by segment) b o));
    next = (let size = length_push h.entries (End by segment) in let less = is.next in omega (arith, size, less));
  }
    where
      other : (o : Option Begun) → (fold_of index h).begun ≡ o → names_segment segment o ≡ true → segment ≢ number
      other None o m = λ same. absurd (false≢true m)
      other (Some b) o m = λ same. let less = is.current b o in let names = eqb-true segment (2 * b.position + 1) m in absurd (omega (arith, less, names, same))

  entry_retired : (e : Entry) → may_follow index.params h (fold_of index h) e ≡ true → IsRetired index (with_entry h e) number
  entry_retired (Insert by tag vector) m = still_retired (Insert by tag vector) refl
  entry_retired (Delete by tag) m = still_retired (Delete by tag) refl
  entry_retired (Begin by) m = still_retired (Begin by) refl
  entry_retired (End by segment) m = end_retired by segment m
  entry_retired (Replace by tag vector) m = still_retired (Replace by tag vector) refl

-- What is retired stays so while the list grows.
pub stays_retired : (index : Index) (h : BasedList) (es : List Entry) (number : ℕ) → IsLegal index (with_entries h es) → IsRetired index h number → IsRetired index (with_entries h es) number
stays_retired index h [] number legal is = subst (λ (g : BasedList). IsRetired index g number) (sym (entries_none h)) is
stays_retired index h (e ∷ es) number legal is =
    let whole : IsLegal index (with_entries (with_entry h e) es) = subst (IsLegal index) (sym (entries_then h (e ∷ []) es)) legal in
    let first : is_legal index (with_entry h e) ≡ true = legal_before index (with_entry h e) es whole.entries in
    let follows = (and_parts (is_legal index h) (may_follow index.params h (fold_of index h) e) (sym (legal_push index h e) ∙ first)).1 in
    subst (λ (g : BasedList). IsRetired index g number) (entries_then h (e ∷ []) es)
    (stays_retired index (with_entry h e) es number whole (entry_retired index h number is e follows))

-- ---- at an End

named_number : {S : Type 0} (h : BasedList) (old : Option (SegmentView S)) (segment : SegmentView S) → old ≡ Some segment → IsNamed h old → segment.number ≡ named_in h
named_number h old segment is named = (subst (IsNamed h) is named).0

pub ended_retired : {S : Type 0} (index : Index) (h : BasedList) (order : Order S) (segment : SegmentView S) (by : ℕ) → IsLegal index h → h.base.segment < 2 * h.base.position + 1 → IsJobOf index h order → order.old ≡ Some segment → h.base.segment ≢ segment.number → IsRetired index (with_entries h (End by order.number ∷ [])) segment.number
ended_retired index h order segment by legal first job old apart =
    let e : Entry = End by order.number in
    let s : State = fold_of index h in
    let number = job.numbered in
    let less = named_older index h job.begun legal first job.open_now in
    let named = named_number h order.old segment old job.named in
    let within = open_within index h job.begun job.open_now in
    let size = length_push h.entries e in
    let push = named_push h e in
    record {
      unnamed = record {
        base = apart;
        last = λ same. absurd (omega (arith, number, less, named, push, same));
      };
      current = λ b o. absurd (none_some b (sym (end_closes s (merge_of index s s.begun) s.begun refl) ∙ ap (λ (t : State). t.begun) (sym (fold_push index h e)) ∙ o));
      next = omega (arith, less, named, within, size);
    }
