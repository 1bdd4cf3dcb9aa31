-- The segment of a list's last End is the current one.
use Rattle.std.proofs.Common.{◌≡◌, ◌≤◌, true, not, cond, List, [], ◌∷◌, ◌++◌, sym, ap, ◌∙◌, subst, arith, append_assoc}
use Rattle.std.specs.Prelude.{Option, Some}
use Rattle.std.specs.List.{list_all}
use Rattle.std.proofs.lemmas.Bool.{and_parts, not-true}
use Rattle.std.proofs.lemmas.List.Sums.{sum_by-append}
use Rattle.ann_types.specs.Index.{Index}
use Rattle.ann_types.specs.Lists.{BasedList, with_entry, with_entries, makes_point, next_pid}
use Rattle.ann_types.specs.Legal.{IsLegal}
use Rattle.ann_types.specs.declared.entry.Entry.{Entry}
use Rattle.ann_types.specs.declared.entry.Entry.TheVariants.{Begin, End}
use Rattle.ann_types.proofs.Folds.{entries_none, entries_then}
use Rattle.ann_laws.specs.Replays.{is_end, HasMerge, with_only}
use Rattle.ann_laws.proofs.Replayed.{merge_number}
use Rattle.ann_segment.specs.Segment.{SegmentView}
use Rattle.ann_named.specs.Named.{AreBelow, IsCurrent}
use Rattle.ann_named.proofs.Current.{below_more, stays, ends}

-- it stays so with further entries that are no Ends
all_stay : {S : Type 0} (index : Index) (h : BasedList) (es : List Entry) (segment : Option (SegmentView S)) → list_all (λ e. not (is_end e)) es ≡ true → IsCurrent index h segment → IsCurrent index (with_entries h es) segment
all_stay index h [] segment n w = subst (λ (g : BasedList). IsCurrent index g segment) (sym (entries_none h)) w
all_stay index h (e ∷ es) segment n w =
    let both = and_parts (not (is_end e)) (list_all (λ x. not (is_end x)) es) n in
    subst (λ (g : BasedList). IsCurrent index g segment) (entries_then h (e ∷ []) es)
    (all_stay index (with_entry h e) es segment both.1 (stays index h e segment (not-true (is_end e) both.0) w))

next_front : (h : BasedList) (front more : List Entry) → next_pid (with_only h front) ≤ next_pid (with_only h (front ++ more))
next_front h front more = let both = sum_by-append (λ x. cond (makes_point x) 1 0) front more in omega arith

pub merged_current : {S : Type 0} (index : Index) (h : BasedList) (before inside behind : List Entry) (segment : SegmentView S) → IsLegal index h → HasMerge h before inside segment.number behind → AreBelow (next_pid (with_only h before)) (Some segment) → IsCurrent index h (Some segment)
merged_current index h before inside behind segment legal m below =
    let front : BasedList = with_only h (before ++ Begin m.begin_by ∷ inside) in
    let number = merge_number index h before inside segment.number behind legal m in
    subst (λ (g : BasedList). IsCurrent index g (Some segment))
    (ap (λ (t : List Entry). with_only h t) (append_assoc front.entries (End m.end_by segment.number ∷ []) behind ∙ sym m.entries))
    (all_stay index (with_entry front (End m.end_by segment.number)) behind (Some segment) m.last
    (ends index front m.end_by segment (λ none. omega (arith, number, none))
    (below_more (next_pid (with_only h before)) (next_pid front) (Some segment) (next_front h before (Begin m.begin_by ∷ inside)) below)))
