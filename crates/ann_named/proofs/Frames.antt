-- What lasts over each entry that is no End lasts over a frame of them.
use Rattle.std.proofs.Common.{◌≡◌, true, false, not, List, [], ◌∷◌, sym, ◌∙◌, subst}
use Rattle.std.specs.List.{list_all}
use Rattle.std.specs.Prelude.{Option}
use Rattle.std.proofs.lemmas.Bool.{and_parts, not-true}
use Rattle.ann_types.specs.Index.{Index}
use Rattle.ann_types.specs.Lists.{BasedList, with_entry, with_entries}
use Rattle.ann_types.specs.Fold.{fold_of}
use Rattle.ann_types.specs.Legal.{IsLegal, is_legal, may_follow}
use Rattle.ann_types.specs.declared.entry.Entry.{Entry}
use Rattle.ann_types.proofs.Folds.{entries_none, entries_then, legal_before, legal_push}
use Rattle.ann_laws.specs.Replays.{is_end}
use Rattle.ann_segment.specs.Segment.{SegmentView}
use Rattle.ann_named.specs.Named.{IsCurrent}
use Rattle.ann_named.proofs.Current.{stays_current}

-- it lasts over an entry that is no End and may follow
abbrev pub Lasts : Index → (BasedList → Type 0) → Type 0
Lasts index P =
    (h : BasedList) (e : Entry) → IsLegal index h → may_follow index.params h (fold_of index h) e ≡ true → is_end e ≡ false
    → P h → P (with_entry h e)

pub lasts_all : (index : Index) (P : BasedList → Type 0) → Lasts index P → (h : BasedList) (es : List Entry) → IsLegal index (with_entries h es) → list_all (λ e. not (is_end e)) es ≡ true → P h → P (with_entries h es)
lasts_all index P one h [] l n p = subst P (sym (entries_none h)) p
lasts_all index P one h (e ∷ es) l n p =
    let both = and_parts (not (is_end e)) (list_all (λ x. not (is_end x)) es) n in
    let whole : IsLegal index (with_entries (with_entry h e) es) = subst (IsLegal index) (sym (entries_then h (e ∷ []) es)) l in
    let first : is_legal index (with_entry h e) ≡ true = legal_before index (with_entry h e) es whole.entries in
    let parts = and_parts (is_legal index h) (may_follow index.params h (fold_of index h) e) (sym (legal_push index h e) ∙ first) in
    let here : IsLegal index h = record { base = l.base; entries = parts.0 } in
    subst P (entries_then h (e ∷ []) es)
    (lasts_all index P one (with_entry h e) es whole both.1 (one h e here parts.1 (not-true (is_end e) both.0) p))

pub all_current : {S : Type 0} (index : Index) (h : BasedList) (es : List Entry) (segment : Option (SegmentView S)) → IsLegal index (with_entries h es) → list_all (λ e. not (is_end e)) es ≡ true → IsCurrent index h segment → IsCurrent index (with_entries h es) segment
all_current index h es segment = lasts_all index (λ g. IsCurrent index g segment) (λ g e. stays_current index g e segment) h es
