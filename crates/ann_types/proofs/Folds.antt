-- The laws of lists and of the fold, one entry and many entries at a time: a prefix of a legal list is
-- legal, and a live tag stays live until it is deleted.
use Rattle.std.proofs.Common.{◌≡◌, ℕ, ◌+◌, ◌-◌, Bool, true, false, cond, eqb, not, List, [], ◌∷◌, ◌++◌, ◌&&◌, ◌||◌, refl, sym, ap, ◌∙◌, subst, arith, drop, append_assoc, append-nil, count_by, inl, inr, eqb-true}
use Rattle.std.specs.List.{list_all}
use Rattle.std.proofs.lemmas.Bool.{false≢true, and_parts, or_cases, or_left, or_right, both_ways, not-true}
use Rattle.std.proofs.lemmas.List.{take-append-drop}
use Rattle.std.proofs.lemmas.List.Folds.{list_any-append}
use Rattle.std.proofs.lemmas.List.Sums.{sum_by-cons, sum_by_push}
use Rattle.ann_types.specs.Index.{Index}
use Rattle.ann_types.specs.Lists.{ListBase, BasedList, bare, upto, with_entries, with_entry, BeginsWith, makes_point, next_pid, Names, names_of, is_live, unmapped, mapped, live_after, live_from, live_of}
use Rattle.ann_types.specs.Fold.{State, start, step, fold_from, fold_of}
use Rattle.ann_types.specs.Legal.{may_follow, legal_from, is_legal}
use Rattle.ann_types.specs.declared.entry.Entry.{Entry}
use Rattle.ann_types.specs.declared.entry.Entry.TheVariants.{Insert, Delete, Begin, End, Replace}

-- ---- lists with further entries

pub entries_then : (h : BasedList) (es fs : List Entry) → with_entries (with_entries h es) fs ≡ with_entries h (es ++ fs)
entries_then h es fs = ap (λ (t : List Entry). let g : BasedList = record { base = h.base; entries = t } in g) (append_assoc h.entries es fs)

pub entries_none : (h : BasedList) → with_entries h [] ≡ h
entries_none h = ap (λ (t : List Entry). let g : BasedList = record { base = h.base; entries = t } in g) (append-nil h.entries)

-- a list is its first entries and the rest
pub upto_then : (h : BasedList) (n : ℕ) → with_entries (upto h n) (drop (n - h.base.position) h.entries) ≡ h
upto_then h n = ap (λ (t : List Entry). let g : BasedList = record { base = h.base; entries = t } in g) (take-append-drop (n - h.base.position) h.entries)

-- ---- the next Pid

pub next_pid_push : (h : BasedList) (e : Entry) → next_pid (with_entry h e) ≡ next_pid h + cond (makes_point e) 1 0
next_pid_push h e = let more = sum_by_push (λ x. cond (makes_point x) 1 0) h.entries e in omega arith

-- ---- live tags

pub live_append : (live : Names) (next : ℕ) (es fs : List Entry) → live_from live next (es ++ fs) ≡ live_from (live_from live next es) (next + count_by makes_point es) fs
live_append live next [] fs = ap (λ n. live_from live n fs) (let e : next ≡ next + 0 = omega arith in e)
live_append live next (e ∷ es) fs =
    live_append (live_after live next e) (next + cond (makes_point e) 1 0) es fs
    ∙ ap (λ n. live_from (live_from (live_after live next e) (next + cond (makes_point e) 1 0) es) n fs) (count next e es)
  where
    count : (next : ℕ) (e : Entry) (es : List Entry) → next + cond (makes_point e) 1 0 + count_by makes_point es ≡ next + count_by makes_point (e ∷ es)
    count next e es = let more = sum_by-cons (λ x. cond (makes_point x) 1 0) e es in omega arith

pub live_push : (h : BasedList) (e : Entry) → live_of (with_entry h e) ≡ live_after (live_of h) (next_pid h) e
live_push h e = live_append (names_of h.base.graph.points) h.base.next h.entries (e ∷ [])

pub live_entries : (h : BasedList) (es : List Entry) → live_of (with_entries h es) ≡ live_from (live_of h) (next_pid h) es
live_entries h es = live_append (names_of h.base.graph.points) h.base.next h.entries es

-- ---- the fold

pub fold_append : (index : Index) (h : BasedList) (s : State) (es fs : List Entry) → fold_from index h s (es ++ fs) ≡ fold_from index (with_entries h es) (fold_from index h s es) fs
fold_append index h s [] fs = ap (λ (g : BasedList). fold_from index g s fs) (sym (entries_none h))
fold_append index h s (e ∷ es) fs =
    fold_append index (with_entry h e) (step index h s e) es fs
    ∙ ap (λ (g : BasedList). fold_from index g (fold_from index (with_entry h e) (step index h s e) es) fs) (entries_then h (e ∷ []) es)

pub fold_entries : (index : Index) (h : BasedList) (es : List Entry) → fold_of index (with_entries h es) ≡ fold_from index h (fold_of index h) es
fold_entries index h es = fold_append index (bare h.base) (start h.base.graph) h.entries es

pub fold_push : (index : Index) (h : BasedList) (e : Entry) → fold_of index (with_entry h e) ≡ step index h (fold_of index h) e
fold_push index h e = fold_entries index h (e ∷ [])

-- ---- legal lists

and_assoc : (a b c : Bool) → (a && (b && c)) ≡ ((a && b) && c)
and_assoc true b c = refl
and_assoc false b c = refl

and_true : (a : Bool) → (a && true) ≡ a
and_true true = refl
and_true false = refl

pub legal_append : (index : Index) (h : BasedList) (s : State) (es fs : List Entry) → legal_from index h s (es ++ fs) ≡ (legal_from index h s es && legal_from index (with_entries h es) (fold_from index h s es) fs)
legal_append index h s [] fs = ap (λ (g : BasedList). legal_from index g s fs) (sym (entries_none h))
legal_append index h s (e ∷ es) fs =
    ap (λ t. may_follow index.params h s e && t)
    (legal_append index (with_entry h e) (step index h s e) es fs
    ∙ ap (λ (g : BasedList). legal_from index (with_entry h e) (step index h s e) es && legal_from index g (fold_from index (with_entry h e) (step index h s e) es) fs) (entries_then h (e ∷ []) es))
    ∙ and_assoc (may_follow index.params h s e) (legal_from index (with_entry h e) (step index h s e) es) (legal_from index (with_entries h (e ∷ es)) (fold_from index (with_entry h e) (step index h s e) es) fs)

pub legal_entries : (index : Index) (h : BasedList) (es : List Entry) → is_legal index (with_entries h es) ≡ (is_legal index h && legal_from index h (fold_of index h) es)
legal_entries index h es = legal_append index (bare h.base) (start h.base.graph) h.entries es

-- A legal list stays legal with one more entry exactly where the entry may follow it.
pub legal_push : (index : Index) (h : BasedList) (e : Entry) → is_legal index (with_entry h e) ≡ (is_legal index h && may_follow index.params h (fold_of index h) e)
legal_push index h e =
    legal_entries index h (e ∷ [])
    ∙ ap (λ t. is_legal index h && t) (and_true (may_follow index.params h (fold_of index h) e))

-- A prefix of a legal list is legal.
pub legal_before : (index : Index) (h : BasedList) (es : List Entry) → is_legal index (with_entries h es) ≡ true → is_legal index h ≡ true
legal_before index h es l = (and_parts _ _ (sym (legal_entries index h es) ∙ l)).0

pub legal_upto : (index : Index) (h : BasedList) (n : ℕ) → is_legal index h ≡ true → is_legal index (upto h n) ≡ true
legal_upto index h n l =
    legal_before index (upto h n) (drop (n - h.base.position) h.entries) (subst (λ (g : BasedList). is_legal index g ≡ true) (sym (upto_then h n)) l)

-- what is left of a list that begins with another
pub begins_then : (h g : BasedList) → BeginsWith h g → (es : List Entry) × (h ≡ with_entries g es)
begins_then h g b = (
  b.entries.0,
  ap (λ (t : ListBase). let l : BasedList = record { base = t; entries = h.entries } in l) b.base
      ∙ ap (λ (t : List Entry). let l : BasedList = record { base = g.base; entries = t } in l) (sym b.entries.1),
)

pub legal_begins : (index : Index) (h g : BasedList) → BeginsWith h g → is_legal index h ≡ true → is_legal index g ≡ true
legal_begins index h g b l =
    let rest = begins_then h g b in
    legal_before index g rest.0 (subst (λ (t : BasedList). is_legal index t ≡ true) rest.1 l)

-- ---- A live tag stays live in every longer list whose further entries don't delete it

-- an entry that doesn't delete this tag
abbrev pub spares : ℕ → Entry → Bool
spares tag (Insert by t vector) = true
spares tag (Delete by t) = not (eqb t tag)
spares tag (Begin by) = true
spares tag (End by segment) = true
spares tag (Replace by t vector) = true

-- taking out a tag leaves the others
pub other_unmapped : (live : Names) (t tag : ℕ) → eqb t tag ≡ false → is_live live tag ≡ true → is_live (unmapped live t) tag ≡ true
other_unmapped [] t tag ne h = absurd (false≢true h)
other_unmapped (e ∷ live) t tag ne h =
    elim (eqb e.0 t) as (λ b. eqb e.0 t ≡ b → is_live (cond (not b) (e ∷ unmapped live t) (unmapped live t)) tag ≡ true) [
      | true ↦ λ same. elim (or_cases (eqb e.0 tag) (is_live live tag) h) [
        | inl here ↦ absurd (both_ways (eqb t tag) ne (subst (λ (x : ℕ). eqb x tag ≡ true) (eqb-true e.0 t same) here))
        | inr later ↦ other_unmapped live t tag ne later
      ]
      | false ↦ λ differ. elim (or_cases (eqb e.0 tag) (is_live live tag) h) [
        | inl here ↦ or_left (eqb e.0 tag) (is_live (unmapped live t) tag) here
        | inr later ↦ or_right (eqb e.0 tag) (is_live (unmapped live t) tag) (other_unmapped live t tag ne later)
      ]
    ] refl

pub stays_mapped : (live : Names) (t tag pid : ℕ) → is_live live tag ≡ true → is_live (mapped live t pid) tag ≡ true
stays_mapped live t tag pid h =
    list_any-append (λ e. eqb e.0 tag) (unmapped live t) ((t, pid) ∷ [])
    ∙ elim (eqb t tag) as (λ b. eqb t tag ≡ b → (is_live (unmapped live t) tag || (b || false)) ≡ true) [
      | true ↦ λ e. or_right (is_live (unmapped live t) tag) true refl
      | false ↦ λ e. or_left (is_live (unmapped live t) tag) false (other_unmapped live t tag e h)
    ] refl

pub stays_after : (live : Names) (next tag : ℕ) (e : Entry) → spares tag e ≡ true → is_live live tag ≡ true → is_live (live_after live next e) tag ≡ true
stays_after live next tag (Insert by t vector) s h = stays_mapped live t tag next h
stays_after live next tag (Delete by t) s h = other_unmapped live t tag (not-true (eqb t tag) s) h
stays_after live next tag (Begin by) s h = h
stays_after live next tag (End by segment) s h = h
stays_after live next tag (Replace by t vector) s h = stays_mapped live t tag next h

stays_from : (live : Names) (next tag : ℕ) (es : List Entry) → list_all (spares tag) es ≡ true → is_live live tag ≡ true → is_live (live_from live next es) tag ≡ true
stays_from live next tag [] s h = h
stays_from live next tag (e ∷ es) s h =
    let both = and_parts (spares tag e) (list_all (spares tag) es) s in
    stays_from (live_after live next e) (next + cond (makes_point e) 1 0) tag es both.1 (stays_after live next tag e both.0 h)

pub stays_live : (h : BasedList) (es : List Entry) (tag : ℕ) → list_all (spares tag) es ≡ true → is_live (live_of h) tag ≡ true → is_live (live_of (with_entries h es)) tag ≡ true
stays_live h es tag s l = subst (λ (t : Names). is_live t tag ≡ true) (sym (live_entries h es)) (stays_from (live_of h) (next_pid h) tag es s l)
