-- Live tags as a map: each tag stands once, and the next Pid is at most the end of the Pids.
use Rattle.std.proofs.Common.{◌≡◌, ◌≢◌, ℕ, suc, ◌+◌, ◌≤◌, ◌<◌, Bool, true, false, cond, eqb, ltb, not, List, [], ◌∷◌, ◌++◌, ◌||◌, refl, sym, ap, ◌∙◌, subst, arith, map, filter, length, get_or, eqb-true, eq-eqb, AllPairs, ltb-true}
use Rattle.std.proofs.lemmas.Bool.{false≢true, or_parts, or_from, and_parts, both_ways, ne_eqb}
use Rattle.std.proofs.lemmas.List.Folds.{list_any-append}
use Rattle.ann_types.specs.Graph.{Point}
use Rattle.ann_types.specs.Index.{Index}
use Rattle.ann_types.specs.Lists.{BasedList, bare, with_entry, with_entries, IsBaseOf, makes_point, next_pid, Names, names_of, is_live, pids_at, unmapped, live_after, live_from, live_of}
use Rattle.ann_types.specs.Fold.{State, start, step}
use Rattle.ann_types.specs.Legal.{pid_end, fits, may_follow, legal_from, is_legal}
use Rattle.ann_types.specs.declared.params.Params.{Params}
use Rattle.ann_types.specs.declared.entry.Entry.{Entry}
use Rattle.ann_types.specs.declared.entry.Entry.TheVariants.{Insert, Delete, Begin, End, Replace}
use Rattle.ann_types.proofs.Folds.{entries_none, entries_then, next_pid_push}

-- ---- each tag once

abbrev pub TagsDiffer : Names → Type 0
TagsDiffer [] = Unit {0}
TagsDiffer (e ∷ es) = (is_live es e.0 ≡ false) × TagsDiffer es

still_none : (es : Names) (q : ℕ × ℕ → Bool) (tag : ℕ) → is_live es tag ≡ false → is_live (filter q es) tag ≡ false
still_none [] q tag h = refl
still_none (e ∷ es) q tag h =
    let both = or_parts (eqb e.0 tag) (is_live es tag) h in
    elim (q e) as (λ t. is_live (cond t (e ∷ filter q es) (filter q es)) tag ≡ false) [
      | true ↦ or_from (eqb e.0 tag) (is_live (filter q es) tag) both.0 (still_none es q tag both.1)
      | false ↦ still_none es q tag both.1
    ]

differ_filter : (es : Names) (q : ℕ × ℕ → Bool) → TagsDiffer es → TagsDiffer (filter q es)
differ_filter [] q d = tt
differ_filter (e ∷ es) q (h, d) = elim (q e) as (λ t. TagsDiffer (cond t (e ∷ filter q es) (filter q es))) [ true ↦ (still_none es q e.0 h, differ_filter es q d) | false ↦ differ_filter es q d ]

-- a tag that was taken out isn't live
pub taken_out : (es : Names) (tag : ℕ) → is_live (unmapped es tag) tag ≡ false
taken_out [] tag = refl
taken_out (e ∷ es) tag =
    elim (eqb e.0 tag) as (λ t. eqb e.0 tag ≡ t → is_live (cond (not t) (e ∷ unmapped es tag) (unmapped es tag)) tag ≡ false) [
      | true ↦ λ same. taken_out es tag
      | false ↦ λ differ. or_from (eqb e.0 tag) (is_live (unmapped es tag) tag) differ (taken_out es tag)
    ] refl

differ_push : (es : Names) (tag pid : ℕ) → is_live es tag ≡ false → TagsDiffer es → TagsDiffer (es ++ (tag, pid) ∷ [])
differ_push [] tag pid n d = (refl, tt)
differ_push (e ∷ es) tag pid n (h, d) =
    let both = or_parts (eqb e.0 tag) (is_live es tag) n in
    let other : eqb tag e.0 ≡ false = ne_eqb tag e.0 (λ s. both_ways _ both.0 (eq-eqb e.0 tag (sym s))) in
    (list_any-append (λ x. eqb x.0 e.0) es ((tag, pid) ∷ []) ∙ or_from (is_live es e.0) (eqb tag e.0 || false) h (or_from (eqb tag e.0) false other refl), differ_push es tag pid both.1 d)

differ_after : (live : Names) (next : ℕ) (e : Entry) → TagsDiffer live → TagsDiffer (live_after live next e)
differ_after live next (Insert by tag vector) d = differ_push (unmapped live tag) tag next (taken_out live tag) (differ_filter live (λ x. not (eqb x.0 tag)) d)
differ_after live next (Delete by tag) d = differ_filter live (λ x. not (eqb x.0 tag)) d
differ_after live next (Begin by) d = d
differ_after live next (End by segment) d = d
differ_after live next (Replace by tag vector) d = differ_push (unmapped live tag) tag next (taken_out live tag) (differ_filter live (λ x. not (eqb x.0 tag)) d)

differ_from : (live : Names) (next : ℕ) (es : List Entry) → TagsDiffer live → TagsDiffer (live_from live next es)
differ_from live next [] d = d
differ_from live next (e ∷ es) d = differ_from (live_after live next e) (next + cond (makes_point e) 1 0) es (differ_after live next e d)

pairs_tail : (x : Point) (points : List Point) → AllPairs (λ (a : Point) (b : Point). a.tag ≢ b.tag) (x ∷ points) → AllPairs (λ (a : Point) (b : Point). a.tag ≢ b.tag) points
pairs_tail x points f i j d l m = f (suc i) (suc j) d (omega arith) (omega arith)

none_like : (tag : ℕ) (points : List Point) → ((j : ℕ) (d : Point) → j < length points → tag ≢ (get_or points j d).tag) → is_live (names_of points) tag ≡ false
none_like tag [] f = refl
none_like tag (x ∷ points) f = or_from (eqb x.tag tag) (is_live (names_of points) tag) (ne_eqb x.tag tag (λ e. f 0 x (omega arith) (sym e))) (none_like tag points (λ j d l. f (suc j) d (omega arith)))

differ_points : (points : List Point) → AllPairs (λ (a : Point) (b : Point). a.tag ≢ b.tag) points → TagsDiffer (names_of points)
differ_points [] f = tt
differ_points (x ∷ points) f = (none_like x.tag points (λ j d l. f 0 (suc j) d (omega arith) (omega arith)), differ_points points (pairs_tail x points f))

-- The live tags of a list differ.
pub tags_differ : (params : Params) (h : BasedList) → IsBaseOf params h.base → TagsDiffer (live_of h)
tags_differ params h b = differ_from (names_of h.base.graph.points) h.base.next h.entries (differ_points h.base.graph.points b.tags)

-- A tag that isn't live has no Pid; a live one has one.
pub pids_at_none : (es : Names) (tag : ℕ) → is_live es tag ≡ false → pids_at es tag ≡ []
pids_at_none [] tag h = refl
pids_at_none (e ∷ es) tag h =
    let both = or_parts (eqb e.0 tag) (is_live es tag) h in
    ap (λ t. map (λ (x : ℕ × ℕ). x.1) (cond t (e ∷ filter (λ x. eqb x.0 tag) es) (filter (λ x. eqb x.0 tag) es))) both.0 ∙ pids_at_none es tag both.1

pub pids_at_one : (es : Names) (tag : ℕ) → TagsDiffer es → is_live es tag ≡ true → (pid : ℕ) × (pids_at es tag ≡ pid ∷ [])
pids_at_one [] tag d h = absurd (false≢true h)
pids_at_one (e ∷ es) tag (n, d) h =
    elim (eqb e.0 tag) as (λ t. eqb e.0 tag ≡ t → (pid : ℕ) × (map (λ (x : ℕ × ℕ). x.1) (cond t (e ∷ filter (λ x. eqb x.0 tag) es) (filter (λ x. eqb x.0 tag) es)) ≡ pid ∷ [])) [
      | true ↦ λ same. (e.1, ap (λ t. e.1 ∷ t) (pids_at_none es tag (subst (λ (t : ℕ). is_live es t ≡ false) (eqb-true e.0 tag same) n)))
      | false ↦ λ differ. pids_at_one es tag d (ap (λ t. t || is_live es tag) (sym differ) ∙ h)
    ] refl

-- ---- Pids end

room_of : (params : Params) (h : BasedList) (vector : List ℕ) → fits params h vector ≡ true → next_pid h < pid_end
room_of params h vector f = ltb-true (next_pid h) pid_end (and_parts (eqb (length vector) params.d) (ltb (next_pid h) pid_end) f).1

next_after : (params : Params) (h : BasedList) (s : State) (e : Entry) → next_pid h ≤ pid_end → may_follow params h s e ≡ true → next_pid h + cond (makes_point e) 1 0 ≤ pid_end
next_after params h s (Insert by tag vector) l m = let room : next_pid h < pid_end = room_of params h vector (and_parts (fits params h vector) (not (is_live (live_of h) tag)) m).0 in omega arith
next_after params h s (Delete by tag) l m = omega arith
next_after params h s (Begin by) l m = omega arith
next_after params h s (End by segment) l m = omega arith
next_after params h s (Replace by tag vector) l m = let room : next_pid h < pid_end = room_of params h vector (and_parts (fits params h vector) (is_live (live_of h) tag) m).0 in omega arith

pub next_pid_after : (params : Params) (h : BasedList) (s : State) (e : Entry) → next_pid h ≤ pid_end → may_follow params h s e ≡ true → next_pid (with_entry h e) ≤ pid_end
next_pid_after params h s e l m = let more = next_pid_push h e in let room = next_after params h s e l m in omega arith

next_from : (index : Index) (h : BasedList) (s : State) (es : List Entry) → next_pid h ≤ pid_end → legal_from index h s es ≡ true → next_pid (with_entries h es) ≤ pid_end
next_from index h s [] l k = subst (λ (g : BasedList). next_pid g ≤ pid_end) (sym (entries_none h)) l
next_from index h s (e ∷ es) l k =
    let both = and_parts (may_follow index.params h s e) (legal_from index (with_entry h e) (step index h s e) es) k in
    subst (λ (g : BasedList). next_pid g ≤ pid_end) (entries_then h (e ∷ []) es) (next_from index (with_entry h e) (step index h s e) es (next_pid_after index.params h s e l both.0) both.1)

-- The next Pid of a legal list is at most the end of the Pids.
pub next_pid_ends : (index : Index) (h : BasedList) → h.base.next ≤ pid_end → is_legal index h ≡ true → next_pid h ≤ pid_end
next_pid_ends index h l k = next_from index (bare h.base) (start h.base.graph) h.entries (let same : next_pid (bare h.base) ≡ h.base.next = omega arith in omega arith) k
