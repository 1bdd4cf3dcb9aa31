-- Whose entries a longer list has.
use Rattle.std.proofs.Common.{◌≡◌, ℕ, suc, ◌+◌, ◌≤◌, max, Bool, true, false, cond, eqb, List, [], ◌∷◌, ◌++◌, refl, sym, ap, ◌∙◌, arith, filter, map, drop, length, length-drop, eq-eqb}
use Rattle.std.proofs.lemmas.List.{drop-append-le}
use Rattle.std.proofs.lemmas.List.Elements.{filter-append}
use mathlib.Core.List.{IsPrefix}
use Rattle.ann_types.specs.Lists.{ListBase, BasedList, BeginsWith, length_of, with_entries}
use Rattle.ann_types.specs.Judge.{entry_of}
use Rattle.ann_types.specs.declared.change.Change.{Change}
use Rattle.ann_types.specs.declared.change.Change.TheVariants.{Insert, Delete, Replace}
use Rattle.ann_types.specs.declared.entry.Entry.{Entry}
use Rattle.ann_types.proofs.Folds.{begins_then}
use Rattle.ann_said.specs.Owned.{Placed, placed_from, by_of, past, own, reach}
use Rattle.ann_said.proofs.Prefixes.{begins_entries}

-- ---- entries side by side

pub placed-append : (n : ℕ) (es fs : List Entry) → placed_from n (es ++ fs) ≡ placed_from n es ++ placed_from (n + length es) fs
placed-append n [] fs = let same : n ≡ n + 0 = omega arith in ap (λ m. placed_from m fs) same
placed-append n (e ∷ es) fs =
    let same : n + 1 + length es ≡ n + length (e ∷ es) = omega arith in
    ap (λ (ps : List Placed). record { position = n; entry = e } ∷ ps) (placed-append (n + 1) es fs ∙ ap (λ m. placed_from (n + 1) es ++ placed_from m fs) same)

pub length_placed : (n : ℕ) (es : List Entry) → length (placed_from n es) ≡ length es
length_placed n [] = refl
length_placed n (e ∷ es) = ap suc (length_placed (n + 1) es)

-- ---- how far they reach

pub reach-append : (ps qs : List Placed) → reach (ps ++ qs) ≡ max (reach ps) (reach qs)
reach-append [] qs = omega arith
reach-append (p ∷ ps) qs = let rest = reach-append ps qs in omega (arith, rest)

pub reach_placed : (n : ℕ) (es : List Entry) → reach (placed_from n es) ≤ n + length es
reach_placed n [] = omega arith
reach_placed n (e ∷ es) = let rest = reach_placed (n + 1) es in omega (arith, rest)

pub reach_filter : (test : Placed → Bool) (ps : List Placed) → reach (filter test ps) ≤ reach ps
reach_filter test [] = omega arith
reach_filter test (p ∷ ps) =
    let rest = reach_filter test ps in
    elim (test p) as (λ b. reach (cond b (p ∷ filter test ps) (filter test ps)) ≤ max (p.position + 1) (reach ps)) [
      | true ↦ omega (arith, rest)
      | false ↦ omega (arith, rest)
    ]

-- ---- a client's entries

abbrev pub is_of : ℕ → Placed → Bool
is_of client p = eqb (by_of p.entry) client

-- a list begins with h0 and so many entries past it
pub past_length : (h0 h : BasedList) → BeginsWith h h0 → length_of h0 + length (drop (length h0.entries) h.entries) ≡ length_of h
past_length h0 h b =
    let same = ap (λ (t : ListBase). t.position) b.base in
    let size = length-drop (length h0.entries) h.entries in
    let more = begins_entries h h0 b in
    omega (arith, same, size, more)

-- the entries of a client are before the end of the list
pub own_reach : (h0 h : BasedList) (client : ℕ) → BeginsWith h h0 → reach (own h0 h client) ≤ length_of h
own_reach h0 h client b =
    let all = reach_filter (is_of client) (past h0 h) in
    let last = reach_placed (length_of h0) (drop (length h0.entries) h.entries) in
    let size = past_length h0 h b in
    omega (arith, all, last, size)

-- with further entries there are those of them that are the client's
pub own_then : (h0 h : BasedList) (es : List Entry) (client : ℕ) → BeginsWith h h0 → own h0 (with_entries h es) client ≡ own h0 h client ++ filter (is_of client) (placed_from (length_of h) es)
own_then h0 h es client b =
    ap (λ (t : List Entry). filter (is_of client) (placed_from (length_of h0) t)) (drop-append-le (length h0.entries) h.entries es (begins_entries h h0 b))
    ∙ ap (filter (is_of client)) (placed-append (length_of h0) (drop (length h0.entries) h.entries) es)
    ∙ filter-append (is_of client) (past h0 h) (placed_from (length_of h0 + length (drop (length h0.entries) h.entries)) es)
    ∙ ap (λ (n : ℕ). own h0 h client ++ filter (is_of client) (placed_from n es)) (past_length h0 h b)

pub own_begins : (h0 g h : BasedList) (client : ℕ) → BeginsWith g h0 → BeginsWith h g → IsPrefix (own h0 g client) (own h0 h client)
own_begins h0 g h client first more =
    let rest = begins_then h g more in
    (filter (is_of client) (placed_from (length_of g) rest.0), sym (ap (λ (t : BasedList). own h0 t client) rest.1 ∙ own_then h0 g rest.0 client first))

-- ---- the entries of changes are their client's

by_entry : (client : ℕ) (c : Change) → by_of (entry_of client c) ≡ client
by_entry client (Insert tag vector) = refl
by_entry client (Delete tag) = refl
by_entry client (Replace tag vector) = refl

pub own_changes : (client n : ℕ) (cs : List Change) → filter (is_of client) (placed_from n (map (entry_of client) cs)) ≡ placed_from n (map (entry_of client) cs)
own_changes client n [] = refl
own_changes client n (c ∷ cs) =
    let rest = own_changes client (n + 1) cs in
    let here : Placed = record { position = n; entry = entry_of client c } in
    ap (λ b. cond b (here ∷ filter (is_of client) (placed_from (n + 1) (map (entry_of client) cs))) (filter (is_of client) (placed_from (n + 1) (map (entry_of client) cs)))) (eq-eqb (by_of (entry_of client c)) client (by_entry client c))
    ∙ ap (λ ps. here ∷ ps) rest

-- and so is a mark
pub own_mark : (client n : ℕ) (e : Entry) → by_of e ≡ client → filter (is_of client) (placed_from n (e ∷ [])) ≡ placed_from n (e ∷ [])
own_mark client n e by =
    let here : Placed = record { position = n; entry = e } in
    ap (λ b. cond b (here ∷ []) []) (eq-eqb (by_of e) client by)
