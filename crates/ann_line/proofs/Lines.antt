-- What the links of a history say of the list from a key on.
use Rattle.std.proofs.Common.{◌≡◌, ℕ, zero, suc, ◌<◌, ◌==◌, Bool, true, false, cond, eq-eqb, ne_eqb, List, [], ◌∷◌, ◌++◌, length, set, refl, sym, ap, ◌∙◌, subst, arith}
use Rattle.std.proofs.lemmas.List.{append-nil, append_assoc}
use mathlib.Core.List.{IsPrefix}
use Rattle.logbook.specs.Pages.{Cell, cell}
use Rattle.ann_types.specs.declared.entry.Entry.{Entry}
use Rattle.ann_line.specs.declared.history.Link.{Link}
use Rattle.ann_line.specs.History.{line, key_after, IsOff, IsHome, AreHome}

pub home_set : (cs : List Cell) (k j n : ℕ) → IsHome cs j → IsHome (set cs k (n, true)) j
home_set [] k j n h = h
home_set (c ∷ cs) zero zero n h = refl
home_set (c ∷ cs) zero (suc j) n h = h
home_set (c ∷ cs) (suc k) zero n h = h
home_set (c ∷ cs) (suc k) (suc j) n h = home_set cs k j n h

pub home_here : (cs : List Cell) (k n : ℕ) → k < length cs → IsHome (set cs k (n, true)) k
home_here [] k n lt = absurd (omega arith)
home_here (c ∷ cs) zero n lt = refl
home_here (c ∷ cs) (suc k) n lt = home_here cs k n (omega arith)

pub home_more : (cs more : List Cell) (j : ℕ) → IsHome cs j → IsHome (cs ++ more) j
home_more [] more j h = absurd cc
home_more (c ∷ cs) more zero h = h
home_more (c ∷ cs) more (suc j) h = home_more cs more j h

pub home_below : (cs : List Cell) (j : ℕ) → IsHome cs j → j < length cs
home_below [] j h = absurd cc
home_below (c ∷ cs) zero h = omega arith
home_below (c ∷ cs) (suc j) h = let rest = home_below cs j h in omega arith

pub all_move : (cs ds : List Cell) (log : List Link) → ((j : ℕ) → IsHome cs j → IsHome ds j) → AreHome cs log → AreHome ds log
all_move cs ds [] move h = tt
all_move cs ds (e ∷ es) move h = (move e.from h.0, all_move cs ds es move h.1)

pub all_push : (cs : List Cell) (log : List Link) (e : Link) → AreHome cs log → IsHome cs e.from → AreHome cs (log ++ e ∷ [])
all_push cs [] e h here = (here, tt)
all_push cs (x ∷ xs) e h here = (h.0, all_push cs xs e h.1 here)

pub off_away : (cs : List Cell) (log : List Link) (k : ℕ) → AreHome cs log → (cell cs k).1 ≡ false → IsOff k log
off_away cs [] k h away = tt
off_away cs (e ∷ es) k h away = ((λ is. let home : IsHome cs k = subst (λ j. IsHome cs j) is h.0 in absurd (cc (home, away))), off_away cs es k h.1 away)

pub off_past : (cs : List Cell) (log : List Link) → AreHome cs log → IsOff (length cs) log
off_past cs [] h = tt
off_past cs (e ∷ es) h = ((λ is. let below = home_below cs e.from h.0 in omega (arith, is, below)), off_past cs es h.1)

pub off_rest : (xs ys : List Link) (k : ℕ) → IsOff k (xs ++ ys) → IsOff k ys
off_rest [] ys k h = h
off_rest (x ∷ xs) ys k h = off_rest xs ys k h.1

pub line_off : (k : ℕ) (log : List Link) → IsOff k log → line k log ≡ []
line_off k [] h = refl
line_off k (e ∷ es) h = rw (ne_eqb e.from k h.0) (line_off k es h.1)

pub key_off : (k : ℕ) (log : List Link) → IsOff k log → key_after k log ≡ k
key_off k [] h = refl
key_off k (e ∷ es) h = rw (ne_eqb e.from k h.0) (key_off k es h.1)

line_either : (b : Bool) (is : List Entry) (a a' o o' rest : List Entry) (k k' : ℕ) (ys : List Link) → a' ≡ a ++ line k' ys → o' ≡ o ++ line k ys
    → cond b (is ++ a') o' ≡ cond b (is ++ a) o ++ line (cond b k' k) ys
line_either true is a a' o o' rest k k' ys p q = ap (λ l. is ++ l) p ∙ sym (append_assoc is a (line k' ys))
line_either false is a a' o o' rest k k' ys p q = q

pub line_append : (k : ℕ) (xs ys : List Link) → line k (xs ++ ys) ≡ line k xs ++ line (key_after k xs) ys
line_append k [] ys = refl
line_append k (e ∷ es) ys = line_either (e.from == k) e.entries (line e.to es) (line e.to (es ++ ys)) (line k es) (line k (es ++ ys)) [] (key_after k es) (key_after e.to es) ys (line_append e.to es ys) (line_append k es ys)

key_either : (b : Bool) (a a' o o' : ℕ) (ys : List Link) → a' ≡ key_after a ys → o' ≡ key_after o ys → cond b a' o' ≡ key_after (cond b a o) ys
key_either true a a' o o' ys p q = p
key_either false a a' o o' ys p q = q

pub key_append : (k : ℕ) (xs ys : List Link) → key_after k (xs ++ ys) ≡ key_after (key_after k xs) ys
key_append k [] ys = refl
key_append k (e ∷ es) ys = key_either (e.from == k) (key_after e.to es) (key_after e.to (es ++ ys)) (key_after k es) (key_after k (es ++ ys)) ys (key_append e.to es ys) (key_append k es ys)

pub line_prefix : (k : ℕ) (xs ys : List Link) → IsPrefix xs ys → IsPrefix (line k xs) (line k ys)
line_prefix k xs ys p = (line (key_after k xs) p.0, sym (line_append k xs p.0) ∙ ap (line k) p.1)

-- nothing more is in the list where no link goes on from the key that it leads to
pub line_whole : (r : ℕ) (mine log : List Link) → IsPrefix mine log → IsOff (key_after r mine) log → (line r log ≡ line r mine) × (key_after r log ≡ key_after r mine)
line_whole r mine log p off =
    let k : ℕ = key_after r mine in
    let off' : IsOff k (mine ++ p.0) = subst (λ (l : List Link). IsOff k l) (sym p.1) off in
    let rest : IsOff k p.0 = off_rest mine p.0 k off' in (
      ap (line r) (sym p.1) ∙ (line_append r mine p.0 ∙ (ap (λ (l : List Entry). line r mine ++ l) (line_off k p.0 rest) ∙ append-nil (line r mine))),
      ap (key_after r) (sym p.1) ∙ (key_append r mine p.0 ∙ key_off k p.0 rest),
    )

line_one : (k : ℕ) (is : List Entry) (to : ℕ) → line k (record { from = k; entries = is; to = to } ∷ []) ≡ is
line_one k is to = rw (eq-eqb k k refl) (append-nil is)

key_one : (k : ℕ) (is : List Entry) (to : ℕ) → key_after k (record { from = k; entries = is; to = to } ∷ []) ≡ to
key_one k is to = rw (eq-eqb k k refl) refl

-- a link that goes on from that key adds its entries to the list
pub line_more : (r : ℕ) (mine before : List Link) (is : List Entry) (to : ℕ) → IsPrefix mine before → IsOff (key_after r mine) before
    → (line r (before ++ record { from = key_after r mine; entries = is; to = to } ∷ []) ≡ line r mine ++ is) × (key_after r (before ++ record { from = key_after r mine; entries = is; to = to } ∷ []) ≡ to)
line_more r mine before is to p off =
    let k : ℕ = key_after r mine in
    let whole = line_whole r mine before p off in
    let e : Link = record { from = k; entries = is; to = to } in (
      line_append r before (e ∷ []) ∙ (ap (λ (l : List Entry). l ++ line (key_after r before) (e ∷ [])) whole.0 ∙ ap (λ (l : List Entry). line r mine ++ l) (ap (λ (n : ℕ). line n (e ∷ [])) whole.1 ∙ line_one k is to)),
      key_append r before (e ∷ []) ∙ (ap (λ (n : ℕ). key_after n (e ∷ [])) whole.1 ∙ key_one k is to),
    )
