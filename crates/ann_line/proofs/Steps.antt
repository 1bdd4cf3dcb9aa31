-- The steps on a history keep its rule.
use Rattle.std.proofs.Common.{◌≡◌, ℕ, ◌<◌, ◌==◌, true, false, List, [], ◌∷◌, ◌++◌, length, set, refl, sym, subst, arith, inl, length-append, None}
use Rattle.std.proofs.lemmas.List.{append-nil, length-set}
use prog.Atomic.{either}
use Rattle.logbook.specs.Pages.{Cell, cell, Nib, keeps, gives, adds, no_nib, may_write, step, Moves}
use Rattle.ann_line.specs.declared.history.Link.{Link}
use Rattle.ann_line.specs.History.{IsKept, IsOff}
use Rattle.ann_line.specs.Steps.{Makes, Stays, Adds}
use Rattle.ann_line.proofs.Lines.{home_set, home_here, home_more, all_move, all_push, off_away, off_past, line_off, key_off}

-- the word that steps are made on stays 0
abbrev pub zeroed : ℕ → ℕ
zeroed n = either (n == 0) 0 n

abbrev pub shown : List Link → List Link
shown log = []

abbrev pub moved : List Link → List Link → ℕ → Type 0
moved xs ys n = Unit {0}

-- writing a word that is at home, or bringing one home, keeps the rule
kept_set : (cs : List Cell) (log : List Link) (k n : ℕ) → IsKept cs log → IsKept (set cs k (n, true)) log
kept_set cs log k n kept = record {
  some_cell = let more = kept.some_cell in omega (arith, length-set cs k (n, true), more);
  base = home_set cs k 0 n kept.base;
  each = all_move cs (set cs k (n, true)) log (λ j h. home_set cs k j n h) kept.each;
}

pub makes : (v : List Link) (e : Link) → Moves IsKept shown moved 0 (v, (no_nib, None)) zeroed (Makes (step 0 0 0 e) (v, (no_nib, None)))
makes v e cs log kept pre away =
    let here : List Cell = set cs 0 (zeroed (cell cs 0).0, true) in
    let kept' : IsKept here log = kept_set cs log 0 (zeroed (cell cs 0).0) kept in
    let all : log ≡ log ++ [] = sym (append-nil log) in
    let off : IsOff (length cs) (log ++ []) = subst (λ (l : List Link). IsOff (length cs) l) all (off_past cs log kept.each) in (
      kept.some_cell,
      kept.base,
      (
        adds,
        [],
        None,
        tt,
        subst (λ (l : List Link). IsKept (here ++ (0, false) ∷ []) l) all (record {
          some_cell = let more = kept'.some_cell in omega (arith, length-append here ((0, false) ∷ []), more);
          base = home_more here ((0, false) ∷ []) 0 kept'.base;
          each = all_move here (here ++ (0, false) ∷ []) log (λ j h. home_more here ((0, false) ∷ []) j h) kept'.each;
        }),
        inl (refl, refl),
        (refl, line_off (length cs) (log ++ []) off, key_off (length cs) (log ++ []) off),
      ),
    )

pub stays : (v : List Link) (e : Link) (p : Nib) → p.right ≡ may_write → Moves IsKept shown moved 0 (v, (p, None)) zeroed (Stays (step 0 0 0 e) (v, (p, None)))
stays v e p mine cs log kept pre away =
    let here : List Cell = set cs 0 (zeroed (cell cs 0).0, true) in
    let all : log ≡ log ++ [] = sym (append-nil log) in (
      kept.some_cell,
      kept.base,
      (
        keeps,
        [],
        None,
        tt,
        subst (λ (l : List Link). IsKept here l) all (kept_set cs log 0 (zeroed (cell cs 0).0) kept),
        inl (refl, refl),
        (refl, subst (λ (l : List Link). IsOff p.key l) all (off_away cs log p.key kept.each (away mine).1)),
      ),
    )

pub goes_on : (v : List Link) (e : Link) (p : Nib) → p.right ≡ may_write → Moves IsKept shown moved 0 (v, (p, None)) zeroed (Adds (step 0 0 0 e) (v, (p, None)))
goes_on v e p mine cs log kept pre away =
    let here : List Cell = set cs 0 (zeroed (cell cs 0).0, true) in
    let next : List Cell = set here p.key (p.value, true) in
    let f : Link = record { from = p.key; entries = e.entries; to = e.to } in
    let kept' : IsKept next log = kept_set here log p.key p.value (kept_set cs log 0 (zeroed (cell cs 0).0) kept) in
    let below : p.key < length here = let lt = (away mine).0 in omega (arith, length-set cs 0 (zeroed (cell cs 0).0, true), lt) in (
      kept.some_cell,
      kept.base,
      (
        gives,
        f ∷ [],
        None,
        mine,
        record { some_cell = kept'.some_cell; base = kept'.base; each = all_push next log f kept'.each (home_here here p.key p.value below) },
        inl (refl, refl),
        (log, pre, off_away cs log p.key kept.each (away mine).1, refl),
      ),
    )
