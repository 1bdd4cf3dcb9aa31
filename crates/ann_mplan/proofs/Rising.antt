-- Rows that rise, and their ranks.
use Rattle.std.proofs.Common.{◌≡◌, ◌≢◌, ℕ, zero, suc, ◌+◌, ◌≤◌, ◌<◌, Bool, true, not, List, [], ◌∷◌, refl, sym, ap, subst, ◌∙◌, arith, map, length, get_or, inl, inr, eqb, eq-eqb}
use Rattle.std.specs.List.{AllByRecursion, range_with_len}
use Rattle.std.proofs.lemmas.Bool.{cases_lt, or_left, or_right}
use Rattle.ann_types.specs.Order.{has}
use Rattle.ann_types.specs.Merge.{without}
use Rattle.ann_types.proofs.Sets.{Rises, rises_filter}
use Rattle.ann_mdelete.specs.Rows.{gone_rows, left_rows}
use Rattle.ann_mplan.specs.Packing.{rank_in}
use Rattle.ann_mplan.proofs.Ranked.{place_in, rank_at}

pub above_at : (x : ℕ) (xs : List ℕ) (k : ℕ) → AllByRecursion (λ y. x < y) xs → k < length xs → x < get_or xs k 0
above_at x [] k a l = absurd (omega arith)
above_at x (y ∷ xs) zero (h, a) l = h
above_at x (y ∷ xs) (suc k) (h, a) l = above_at x xs k a (omega arith)

pub rise_at : (xs : List ℕ) (r s : ℕ) → Rises xs → r < s → s < length xs → get_or xs r 0 < get_or xs s 0
rise_at [] r s w l m = absurd (omega arith)
rise_at (x ∷ xs) zero zero w l m = absurd (omega arith)
rise_at (x ∷ xs) zero (suc s) (a, w) l m = above_at x xs s a (omega arith)
rise_at (x ∷ xs) (suc r) zero w l m = absurd (omega arith)
rise_at (x ∷ xs) (suc r) (suc s) (a, w) l m = rise_at xs r s w (omega arith) (omega arith)

pub has_at : (xs : List ℕ) (r : ℕ) → r < length xs → has xs (get_or xs r 0) ≡ true
has_at [] r l = absurd (omega arith)
has_at (x ∷ xs) zero l = or_left (eqb x x) (has xs x) (eq-eqb x x refl)
has_at (x ∷ xs) (suc r) l = or_right (eqb (get_or xs r 0) x) (has xs (get_or xs r 0)) (has_at xs r (omega arith))

above_range : (x a n : ℕ) → x < a → AllByRecursion (λ y. x < y) (range_with_len a n)
above_range x a zero h = tt
above_range x a (suc n) h = (h, above_range x (a + 1) n (omega arith))

pub rises_range : (a n : ℕ) → Rises (range_with_len a n)
rises_range a zero = tt
rises_range a (suc n) = (above_range a (a + 1) n (omega arith), rises_range (a + 1) n)

pub left_rises : (gone : List Bool) (n : ℕ) → Rises (left_rows gone 0 n)
left_rises gone n = rises_filter (λ p. not (has (gone_rows gone) p)) (range_with_len 0 n) (rises_range 0 n)

-- ---- ranks

pub rank_place : (rows : List ℕ) (i : ℕ) → Rises rows → i < length rows → rank_in rows (get_or rows i 0) ≡ i
rank_place rows i rises h = rank_at rows i (λ k less e. let up = rise_at rows k i rises less h in absurd (omega arith)) h

-- a rank is a place, where its row stands
pub record HasRank (rows : List ℕ) (row : ℕ) : Type 0 where
  pub below : rank_in rows row < length rows
  pub back : get_or rows (rank_in rows row) 0 ≡ row

pub has_rank : (rows : List ℕ) (row : ℕ) → Rises rows → has rows row ≡ true → HasRank rows row
has_rank rows row rises there =
    let at = place_in rows row there in
    let is : rank_in rows row ≡ at.0 = ap (rank_in rows) (sym at.2) ∙ rank_place rows at.0 rises at.1 in
    record {
      below = subst (λ (r : ℕ). r < length rows) (sym is) at.1;
      back = ap (λ r. get_or rows r 0) is ∙ at.2;
    }

pub ranks_rise : (rows : List ℕ) (p q : ℕ) → Rises rows → has rows p ≡ true → has rows q ≡ true → p < q → rank_in rows p < rank_in rows q
ranks_rise rows p q rises first second less =
    let a = has_rank rows p rises first in
    let b = has_rank rows q rises second in
    elim (cases_lt (rank_in rows p) (rank_in rows q)) as (λ _. rank_in rows p < rank_in rows q) [
      | inl l ↦ l
      | inr l ↦ (let x = a.back in let y = b.back in absurd (not_above (rank_in rows q) (rank_in rows p) l a.below (omega arith)))
    ]
  where
    not_above : (r s : ℕ) → r ≤ s → s < length rows → get_or rows s 0 < get_or rows r 0 → ⊥
    not_above r s order within falls = elim (cases_lt r s) as (λ _. ⊥) [
      | inl l ↦ (let up = rise_at rows r s rises l within in omega arith)
      | inr l ↦ (let same : r ≡ s = omega arith in let e = ap (λ k. get_or rows k 0) same in omega arith)
    ]

-- the ranks of rows that rise
pub rises_ranked : (rows xs : List ℕ) → Rises rows → Rises xs → AllByRecursion (λ x. has rows x ≡ true) xs → Rises (map (rank_in rows) xs)
rises_ranked rows [] rises up inside = tt
rises_ranked rows (x ∷ xs) rises (above, up) (h, inside) = (each xs above inside, rises_ranked rows xs rises up inside)
  where
    each : (ys : List ℕ) → AllByRecursion (λ y. x < y) ys → AllByRecursion (λ y. has rows y ≡ true) ys → AllByRecursion (λ r. rank_in rows x < r) (map (rank_in rows) ys)
    each [] a b = tt
    each (y ∷ ys) (k, a) (l, b) = (ranks_rise rows x y rises h l k, each ys a b)
