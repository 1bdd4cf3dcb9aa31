-- A table that has the place of each of some rows.
use Rattle.std.proofs.Common.{◌≡◌, ◌≢◌, ℕ, zero, suc, ◌+◌, ◌≤◌, ◌<◌, ◌==◌, Bool, true, false, cond, eqb, not, List, [], ◌∷◌, ◌++◌, ◌||◌, refl, sym, ap, subst, ◌∙◌, arith, map, length, get_or, eqb-true, eq-eqb, inl, inr, length-append}
use Rattle.std.specs.List.{range_with_len, position_or_len}
use Rattle.std.proofs.lemmas.Bool.{cases_lt, cases_eq, false≢true, ne_eqb}
use Rattle.std.proofs.lemmas.List.{append-nil, get_or_append_left, get_or_push, length_push}
use Rattle.std.proofs.lemmas.List.Elements.{filter-append}
use Rattle.std.proofs.lemmas.List.Sums.{position_or_len_is}
use Rattle.ann_types.specs.Order.{has}
use Rattle.ann_types.specs.Merge.{without}
use Rattle.ann_mdelete.specs.Rows.{gone_rows, left_rows}
use Rattle.ann_mdelete.proofs.Gone.{gone_is}
use Rattle.ann_mdelete.proofs.Pieces.{few_left, range_more}
use Rattle.std.proofs.lemmas.List.FromFn.{length-range_with_len}
use Rattle.ann_mplan.specs.Packing.{AreRanks, rank_in}

-- ---- a row is added

left_more : (gone : List Bool) (row : ℕ) → row < length gone → left_rows gone 0 (row + 1) ≡ left_rows gone 0 row ++ cond (not (get_or gone row false)) (row ∷ []) []
left_more gone row h =
    ap (without (gone_rows gone)) (range_more 0 row)
    ∙ filter-append (λ p. not (has (gone_rows gone) p)) (range_with_len 0 row) ((0 + row) ∷ [])
    ∙ ap (λ (n : ℕ). left_rows gone 0 row ++ without (gone_rows gone) (n ∷ [])) (let e : 0 + row ≡ row = omega arith in e)
    ∙ ap (λ (t : Bool). left_rows gone 0 row ++ cond (not t) (row ∷ []) []) (gone_is gone row h)

pub left_out : (gone : List Bool) (row : ℕ) → row < length gone → get_or gone row false ≡ true → left_rows gone 0 (row + 1) ≡ left_rows gone 0 row
left_out gone row h is = left_more gone row h ∙ ap (λ (t : Bool). left_rows gone 0 row ++ cond (not t) (row ∷ []) []) is ∙ append-nil (left_rows gone 0 row)

pub left_in : (gone : List Bool) (row : ℕ) → row < length gone → get_or gone row false ≡ false → left_rows gone 0 (row + 1) ≡ left_rows gone 0 row ++ row ∷ []
left_in gone row h is = left_more gone row h ∙ ap (λ (t : Bool). left_rows gone 0 row ++ cond (not t) (row ∷ []) []) is

pub no_ranks : (rows ranks : List ℕ) → rows ≡ [] → AreRanks rows ranks
no_ranks rows ranks none = let size = ap length none in record { inside = λ i h. absurd (omega arith); placed = λ i h. absurd (omega arith) }

pub rank_more : (rows ranks ranks' : List ℕ) (rank : ℕ) → AreRanks rows ranks → ranks' ≡ ranks ++ rank ∷ [] → AreRanks rows ranks'
rank_more rows ranks ranks' rank w more =
    let size = ap length more ∙ length_push ranks rank in
    record {
      inside = λ i h. let before = w.inside i h in omega arith;
      placed = λ i h. ap (λ t. get_or t (get_or rows i 0) 0) more ∙ get_or_append_left ranks (rank ∷ []) 0 (get_or rows i 0) (w.inside i h) ∙ w.placed i h;
    }

pub row_more : (rows ranks rows' : List ℕ) (row : ℕ) → AreRanks rows ranks → row < length ranks → get_or ranks row 0 ≡ length rows → rows' ≡ rows ++ row ∷ [] → AreRanks rows' ranks
row_more rows ranks rows' row w within is more =
    let size = ap length more ∙ length_push rows row in
    let old : (i : ℕ) → i < length rows → get_or rows' i 0 ≡ get_or rows i 0 = λ i h. ap (λ t. get_or t i 0) more ∙ get_or_append_left rows (row ∷ []) 0 i h in
    let new : (i : ℕ) → i ≡ length rows → get_or rows' i 0 ≡ row = λ i h. ap (λ t. get_or t i 0) more ∙ get_or_push rows row 0 i (sym h) in
    record {
      inside = λ i h. elim (cases_lt i (length rows)) as (λ _. get_or rows' i 0 < length ranks) [
        | inl l ↦ (let same = old i l in let before = w.inside i l in omega arith)
        | inr l ↦ (let same = new i (omega arith) in omega arith)
      ];
      placed = λ i h. elim (cases_lt i (length rows)) as (λ _. get_or ranks (get_or rows' i 0) 0 ≡ i) [
        | inl l ↦ ap (λ t. get_or ranks t 0) (old i l) ∙ w.placed i l
        | inr l ↦ ap (λ t. get_or ranks t 0) (new i (omega arith)) ∙ is ∙ (let e : length rows ≡ i = omega arith in e)
      ];
    }

-- ---- a rank is read

pub place_in : (rows : List ℕ) (row : ℕ) → has rows row ≡ true → (i : ℕ) × (i < length rows) × (get_or rows i 0 ≡ row)
place_in [] row h = absurd (false≢true h)
place_in (x ∷ rows) row h =
    elim (eqb row x) as (λ t. eqb row x ≡ t → (t || has rows row) ≡ true → (i : ℕ) × (i < length (x ∷ rows)) × (get_or (x ∷ rows) i 0 ≡ row)) [
      | true ↦ λ e k. (0, omega arith, sym (eqb-true row x e))
      | false ↦ λ e k. (let later = place_in rows row k in (suc later.0, (let l = later.1 in omega arith), later.2))
    ] refl h

-- rows that differ have their places as ranks
pub rank_at : (rows : List ℕ) (i : ℕ) → ((k : ℕ) → k < i → get_or rows k 0 ≢ get_or rows i 0) → i < length rows → rank_in rows (get_or rows i 0) ≡ i
rank_at rows i differ h =
    position_or_len_is (λ r. r == get_or rows i 0) rows i 0 (omega arith)
    (λ k less. ne_eqb (get_or rows k 0) (get_or rows i 0) (differ k less))
    (λ _. eq-eqb (get_or rows i 0) (get_or rows i 0) refl)

pub rank_is : (rows ranks : List ℕ) (row : ℕ) → AreRanks rows ranks → has rows row ≡ true → (row < length ranks) × (get_or ranks row 0 ≡ rank_in rows row)
rank_is rows ranks row w there =
    let at = place_in rows row there in
    let i : ℕ = at.0 in
    let here = at.1 in
    let rank : rank_in rows (get_or rows i 0) ≡ i =
    rank_at rows i (λ k less e. let a = w.placed k (omega arith) in let b = w.placed i here in let same = ap (λ t. get_or ranks t 0) e in absurd (omega arith)) here in (
      subst (λ (r : ℕ). r < length ranks) at.2 (w.inside i here),
      ap (λ t. get_or ranks t 0) (sym at.2) ∙ w.placed i here ∙ sym rank ∙ ap (rank_in rows) at.2,
    )

-- ---- how many survive

pub few_ranked : (gone : List Bool) (row : ℕ) → length (left_rows gone 0 row) ≤ row
few_ranked gone row =
    let some = few_left (gone_rows gone) (range_with_len 0 row) in
    let all = length-range_with_len 0 row in omega arith
