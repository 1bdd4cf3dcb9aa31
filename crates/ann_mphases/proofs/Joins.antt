-- Lists that were made piece by piece are those that all rows have.
use Rattle.std.proofs.Common.{◌≡◌, ℕ, zero, suc, ◌+◌, ◌-◌, ◌*◌, ◌≤◌, ◌<◌, List, [], ◌∷◌, ◌++◌, refl, sym, ap, ap₂, subst, ◌∙◌, arith, map, take, drop, length, get_or, min, inl, inr, append_assoc, length-drop}
use Rattle.std.specs.List.{flat_map, range_with_len}
use Rattle.std.proofs.Math.Seq.{take-add}
use Rattle.std.proofs.lemmas.Bool.{cases_lt}
use Rattle.std.proofs.lemmas.Grind.{flat_map-append}
use Rattle.std.proofs.lemmas.List.{append-nil, map-append, length-map, take_all, take_more}
use Rattle.std.proofs.lemmas.List.Elements.{filter-append}
use Rattle.std.proofs.lemmas.List.Folds.{flat_map-map}
use Rattle.std.proofs.lemmas.List.FromFn.{fill_by_all}
use Rattle.ann_types.specs.Kept.{rule_of}
use Rattle.ann_types.specs.Merge.{without}
use Rattle.ann_types.specs.declared.new_point.NewPoint.{NewPoint}
use Rattle.ann_crew.specs.Crew.{ArePieces}
use Rattle.ann_mdelete.specs.Loaded.{piece_rows}
use Rattle.ann_mdelete.specs.Rows.{gone_rows, left_rows, repaired_row, repaired_rows}
use Rattle.ann_mdelete.proofs.Pieces.{range_more, rows_few}
use Rattle.ann_minsert.specs.Links.{linked_rows}
use Rattle.ann_mplan.specs.Old.{pieces_of}
use Rattle.ann_mplan.specs.Packing.{rank_in}
use Rattle.ann_mphases.specs.Linked.{LinkView, linked_piece, links_in, points_in}
use Rattle.ann_mphases.specs.Pieces.{AreSmall, joined}
use Rattle.ann_mphases.specs.Repaired.{RepairView, left_in, ranked_piece, ranked_rows}
use Rattle.ann_mphases.proofs.Fronts.{first_of}

-- one piece more
pub joined_more : (pieces : List (List (List ℕ))) (i : ℕ) (d : List (List ℕ)) → i < length pieces → joined (take (i + 1) pieces) ≡ joined (take i pieces) ++ get_or pieces i d
joined_more pieces i d h =
    ap joined (take_more pieces i d h)
    ∙ flat_map-append (λ (piece : List (List ℕ)). piece) (take i pieces) (get_or pieces i d ∷ [])
    ∙ ap (λ t. joined (take i pieces) ++ t) (append-nil (get_or pieces i d))

-- ---- what a crew brings

-- each piece has the number of its place
pub piece_at : {P : Type 0} (is_piece : ℕ → P → Type 0) (count : ℕ) (pieces : List P) → ArePieces is_piece 0 count pieces → (i : ℕ) (d : P) → i < length pieces → is_piece i (get_or pieces i d)
piece_at is_piece count pieces are i d h =
    subst (λ (n : ℕ). is_piece n (get_or pieces i d)) (let e : 0 + i ≡ i = omega arith in e) (are.each i d (let many = are.many in omega arith))

-- pieces of few lists each
pub all_small : (is_piece : ℕ → List (List ℕ) → Type 0) (count : ℕ) (pieces : List (List (List ℕ))) → ((i : ℕ) (lists : List (List ℕ)) → is_piece i lists → length lists ≤ 256) → ArePieces is_piece 0 count pieces → AreSmall pieces
all_small is_piece count pieces few are k d h = few k (get_or pieces k d) (piece_at is_piece count pieces are k d h)

-- pieces that are known by their numbers
pub joined_by : (f : ℕ → List (List ℕ)) (count : ℕ) (pieces : List (List (List ℕ))) → ArePieces (λ i lists. lists ≡ f i) 0 count pieces → joined pieces ≡ flat_map f (range_with_len 0 count)
joined_by f count pieces are =
    let many = are.many in
    ap joined (fill_by_all f pieces count [] many (λ k h. piece_at (λ i lists. lists ≡ f i) count pieces are k [] (omega arith)))
    ∙ flat_map-map (λ (piece : List (List ℕ)). piece) f (range_with_len 0 count)

-- one number more
numbers_more : (f : ℕ → List (List ℕ)) (k : ℕ) → flat_map f (range_with_len 0 (k + 1)) ≡ flat_map f (range_with_len 0 k) ++ f k
numbers_more f k =
    ap (flat_map f) (range_more 0 k)
    ∙ flat_map-append f (range_with_len 0 k) ((0 + k) ∷ [])
    ∙ ap (λ (n : ℕ). flat_map f (range_with_len 0 k) ++ flat_map f (n ∷ [])) (let e : 0 + k ≡ k = omega arith in e)
    ∙ ap (λ t. flat_map f (range_with_len 0 k) ++ t) (append-nil (f k))

-- how many rows the pieces before this one have
abbrev rows_before : ℕ → ℕ → ℕ
rows_before count k = min (256 * k) count

-- ---- the Delete phase

range_parts : (a n m : ℕ) → range_with_len a (n + m) ≡ range_with_len a n ++ range_with_len (a + n) m
range_parts a n zero = ap (range_with_len a) (let e : n + 0 ≡ n = omega arith in e) ∙ sym (append-nil (range_with_len a n))
range_parts a n (suc m) =
    ap (range_with_len a) (let e : n + suc m ≡ (n + m) + 1 = omega arith in e)
    ∙ range_more a (n + m)
    ∙ ap₂ (λ (t : List ℕ) (x : ℕ). t ++ x ∷ []) (range_parts a n m) (let e : a + (n + m) ≡ (a + n) + m = omega arith in e)
    ∙ append_assoc (range_with_len a n) (range_with_len (a + n) m) (((a + n) + m) ∷ [])
    ∙ ap (λ t. range_with_len a n ++ t) (sym (range_more (a + n) m) ∙ ap (range_with_len (a + n)) (let e : m + 1 ≡ suc m = omega arith in e))

module _ (rows : RepairView) where
  ranked_parts : (n m : ℕ) → ranked_rows rows 0 (n + m) ≡ ranked_rows rows 0 n ++ ranked_rows rows n m
  ranked_parts n m =
      let new : ℕ → List ℕ = repaired_row (rule_of rows.params) rows.lists rows.vectors rows.gone in
      let rank : List (List ℕ) → List (List ℕ) = map (map (rank_in (left_in rows))) in
      ap (λ t. rank (map new (without (gone_rows rows.gone) t))) (range_parts 0 n m)
      ∙ ap (λ t. rank (map new t)) (filter-append _ (range_with_len 0 n) (range_with_len (0 + n) m))
      ∙ ap rank (map-append new (left_rows rows.gone 0 n) (left_rows rows.gone (0 + n) m))
      ∙ map-append (map (rank_in (left_in rows))) (map new (left_rows rows.gone 0 n)) (map new (left_rows rows.gone (0 + n) m))
      ∙ ap (λ (k : ℕ). ranked_rows rows 0 n ++ ranked_rows rows k m) (let e : 0 + n ≡ n = omega arith in e)

  ranked_so_far : (k : ℕ) → flat_map (ranked_piece rows) (range_with_len 0 k) ≡ ranked_rows rows 0 (rows_before (length rows.lists) k)
  ranked_so_far zero = ap (ranked_rows rows 0) (let e : 0 ≡ rows_before (length rows.lists) 0 = omega arith in e)
  ranked_so_far (suc k) =
      let n : ℕ = length rows.lists in
      let size : ℕ = piece_rows n (256 * k) in
      elim (cases_lt (256 * k) n) as (λ _. flat_map (ranked_piece rows) (range_with_len 0 (suc k)) ≡ ranked_rows rows 0 (rows_before n (suc k))) [
        | inl l ↦ ap (λ (m : ℕ). flat_map (ranked_piece rows) (range_with_len 0 m)) (add-one' k)
            ∙ numbers_more (ranked_piece rows) k
            ∙ ap (λ t. t ++ ranked_piece rows k) (ranked_so_far k ∙ ap (ranked_rows rows 0) (let e : rows_before n k ≡ 256 * k = omega arith in e))
            ∙ sym (ranked_parts (256 * k) size)
            ∙ ap (ranked_rows rows 0) (let e : 256 * k + size ≡ rows_before n (suc k) = omega arith in e)
        | inr l ↦ ap (λ (m : ℕ). flat_map (ranked_piece rows) (range_with_len 0 m)) (add-one' k)
            ∙ numbers_more (ranked_piece rows) k
            ∙ ap₂ (λ (s t : List (List ℕ)). s ++ t) (ranked_so_far k) (ap (ranked_rows rows (256 * k)) (let e : size ≡ 0 = omega arith in e))
            ∙ append-nil (ranked_rows rows 0 (rows_before n k))
            ∙ ap (ranked_rows rows 0) (let e : rows_before n k ≡ rows_before n (suc k) = omega arith in e)
      ]
    where
      add-one' : (k : ℕ) → suc k ≡ k + 1
      add-one' k = omega arith

  -- all pieces
  pub ranked_all : (count : ℕ) → count ≡ pieces_of (length rows.lists) → flat_map (ranked_piece rows) (range_with_len 0 count) ≡ ranked_rows rows 0 (length rows.lists)
  ranked_all count is =
      ranked_so_far count ∙ ap (ranked_rows rows 0) (let e : rows_before (length rows.lists) count ≡ length rows.lists = omega arith in e)

  pub ranked_few : (number : ℕ) → length (ranked_piece rows number) ≤ 256
  ranked_few number =
      let some = rows_few (rule_of rows.params) rows.lists rows.vectors rows.gone (256 * number) (piece_rows (length rows.lists) (256 * number)) in
      let each = length-map (repaired_rows (rule_of rows.params) rows.lists rows.vectors rows.gone (256 * number) (piece_rows (length rows.lists) (256 * number))) (map (rank_in (left_in rows))) in
      omega arith

-- ---- the Insert phase

module _ (rows : LinkView) where
  linked_so_far : (k : ℕ) → flat_map (linked_piece rows) (range_with_len 0 k) ≡ links_in rows (take (256 * k) rows.points)
  linked_so_far zero = refl
  linked_so_far (suc k) =
      let link : NewPoint → List ℕ = linked_rows rows.params rows.book.book rows.base in
      ap (λ (m : ℕ). flat_map (linked_piece rows) (range_with_len 0 m)) (let e : suc k ≡ k + 1 = omega arith in e)
      ∙ numbers_more (linked_piece rows) k
      ∙ ap (λ t. t ++ linked_piece rows k) (linked_so_far k)
      ∙ sym (map-append link (take (256 * k) rows.points) (points_in rows.points k))
      ∙ ap (map link) (sym (take-add (256 * k) 256 rows.points))
      ∙ ap (λ (m : ℕ). links_in rows (take m rows.points)) (let e : 256 * k + 256 ≡ 256 * suc k = omega arith in e)

  pub linked_all_pieces : (count : ℕ) → count ≡ pieces_of (length rows.points) → flat_map (linked_piece rows) (range_with_len 0 count) ≡ links_in rows rows.points
  linked_all_pieces count is = linked_so_far count ∙ ap (links_in rows) (take_all (256 * count) rows.points (omega arith))

  -- the points of a piece, cut out
  pub points_cut : (number end : ℕ) → end ≡ min (256 * number + 256) (length rows.points) → take (end - 256 * number) (drop (256 * number) rows.points) ≡ points_in rows.points number
  points_cut number end is =
      let rest : List NewPoint = drop (256 * number) rows.points in
      let size = length-drop (256 * number) rows.points in
      ap (λ (k : ℕ). take k rest) (let e : end - 256 * number ≡ min (length rest) 256 = omega arith in e) ∙ first_of 256 rest

  pub linked_few : (number : ℕ) → length (linked_piece rows number) ≤ 256
  linked_few number =
      let each = length-map (points_in rows.points number) (linked_rows rows.params rows.book.book rows.base) in
      let some = take_few 256 (drop (256 * number) rows.points) in omega arith
    where
      take_few : {A : Type 0} (n : ℕ) (xs : List A) → length (take n xs) ≤ n
      take_few zero xs = omega arith
      take_few (suc n) [] = omega arith
      take_few (suc n) (x ∷ xs) = let rest = take_few n xs in omega arith
