-- Later rows put behind those of each row of their lists, and the whole.
use Rattle.std.proofs.Common.{◌≡◌, ◌≢◌, ℕ, zero, suc, ◌+◌, ◌-◌, ◌*◌, ◌^◌, ◌≤◌, ◌<◌, Bool, true, false, cond, List, [], ◌∷◌, ◌++◌, ◌||◌, refl, sym, ap, ap₂, subst, ◌∙◌, arith, map, take, drop, set, length, get_or, replicate, inl, inr, length-append}
use Rattle.std.specs.Prelude.{All, sum}
use Rattle.std.specs.List.{range_with_len, slice_range}
use Rattle.std.proofs.lemmas.List.{append_assoc, append-nil, take_all, take-append-drop, length-replicate}
use Rattle.std.proofs.lemmas.List.Elements.{All-get_or}
use Rattle.std.proofs.lemmas.List.FromFn.{fill_by_all, get_or-map-range_with_len, length-map-range_with_len}
use Rattle.ann_types.specs.Order.{has}
use Rattle.ann_types.proofs.Ordered.{has_append}
use Rattle.ann_types.proofs.Sets.{Rises}
use Rattle.ann_mdelete.specs.Lists.{AreEnds, list_at, lists_in, start_of}
use Rattle.ann_mdelete.proofs.Parts.{same_from}
use Rattle.ann_mplan.specs.Back.{AreFilled, deltas_of, linking, once, place_of, sizes_of}
use Rattle.ann_mplan.proofs.Places.{linking_more, linking_le, once_before, once_here, once_other, place_le, place_more, put_one}

-- the same by another name
pub filled_as : (base : ℕ) (links : List (List ℕ)) (so_far so_far' : ℕ → List ℕ) (ends numbers : List ℕ) → ((row : ℕ) → row < base → so_far row ≡ so_far' row) → AreFilled base links so_far ends numbers → AreFilled base links so_far' ends numbers
filled_as base links so_far so_far' ends numbers same w = record {
  rows = w.rows;
  size = w.size;
  end = λ row h. w.end row h ∙ ap (λ (t : List ℕ). place_of base links row + length t) (same row h);
  stand = λ row h. w.stand row h ∙ same row h;
}

-- ---- a list's rows one by one

module _ (base : ℕ) (links : List (List ℕ)) (i : ℕ) (list : List ℕ) (is : list ≡ get_or links i []) (within : i < length links) where
  -- those so far, with the first rows of the list
  abbrev pub with_first : ℕ → ℕ → List ℕ
  with_first k row = linking base links i row ++ once (take k list) (base + i) row

  no_longer : (k row : ℕ) → length (with_first k row) ≤ length (linking base links (length links) row)
  no_longer k row =
      let next = linking_le base links (i + 1) (length links) row (omega arith) in
      let more : length (linking base links (i + 1) row) ≡ length (linking base links i row) + length (once list (base + i) row) =
      ap length (linking_more base links i row) ∙ length-append (linking base links i row) (once (get_or links i []) (base + i) row)
      ∙ ap (λ (t : List ℕ). length (linking base links i row) + length (once t (base + i) row)) (sym is) in
      let both = length-append (linking base links i row) (once (take k list) (base + i) row) in
      let part : length (once (take k list) (base + i) row) ≤ length (once list (base + i) row) =
      subst (λ (t : List ℕ). length (once (take k list) (base + i) row) ≤ length (once t (base + i) row)) (take-append-drop k list)
      (subst (λ (b : Bool). length (once (take k list) (base + i) row) ≤ length (cond b ((base + i) ∷ []) [])) (sym (has_append (take k list) (drop k list) row)) (cases (has (take k list) row) (has (drop k list) row))) in
      omega arith
    where
      cases : (a b : Bool) → length (cond a ((base + i) ∷ []) []) ≤ length (cond (a || b) ((base + i) ∷ []) [])
      cases true b = omega arith
      cases false true = omega arith
      cases false false = omega arith

  module _ (rises : Rises list) (k row : ℕ) (h : k < length list) (at : row ≡ get_or list k 0) where
    -- there is room for one more
    room : length (with_first k row) < length (linking base links (length links) row)
    room =
        let next = no_longer (k + 1) row in
        let before = ap (λ (r : ℕ). once (take k list) (base + i) r) at ∙ once_before list k (base + i) rises h in
        let here = ap (λ (r : ℕ). once (take (k + 1) list) (base + i) r) at ∙ once_here list k (base + i) rises h in
        let first = length-append (linking base links i row) (once (take k list) (base + i) row) in
        let second = length-append (linking base links i row) (once (take (k + 1) list) (base + i) row) in
        let none : length (once (take k list) (base + i) row) ≡ 0 = ap length before in
        let one : length (once (take (k + 1) list) (base + i) row) ≡ 1 = ap length here in omega arith

    pub end_within : (ends numbers : List ℕ) → row < base → AreFilled base links (with_first k) ends numbers → get_or ends row 0 < length numbers
    end_within ends numbers b w =
        let some = room in
        let is_end = w.end row b in
        let next = place_more base links row b in
        let last = place_le base links (row + 1) base (omega arith) in
        let size = w.size in omega arith

    pub filled_more : (ends numbers : List ℕ) → row < base → AreFilled base links (with_first k) ends numbers → AreFilled base links (with_first (k + 1)) (set ends row (get_or ends row 0 + 1)) (set numbers (get_or ends row 0) (base + i))
    filled_more ends numbers b w =
        put_one base links (with_first k) (with_first (k + 1)) ends numbers row (get_or ends row 0) (base + i) w b refl room (λ r c. no_longer k r)
        (ap (λ (t : List ℕ). linking base links i row ++ t) (ap (λ (r : ℕ). once (take (k + 1) list) (base + i) r) at ∙ once_here list k (base + i) rises h)
        ∙ ap (λ (t : List ℕ). t ++ (base + i) ∷ []) (sym (append-nil (linking base links i row)))
        ∙ ap (λ (t : List ℕ). (linking base links i row ++ t) ++ (base + i) ∷ []) (sym (ap (λ (r : ℕ). once (take k list) (base + i) r) at ∙ once_before list k (base + i) rises h)))
        (λ r c d. ap (λ (t : List ℕ). linking base links i r ++ t) (once_other list k (base + i) r h (λ e. d (e ∙ sym at))))

  -- all of them
  pub filled_list : (k : ℕ) (ends numbers : List ℕ) → length list ≤ k → AreFilled base links (with_first k) ends numbers → AreFilled base links (linking base links (i + 1)) ends numbers
  filled_list k ends numbers past w =
      filled_as base links (with_first k) (linking base links (i + 1)) ends numbers
      (λ row h. ap (λ (t : List ℕ). linking base links i row ++ once t (base + i) row) (take_all k list past ∙ is) ∙ sym (linking_more base links i row)) w

-- ---- the beginning and the end

pub none_filled : (base : ℕ) (links : List (List ℕ)) (ends numbers : List ℕ) → ends ≡ map (place_of base links) (range_with_len 0 base) → length numbers ≡ place_of base links base → AreFilled base links (linking base links 0) ends numbers
none_filled base links ends numbers places size =
    let at : (row : ℕ) → row < base → get_or ends row 0 ≡ place_of base links row =
    λ row h. ap (λ (t : List ℕ). get_or t row 0) places ∙ get_or-map-range_with_len (place_of base links) 0 base row row 0 h (omega arith) in
    record {
      rows = ap length places ∙ length-map-range_with_len (place_of base links) 0 base;
      size = size;
      end = λ row h. at row h ∙ (let e : place_of base links row ≡ place_of base links row + 0 = omega arith in e);
      stand = λ row h. ap (λ (e : ℕ). slice_range numbers (place_of base links row) e) (at row h)
          ∙ ap (λ (n : ℕ). take n (drop (place_of base links row) numbers)) (let e : place_of base links row - place_of base links row ≡ 0 = omega arith in e);
    }

module _ (base : ℕ) (links : List (List ℕ)) (ends numbers : List ℕ) (w : AreFilled base links (linking base links (length links)) ends numbers) where
  start_is : (row : ℕ) → row ≤ base → start_of ends row ≡ place_of base links row
  start_is zero h = refl
  start_is (suc row) h = w.end row (omega arith) ∙ sym (place_more base links row (omega arith)) ∙ ap (place_of base links) (let e : row + 1 ≡ suc row = omega arith in e)

  pub are_ends : AreEnds ends (length numbers)
  are_ends = record {
    rising = λ row h. let b : row < base = (let r = w.rows in omega arith) in
        let from = start_is row (omega arith) in let to = w.end row b in omega arith;
    inside = λ row h. let b : row < base = (let r = w.rows in omega arith) in
        let to = w.end row b in let next = place_more base links row b in
        let last = place_le base links (row + 1) base (omega arith) in let size = w.size in omega arith;
    last = ap (start_of ends) w.rows ∙ start_is base (omega arith) ∙ sym w.size;
  }

  pub inverted : lists_in ends numbers ≡ deltas_of base links
  inverted =
      ap (λ (n : ℕ). map (list_at ends numbers) (range_with_len 0 n)) w.rows
      ∙ same_from (list_at ends numbers) (linking base links (length links)) base []
      (λ row h. ap (λ (s : ℕ). slice_range numbers s (get_or ends row 0)) (start_is row (omega arith)) ∙ w.stand row h)
