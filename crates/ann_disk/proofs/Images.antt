-- What each call does to the images.
use Rattle.std.proofs.Common.{◌≡◌, ⊎_elim, ℕ, ◌+◌, ◌-◌, ◌<◌, ◌≤◌, min, max, Bool, true, false, List, ◌++◌, length, get_or, take, drop, replicate, refl, sym, ◌∙◌, ap, arith, length-append, length-take, length-drop}
use Rattle.std.proofs.lemmas.Bool.{cases_lt, false≢true}
use Rattle.std.proofs.lemmas.List.{ext_get_or, get_or_append_left, get_or-append_right, get_or-take, get_or-drop, get_or-replicate, get_or_past, length-replicate, take_at, take_all}
use Rattle.ann_disk.specs.Image.{Unsynced, IsImage, IsFree, EachImage, marked, clean, after_write, after_cut}
use Rattle.ann_disk.specs.File.{overwritten, Torn, Cut, BeginsAnImage}

-- marks
length-marked : (marks : List Bool) (at n : ℕ) → length (marked at n marks) ≡ length marks
length-marked marks at n =
    let middle = replicate (min n (length marks - at)) true in
    omega (arith, length-append (take at marks ++ middle) (drop (at + n) marks), length-append (take at marks) middle, length-take at marks, length-drop (at + n) marks, length-replicate {A = Bool} (min n (length marks - at)) true)

marked_within : (marks : List Bool) (at n i : ℕ) → at ≤ i → i < at + n → get_or (marked at n marks) i true ≡ true
marked_within marks at n i from to = ⊎_elim
    (λ here.
    let middle = replicate (min n (length marks - at)) true in
    let front : length (take at marks) ≡ at = omega (arith, length-take at marks, here, from) in
    get_or_append_left (take at marks ++ middle) (drop (at + n) marks) true i (omega (arith, length-append (take at marks) middle, length-take at marks, length-replicate {A = Bool} (min n (length marks - at)) true, here, from, to))
    ∙ get_or-append_right (take at marks) middle at i true front from
    ∙ get_or-replicate (min n (length marks - at)) (i - at) true true (omega (arith, here, from, to)))
    (λ past. get_or_past (marked at n marks) i true (omega (arith, length-marked marks at n, past)))
    (cases_lt i (length marks))

marked_below : (marks : List Bool) (at n i : ℕ) → i < at → get_or (marked at n marks) i true ≡ get_or marks i true
marked_below marks at n i below = ⊎_elim
    (λ here.
    let middle = replicate (min n (length marks - at)) true in
    get_or_append_left (take at marks ++ middle) (drop (at + n) marks) true i (omega (arith, length-append (take at marks) middle, length-take at marks, here, below))
    ∙ get_or_append_left (take at marks) middle true i (omega (arith, length-take at marks, here, below))
    ∙ get_or-take at marks i true below)
    (λ past. get_or_past (marked at n marks) i true (omega (arith, length-marked marks at n, past)) ∙ sym (get_or_past marks i true past))
    (cases_lt i (length marks))

marked_above : (marks : List Bool) (at n i : ℕ) → at + n ≤ i → get_or (marked at n marks) i true ≡ get_or marks i true
marked_above marks at n i above = ⊎_elim
    (λ here.
    let middle = replicate (min n (length marks - at)) true in
    let front : length (take at marks ++ middle) ≡ at + n = omega (arith, length-append (take at marks) middle, length-take at marks, length-replicate {A = Bool} (min n (length marks - at)) true, here, above) in
    get_or-append_right (take at marks ++ middle) (drop (at + n) marks) (at + n) i true front above
    ∙ get_or-drop (at + n) marks (i - (at + n)) true
    ∙ ap (λ (k : ℕ). get_or marks k true) (omega (arith, above)))
    (λ past. get_or_past (marked at n marks) i true (omega (arith, length-marked marks at n, past)) ∙ sym (get_or_past marks i true past))
    (cases_lt i (length marks))

covered_within : (marks : List Bool) (at n i : ℕ) → at ≤ i → i < at + n → IsFree (marked at n marks) i → ⊥
covered_within marks at n i from to free = false≢true (sym free ∙ marked_within marks at n i from to)

free_before : (marks : List Bool) (at n i : ℕ) → IsFree (marked at n marks) i → IsFree marks i
free_before marks at n i free = ⊎_elim
    (λ below. sym (marked_below marks at n i below) ∙ free)
    (λ from. ⊎_elim
    (λ to. absurd (covered_within marks at n i from to free))
    (λ above. sym (marked_above marks at n i above) ∙ free)
    (cases_lt i (at + n)))
    (cases_lt i at)

free_clean : (bytes : List ℕ) (i : ℕ) → i < length bytes → IsFree (replicate (length bytes) false) i
free_clean bytes i here = get_or-replicate (length bytes) i false true here

-- a write adds images
pub write_keeps : (u : Unsynced) (at n : ℕ) → EachImage (IsImage (after_write at n u)) u
write_keeps u at n image is = record {
  no_shorter = is.no_shorter;
  no_longer = omega (arith, is.no_longer);
  stays = λ i here there free. is.stays i here there (free_before u.covered at n i free);
}

pub length-overwritten : (s : List ℕ) (at : ℕ) (piece : List ℕ) → at ≤ length s → length (overwritten s at piece) ≡ max (length s) (at + length piece)
length-overwritten s at piece fits =
    omega (arith, length-append (take at s ++ piece) (drop (at + length piece) s), length-append (take at s) piece, length-take at s, length-drop (at + length piece) s)

overwritten_below : (s : List ℕ) (at : ℕ) (piece : List ℕ) (i : ℕ) → at ≤ length s → i < at → get_or (overwritten s at piece) i 0 ≡ get_or s i 0
overwritten_below s at piece i fits below =
    get_or_append_left (take at s ++ piece) (drop (at + length piece) s) 0 i (omega (arith, length-append (take at s) piece, length-take at s))
    ∙ get_or_append_left (take at s) piece 0 i (omega (arith, length-take at s))
    ∙ get_or-take at s i 0 below

overwritten_above : (s : List ℕ) (at : ℕ) (piece : List ℕ) (i : ℕ) → at ≤ length s → at + length piece ≤ i → get_or (overwritten s at piece) i 0 ≡ get_or s i 0
overwritten_above s at piece i fits above =
    let front : length (take at s ++ piece) ≡ at + length piece = omega (arith, length-append (take at s) piece, length-take at s) in
    get_or-append_right (take at s ++ piece) (drop (at + length piece) s) (at + length piece) i 0 front above
    ∙ get_or-drop (at + length piece) s (i - (at + length piece)) 0
    ∙ ap (λ (k : ℕ). get_or s k 0) (omega arith)

-- the bytes after a write, or after a part of one, are an image
pub overwritten_image : (u : Unsynced) (s : List ℕ) (at n : ℕ) (piece : List ℕ) → IsImage u s → at ≤ length s → length piece ≤ n → IsImage (after_write at n u) (overwritten s at piece)
overwritten_image u s at n piece is fits part = record {
  no_shorter = omega (arith, length-overwritten s at piece fits, is.no_shorter);
  no_longer = omega (arith, length-overwritten s at piece fits, is.no_longer);
  stays = λ i here there free. ⊎_elim
      (λ below. overwritten_below s at piece i fits below ∙ is.stays i (omega (arith, below)) there (free_before u.covered at n i free))
      (λ from. ⊎_elim
      (λ within. absurd (covered_within u.covered at n i from (omega (arith, within)) free))
      (λ above. overwritten_above s at piece i fits above ∙ is.stays i (omega (arith, above, here, length-overwritten s at piece fits)) there (free_before u.covered at n i free))
      (cases_lt i (at + length piece)))
      (cases_lt i at);
}

pub cut_image : (u : Unsynced) (s : List ℕ) (to : ℕ) → IsImage u s → to ≤ length s → IsImage (after_cut to u) (take to s)
cut_image u s to is fits = record {
  no_shorter = omega (arith, length-take to s, is.no_shorter);
  no_longer = omega (arith, length-take to s, is.no_longer);
  stays = λ i here there free. get_or-take to s i 0 (omega (arith, here, length-take to s)) ∙ is.stays i (omega (arith, here, length-take to s)) there free;
}

pub clean_image : (bytes : List ℕ) → IsImage (clean bytes) bytes
clean_image bytes = record { no_shorter = omega arith; no_longer = omega arith; stays = λ i here there free. refl }

-- after a sync nothing else is left
pub clean_only : (bytes image : List ℕ) → IsImage (clean bytes) image → image ≡ bytes
clean_only bytes image is = ext_get_or 0 image bytes (omega (arith, is.no_shorter, is.no_longer)) (λ i here.
    let there : i < length bytes = omega (arith, here, is.no_shorter, is.no_longer) in
    is.stays i here there (free_clean bytes i there))

pub torn : (at n : ℕ) (old new : List ℕ) → at ≤ length old → IsImage (after_write at n (clean old)) new → Torn at n old new
torn at n old new fits is = record {
  before = ext_get_or 0 (take at new) (take at old) (omega (arith, length-take at new, length-take at old, is.no_shorter)) (λ i here.
      let below : i < at = omega (arith, here, length-take at new) in
      get_or-take at new i 0 below
      ∙ is.stays i (omega (arith, here, length-take at new)) (omega (arith, below, fits)) (marked_below (replicate (length old) false) at n i below ∙ free_clean old i (omega (arith, below, fits)))
      ∙ sym (get_or-take at old i 0 below));
  after = ext_get_or 0 (drop (at + n) new) (drop (at + n) old) (omega (arith, length-drop (at + n) new, length-drop (at + n) old, is.no_shorter, is.no_longer)) (λ i here.
      get_or-drop (at + n) new i 0
      ∙ is.stays (at + n + i) (omega (arith, here, length-drop (at + n) new)) (omega (arith, here, length-drop (at + n) new, is.no_longer))
      (marked_above (replicate (length old) false) at n (at + n + i) (omega arith) ∙ free_clean old (at + n + i) (omega (arith, here, length-drop (at + n) new, is.no_longer)))
      ∙ sym (get_or-drop (at + n) old i 0));
  no_shorter = is.no_shorter;
  no_longer = is.no_longer;
}

pub cut_short : (to : ℕ) (old new : List ℕ) → to ≤ length old → IsImage (after_cut to (clean old)) new → Cut to old new
cut_short to old new fits is = record {
  no_shorter = omega (arith, is.no_shorter);
  front = ext_get_or 0 (take (length new) old) new (omega (arith, length-take (length new) old, is.no_longer)) (λ i here.
      let below : i < length new = omega (arith, here, length-take (length new) old) in
      get_or-take (length new) old i 0 below ∙ sym (is.stays i below (omega (arith, below, is.no_longer)) (free_clean old i (omega (arith, below, is.no_longer)))));
}

-- a write of a part, and a cut to a part, of the bytes themselves
pub torn_by_part : (at n : ℕ) (old piece : List ℕ) → at ≤ length old → length piece ≤ n → Torn at n old (overwritten old at piece)
torn_by_part at n old piece fits part = torn at n old (overwritten old at piece) fits (overwritten_image (clean old) old at n piece (clean_image old) fits part)

pub torn_by_nothing : (at n : ℕ) (old : List ℕ) → Torn at n old old
torn_by_nothing at n old = record { before = refl; after = refl; no_shorter = omega arith; no_longer = omega arith }

pub cut_by_part : (to end : ℕ) (old : List ℕ) → to ≤ end → end ≤ length old → Cut to old (take end old)
cut_by_part to end old order fits = record {
  no_shorter = omega (arith, length-take end old);
  front = ap (λ (k : ℕ). take k old) (omega (arith, length-take end old));
}

module _ (u : Unsynced) (bytes : List ℕ) where
  -- the bytes behind these up to the least end, as they were kept
  abbrev padded : List ℕ
  padded = u.kept ++ replicate u.low 0

  abbrev more : List ℕ
  more = take (u.low - length bytes) (drop (length bytes) padded)

  length-longer : length bytes < u.low → length (bytes ++ more) ≡ u.low
  length-longer short = omega (arith, short, length-append bytes more, length-take (u.low - length bytes) (drop (length bytes) padded), length-drop (length bytes) padded, length-append u.kept (replicate u.low 0), length-replicate {A = ℕ} u.low 0)

  rest_kept : (i : ℕ) → length bytes ≤ i → i < u.low → i < length u.kept → get_or (bytes ++ more) i 0 ≡ get_or u.kept i 0
  rest_kept i from below there =
      get_or-append_right bytes more (length bytes) i 0 refl from
      ∙ get_or-take (u.low - length bytes) (drop (length bytes) padded) (i - length bytes) 0 (omega (arith, from, below))
      ∙ get_or-drop (length bytes) padded (i - length bytes) 0
      ∙ ap (λ (k : ℕ). get_or padded k 0) (omega (arith, from))
      ∙ get_or_append_left u.kept (replicate u.low 0) 0 i there

  -- what a cut may leave is the front of what might have been left before
  pub cut_begins : (to : ℕ) → u.low ≤ u.high → IsImage (after_cut to u) bytes → BeginsAnImage u bytes
  cut_begins to order is = ⊎_elim
      (λ short. (
        bytes ++ more,
        record {
          no_shorter = omega (arith, length-longer short);
          no_longer = omega (arith, length-longer short, order);
          stays = λ i here there free. ⊎_elim
              (λ below. get_or_append_left bytes more 0 i below ∙ is.stays i below there free)
              (λ from. rest_kept i from (omega (arith, here, length-longer short)) there)
              (cases_lt i (length bytes));
        },
        take_at bytes more (length bytes) refl,
      ))
      (λ long. (bytes, record { no_shorter = long; no_longer = is.no_longer; stays = is.stays }, take_all (length bytes) bytes (omega arith)))
      (cases_lt (length bytes) u.low)
