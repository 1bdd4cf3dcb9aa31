-- The centroids of a codebook, from its bytes and from the turned ones.
use Rattle.std.proofs.Common.{◌≡◌, None, ℕ, ◌+◌, ◌-◌, ◌*◌, ◌/◌, ◌<◌, List, [], length, get_or, take, drop, map, refl, sym, ap, subst, ◌∙◌, arith}
use Rattle.std.specs.Prelude.{All}
use Rattle.std.proofs.lemmas.List.{ext_get_or, get_or-take, get_or-drop, get_or-map, length-map, length-take-le, length-drop}
use Rattle.std.proofs.lemmas.List.Elements.{All-from_get_or}
use Rattle.std.proofs.lemmas.List.FromFn.{get_or-map-range_with_len, length-map-range_with_len}
use Rattle.ann_types.specs.Distance.{distance}
use Rattle.ann_pq.specs.Codebook.{AreSizes, IsBook, CodebookView, part_of}
use Rattle.ann_pq.specs.Format.{fault, IsCodebook, centroid_in, centroids_in, book_in, codebook}
use Rattle.ann_pq.specs.Turned.{IsTurned, column}
use Rattle.ann_pq.proofs.Places.{whole, part_ends, centroid_ends, source_at}

module _ (d m : ℕ) (bytes : List ℕ) (sizes : AreSizes d m) (long : length bytes ≡ 12 + 256 * d) where
  pub book_at : (p : ℕ) → p < m → get_or (book_in m (d / m) bytes) p [] ≡ centroids_in (d / m) bytes p
  book_at p l = get_or-map-range_with_len (centroids_in (d / m) bytes) 0 m p p [] l (omega arith)

  pub book_centroid_at : (p c : ℕ) → p < m → c < 256 → get_or (get_or (book_in m (d / m) bytes) p []) c [] ≡ centroid_in (d / m) bytes p c
  book_centroid_at p c l below =
      ap (λ t. get_or t c []) (book_at p l) ∙ get_or-map-range_with_len (centroid_in (d / m) bytes p) 0 256 c c [] below (omega arith)

  pub length_centroid : (p c : ℕ) → p < m → c < 256 → length (centroid_in (d / m) bytes p c) ≡ d / m
  length_centroid p c l below =
      let ends = centroid_ends d m (d / m) (whole d m sizes.whole) p c l below in
      let rest = length-drop (12 + (256 * p + c) * (d / m)) bytes in
      length-take-le (d / m) (drop (12 + (256 * p + c) * (d / m)) bytes) (omega arith)

  length_part : (p : ℕ) → p < m → length (get_or (book_in m (d / m) bytes) p []) ≡ 256
  length_part p l = ap length (book_at p l) ∙ length-map-range_with_len (centroid_in (d / m) bytes p) 0 256

  pub length_book : length (book_in m (d / m) bytes) ≡ m
  length_book = length-map-range_with_len (centroids_in (d / m) bytes) 0 m

  wide : (p : ℕ) → p < m → All (λ c. length c ≡ d / m) (get_or (book_in m (d / m) bytes) p [])
  wide p l =
      let size = length_part p l in
      All-from_get_or (λ (c : List ℕ). length c ≡ d / m) (get_or (book_in m (d / m) bytes) p []) [] (λ c below. ap length (book_centroid_at p c l (omega arith)) ∙ length_centroid p c l (omega arith))

  pub is_book : IsBook m (d / m) (book_in m (d / m) bytes)
  is_book =
      let count : length (book_in m (d / m) bytes) ≡ m = length_book in
      record {
        count = count;
        centroids = All-from_get_or (λ (part : List (List ℕ)). length part ≡ 256) (book_in m (d / m) bytes) [] (λ p l. length_part p (omega arith));
        widths = All-from_get_or (λ (part : List (List ℕ)). All (λ c. length c ≡ d / m) part) (book_in m (d / m) bytes) [] (λ p l. wide p (omega arith));
      }

  pub is_codebook : fault d m bytes ≡ None → IsCodebook (codebook d m bytes)
  is_codebook sound = record { sizes = sizes; sound = sound; size = long; centroids = refl; book = is_book }

  -- a centroid from the turned bytes of its part
  pub column_is : (turned : List ℕ) (p c w : ℕ) → w ≡ d / m → p < m → c < 256 → IsTurned (d / m) d bytes turned → column (take (256 * w) (drop (256 * (p * w)) turned)) c w ≡ get_or (get_or (book_in m (d / m) bytes) p []) c []
  column_is turned p c w wide l below is =
      let size = length_centroid p c l below in
      let part = part_ends d m (d / m) (whole d m sizes.whole) p l in
      subst (λ (v : ℕ). column (take (256 * v) (drop (256 * (p * v)) turned)) c v ≡ centroid_in (d / m) bytes p c) (sym wide)
      (ext_get_or 0 (column (take (256 * (d / m)) (drop (256 * (p * (d / m))) turned)) c (d / m)) (centroid_in (d / m) bytes p c)
      (length-map-range_with_len (λ i. get_or (take (256 * (d / m)) (drop (256 * (p * (d / m))) turned)) (256 * i + c) 0) 0 (d / m) ∙ sym size)
      (λ i within.
      let count = length-map-range_with_len (λ j. get_or (take (256 * (d / m)) (drop (256 * (p * (d / m))) turned)) (256 * j + c) 0) 0 (d / m) in
      let inside : i < d / m = omega arith in
      get_or-map-range_with_len (λ j. get_or (take (256 * (d / m)) (drop (256 * (p * (d / m))) turned)) (256 * j + c) 0) 0 (d / m) i i 0 inside (omega arith)
      ∙ get_or-take (256 * (d / m)) (drop (256 * (p * (d / m))) turned) (256 * i + c) 0 (omega arith)
      ∙ get_or-drop (256 * (p * (d / m))) turned (256 * i + c) 0
      ∙ is (256 * (p * (d / m)) + (256 * i + c)) (omega arith)
      ∙ ap (λ n. get_or bytes n 0) (source_at (d / m) p i c (256 * (p * (d / m)) + (256 * i + c)) inside below (omega arith))
      ∙ sym (get_or-drop (12 + (256 * p + c) * (d / m)) bytes i 0)
      ∙ sym (get_or-take (d / m) (drop (12 + (256 * p + c) * (d / m)) bytes) i 0 inside)))
      ∙ sym (book_centroid_at p c l below)

  pub length_part_at : (p : ℕ) → p < m → length (get_or (book_in m (d / m) bytes) p []) ≡ 256
  length_part_at = length_part

-- the bytes of a centroid
pub centroid_is : (d m : ℕ) (bytes : List ℕ) (v : CodebookView) → codebook d m bytes ≡ v → AreSizes d m → length bytes ≡ 12 + 256 * d → (p c w s : ℕ) → w ≡ v.d / v.m → p < v.m → c < 256 → s ≡ 12 + (256 * p + c) * w → take (s + w - s) (drop s bytes) ≡ get_or (get_or v.book p []) c []
centroid_is d m bytes v is sizes long p c w s wide l below at =
    let count : m ≡ v.m = ap (λ (v : CodebookView). v.m) is in
    let width : s + w - s ≡ w = omega arith in
    let same : w ≡ d / m = wide ∙ ap (λ (v : CodebookView). v.d / v.m) (sym is) in
    ap (λ n. take n (drop s bytes)) width ∙ ap (λ n. take w (drop n bytes)) at ∙ ap (λ n. take n (drop (12 + (256 * p + c) * n) bytes)) same
    ∙ sym (book_centroid_at d m bytes sizes long p c (omega arith) below) ∙ ap (λ (v : CodebookView). get_or (get_or v.book p []) c []) is

-- the distances of a part to centroids that columns give
pub distances_are : (out part turned : List ℕ) (centroids : List (List ℕ)) → length out ≡ 256 → length centroids ≡ 256 → ((n : ℕ) → n < 256 → get_or out n 0 ≡ distance part (column turned n (length part))) → ((n : ℕ) → n < 256 → column turned n (length part) ≡ get_or centroids n []) → out ≡ map (distance part) centroids
distances_are out part turned centroids long count value same =
    ext_get_or 0 out (map (distance part) centroids) (long ∙ sym count ∙ sym (length-map centroids (distance part)))
    (λ n l. value n (omega arith) ∙ ap (distance part) (same n (omega arith)) ∙ sym (get_or-map (distance part) centroids n [] 0 (omega arith)))

-- the distances of a part to its centroids, from the turned bytes of that part
pub part_distances : (d m : ℕ) (bytes turned : List ℕ) (v : CodebookView) → codebook d m bytes ≡ v → AreSizes d m → length bytes ≡ 12 + 256 * d → IsTurned (d / m) d bytes turned → (vector out : List ℕ) (p w : ℕ) → w ≡ v.d / v.m → p < v.m → length vector ≡ v.d → length out ≡ 256 → ((n : ℕ) → n < 256 → get_or out n 0 ≡ distance (take (p * w + w - p * w) (drop (p * w) vector)) (column (take (256 * (p * w) + 256 * w - 256 * (p * w)) (drop (256 * (p * w)) turned)) n (length (take (p * w + w - p * w) (drop (p * w) vector))))) → out ≡ map (distance (part_of (v.d / v.m) vector p)) (get_or v.book p [])
part_distances d m bytes turned v is sizes long turns vector out p w =
    subst (λ (v : CodebookView). w ≡ v.d / v.m → p < v.m → length vector ≡ v.d → length out ≡ 256 → ((n : ℕ) → n < 256 → get_or out n 0 ≡ distance (take (p * w + w - p * w) (drop (p * w) vector)) (column (take (256 * (p * w) + 256 * w - 256 * (p * w)) (drop (256 * (p * w)) turned)) n (length (take (p * w + w - p * w) (drop (p * w) vector))))) → out ≡ map (distance (part_of (v.d / v.m) vector p)) (get_or v.book p [])) is
    (λ wide l fits size value. of_bytes wide l fits size value)
  where
    of_bytes : w ≡ d / m → p < m → length vector ≡ d → length out ≡ 256 → ((n : ℕ) → n < 256 → get_or out n 0 ≡ distance (take (p * w + w - p * w) (drop (p * w) vector)) (column (take (256 * (p * w) + 256 * w - 256 * (p * w)) (drop (256 * (p * w)) turned)) n (length (take (p * w + w - p * w) (drop (p * w) vector))))) → out ≡ map (distance (part_of (d / m) vector p)) (get_or (book_in m (d / m) bytes) p [])
    of_bytes wide l fits size value =
        let ends = part_ends d m (d / m) (whole d m sizes.whole) p l in
        let rest = length-drop (p * (d / m)) vector in
        let long_part : length (part_of (d / m) vector p) ≡ d / m = length-take-le (d / m) (drop (p * (d / m)) vector) (omega arith) in
        let same_part : take (p * w + w - p * w) (drop (p * w) vector) ≡ part_of (d / m) vector p =
        ap (λ n. take n (drop (p * w) vector)) (omega arith) ∙ ap (λ n. take n (drop (p * n) vector)) wide in
        let same_turned : take (256 * (p * w) + 256 * w - 256 * (p * w)) (drop (256 * (p * w)) turned) ≡ take (256 * w) (drop (256 * (p * w)) turned) =
        ap (λ n. take n (drop (256 * (p * w)) turned)) (omega arith) in
        distances_are out (part_of (d / m) vector p) (take (256 * w) (drop (256 * (p * w)) turned)) (get_or (book_in m (d / m) bytes) p []) size (length_part_at d m bytes sizes long p l)
        (λ n below. value n below
        ∙ ap (λ t. distance t (column (take (256 * (p * w) + 256 * w - 256 * (p * w)) (drop (256 * (p * w)) turned)) n (length t))) same_part
        ∙ ap (λ t. distance (part_of (d / m) vector p) (column t n (length (part_of (d / m) vector p)))) same_turned)
        (λ n below. ap (column (take (256 * w) (drop (256 * (p * w)) turned)) n) (long_part ∙ sym wide) ∙ column_is d m bytes sizes long turned p n w wide l below turns)
