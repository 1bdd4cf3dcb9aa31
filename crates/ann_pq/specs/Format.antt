-- The bytes of a codebook: the magic (8 bytes), d (2), m (2), and then for part 0 to m - 1, for centroid 0 to 255, the
-- d/m components of the centroid.
use Rattle.std.specs.Prelude.{◌≡◌, ℕ, ◌+◌, ◌*◌, ◌/◌, ◌==◌, ◌&&◌, not, nat_lt, nat_eq, List, [], ◌∷◌, map, length, Option, None, Some, Result, Ok, Err, if◌then◌else◌}
use Rattle.std.specs.List.{range_with_len, starts_with}
use Rattle.ann_types.specs.Codes.{Book}
use Rattle.ann_bytes.specs.LittleEndian.{number_of, field}
use Rattle.ann_pq.specs.Codebook.{AreSizes, IsBook, CodebookView}
use Rattle.ann_pq.specs.declared.refused.CodebookRefused.{CodebookRefused}
use Rattle.ann_pq.specs.declared.refused.CodebookRefused.TheVariants.{Length, Magic, Shape, Memory}

-- "ANNPQ001"
abbrev pub magic : List ℕ
magic = 65 ∷ 78 ∷ 78 ∷ 80 ∷ 81 ∷ 48 ∷ 48 ∷ 49 ∷ []

-- the first of these faults that the bytes have, as a codebook of vectors of d components in m parts
abbrev pub fault : ℕ → ℕ → List ℕ → Option CodebookRefused
fault d m bytes =
    if nat_lt (length bytes) 12 then Some Length
    else if not (starts_with nat_eq bytes magic) then Some Magic
    else if not ((number_of (field bytes 8 2) == d) && (number_of (field bytes 10 2) == m)) then Some Shape
    else if not (length bytes == 12 + 256 * d) then Some Length
    else None

-- the fault that an answer names; want of memory is none of the bytes
abbrev pub named : {X : Type 0} → Result X CodebookRefused → Option CodebookRefused
named (Ok x) = None
named (Err Length) = Some Length
named (Err Magic) = Some Magic
named (Err Shape) = Some Shape
named (Err Memory) = None

-- one centroid of a part
abbrev pub centroid_in : ℕ → List ℕ → ℕ → ℕ → List ℕ
centroid_in width bytes part number = field bytes (12 + (256 * part + number) * width) width

-- the 256 centroids of a part
abbrev pub centroids_in : ℕ → List ℕ → ℕ → List (List ℕ)
centroids_in width bytes part = map (centroid_in width bytes part) (range_with_len 0 256)

-- the centroids of all parts
abbrev pub book_in : ℕ → ℕ → List ℕ → Book
book_in parts width bytes = map (centroids_in width bytes) (range_with_len 0 parts)

-- the codebook that these bytes are
abbrev pub codebook : ℕ → ℕ → List ℕ → CodebookView
codebook d m bytes = record { d = d; m = m; bytes = bytes; book = book_in m (d / m) bytes }

-- what is true of every codebook: it is the one that its bytes are, which have no fault
pub record IsCodebook (shown : CodebookView) : Type 0 where
  pub sizes : AreSizes shown.d shown.m
  pub sound : fault shown.d shown.m shown.bytes ≡ None
  pub size : length shown.bytes ≡ 12 + 256 * shown.d
  pub centroids : shown.book ≡ book_in shown.m (shown.d / shown.m) shown.bytes
  pub book : IsBook shown.m (shown.d / shown.m) shown.book
