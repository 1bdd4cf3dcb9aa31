-- The centroids of a codebook turned round: for each component of a vector, the components of the 256 centroids of its
-- part stand side by side.
use Rattle.std.specs.Prelude.{◌≡◌, ◌<◌, ℕ, ◌+◌, ◌*◌, ◌/◌, ◌%◌, List, map, get_or, take}
use Rattle.std.specs.List.{range_with_len}
use Rattle.ann_types.specs.Distance.{distance}

-- where the byte at a place of the turned centroids stands in the bytes of the codebook
abbrev pub source : ℕ → ℕ → ℕ
source width place = 12 + (256 * (place / 256 / width) + place % 256) * width + place / 256 % width

abbrev pub IsTurned : ℕ → ℕ → List ℕ → List ℕ → Type 0
IsTurned width d bytes turned = (place : ℕ) → place < 256 * d → get_or turned place 0 ≡ get_or bytes (source width place) 0

-- the first components of a centroid, from the turned components of its part
abbrev pub column : List ℕ → ℕ → ℕ → List ℕ
column turned number width = map (λ i. get_or turned (256 * i + number) 0) (range_with_len 0 width)

-- lanes of distances by the first components, to the centroids from `at` on
abbrev pub IsBlock : List ℕ → List ℕ → ℕ → ℕ → List ℕ → Type 0
IsBlock part turned at width lanes = (k : ℕ) → k < 16 → get_or lanes k 0 ≡ distance (take width part) (column turned (at + k) width)
