-- The codebook of `once`: zeros.
use Rattle.std.specs.Prelude.{ℕ, ◌*◌, List, [], ◌∷◌, ◌++◌, replicate}
use Rattle.ann_types.specs.Codes.{Book}
use Rattle.ann_bytes.specs.LittleEndian.{bytes_of}
use Rattle.ann_pq.specs.Format.{magic}

-- for vectors of one part; no answer uses it
unfoldable pub zeros : ℕ → Book
zeros d = replicate 256 (replicate d 0) ∷ []

-- its bytes: the magic, d, one part, and the components of the centroids
unfoldable pub zero_bytes : ℕ → List ℕ
zero_bytes d = magic ++ (bytes_of 2 d ++ (bytes_of 2 1 ++ replicate (256 * d) 0))
