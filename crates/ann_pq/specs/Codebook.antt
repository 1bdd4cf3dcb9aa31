-- What is seen of a codebook.
use Rattle.std.specs.Prelude.{◌≡◌, ◌≤◌, ℕ, ◌*◌, ◌%◌, List, All, length, take, drop}
use Rattle.ann_types.specs.Codes.{Book}

-- components of a vector, and the parts into which they fall, each with one byte of a code
pub record AreSizes (d m : ℕ) : Type 0 where
  pub parts : (1 ≤ m) × (m ≤ 64)
  pub components : (1 ≤ d) × (d ≤ 1024)
  pub whole : d % m ≡ 0

-- so many parts of 256 centroids, each of so many components
pub record IsBook (parts width : ℕ) (book : Book) : Type 0 where
  pub count : length book ≡ parts
  pub centroids : All (λ part. length part ≡ 256) book
  pub widths : All (λ part. All (λ centroid. length centroid ≡ width) part) book

-- the components and the parts of its vectors, its bytes, and the centroids that they are
pub record CodebookView : Type 0 where
  pub d : ℕ
  pub m : ℕ
  pub bytes : List ℕ
  pub book : Book

-- a part of a vector
abbrev pub part_of : ℕ → List ℕ → ℕ → List ℕ
part_of width vector part = take width (drop (part * width) vector)
