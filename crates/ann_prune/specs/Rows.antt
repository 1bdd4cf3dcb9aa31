-- The row of a candidate, and its place in order.
use Rattle.std.specs.Prelude.{◌≡◌, ◌≤◌, ◌<◌, ℕ, ◌+◌, ◌*◌, List, All}
use Rattle.ann_prune.specs.declared.candidates.Candidate.{Candidate}

abbrev pub row_of : Candidate → ℕ
row_of c = c.row

-- candidates in order of this number are in order of distance and row
abbrev pub key_of : Candidate → ℕ
key_of c = c.distance * 4294967296 + c.row

-- a candidate has the distance of its row, which no vector exceeds
abbrev pub IsMeasured : (ℕ → ℕ) → Candidate → Type 0
IsMeasured far c = (c.distance ≡ far c.row) × (c.distance ≤ 66585600)

-- a candidate is a row, at its distance
pub record IsCandidate (size : ℕ) (far : ℕ → ℕ) (c : Candidate) : Type 0 where
  pub row : c.row < size
  pub measured : IsMeasured far c

-- so is each of these
pub record AreCandidates (size : ℕ) (far : ℕ → ℕ) (items : List Candidate) : Type 0 where
  pub rows : All (λ c. c.row < size) items
  pub measured : All (IsMeasured far) items
