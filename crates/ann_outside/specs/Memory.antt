-- Inputs and outputs in memory, and what a call of them does.
use Rattle.std.specs.Prelude.{◌≡◌, ℕ, min, List, length, drop, Result, MatchResult, Any}
use Rattle.ann_fault.specs.Counts.{next_count}

-- the bytes left, the numbers of the reads that fail, and the reads and faults so far
pub record Input : Type 0 where
  pub left : List ℕ
  pub failing : List ℕ
  pub calls : ℕ
  pub faults : ℕ

-- the bytes taken, the most that a write takes, the numbers of the writes that fail, and the writes and faults so far
pub record Output : Type 0 where
  pub taken : List ℕ
  pub most : ℕ
  pub failing : List ℕ
  pub calls : ℕ
  pub faults : ℕ

-- the call of this number is made to fail
abbrev pub IsFailing : List ℕ → ℕ → Type 0
IsFailing failing number = Any (λ n. n ≡ number) failing

-- a read fails exactly where its number is listed, and otherwise gives all that there is room for
abbrev pub ReadsInput : {E : Type 0} → Input → Input → ℕ → Result ℕ E → Type 0
ReadsInput old new room result =
    MatchResult result
    (λ n. ¬ (IsFailing old.failing (next_count old.calls)) × (n ≡ min room (length old.left)) × (new ≡ record old { left = drop n old.left; calls = next_count old.calls }))
    (λ _. IsFailing old.failing (next_count old.calls) × (new ≡ record old { calls = next_count old.calls; faults = next_count old.faults }))

-- a write doesn't fail where its number isn't listed and there is memory, and takes the first `most` bytes or a shorter piece
abbrev pub WritesOutput : {E : Type 0} → Output → Output → ℕ → Result ℕ E → Type 0
WritesOutput old new size result =
    MatchResult result
    (λ n. ¬ (IsFailing old.failing (next_count old.calls)) × (n ≡ min size old.most) × (new ≡ record old { taken = new.taken; calls = next_count old.calls }))
    (λ _. new ≡ record old { calls = next_count old.calls; faults = next_count old.faults })
