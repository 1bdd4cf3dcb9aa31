-- The bytes of a buffer that were written.
use Rattle.std.proofs.Common.{◌≡◌, ℕ, ◌+◌, List, ◌++◌, length, take, drop, refl, arith}
use Rattle.std.proofs.lemmas.List.{take_at}
use Rattle.ann_bytes.specs.LittleEndian.{with_field}

module _ (n : ℕ) (out items : List ℕ) (long : length out ≡ length items) (whole : n ≡ length items) where
  -- what a buffer holds that was lent whole
  pub lent : take n (out ++ drop (length out) items) ≡ out
  lent = take_at out (drop (length out) items) n (omega (arith, long, whole))

-- what was written at the front
pub front_written : (bytes new : List ℕ) → take (length new) (with_field bytes 0 new) ≡ new
front_written bytes new = take_at new (drop (0 + length new) bytes) (length new) refl
