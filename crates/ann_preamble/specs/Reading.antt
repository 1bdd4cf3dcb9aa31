-- What is true of a preamble that was read.
use Rattle.std.specs.Prelude.{◌≡◌, ◌<◌, ◌⊎◌, ℕ, ◌+◌, true, List, ◌++◌, length, take, drop, get_or, None, Some}
use Rattle.ann_pq.specs.Format.{fault}
use Rattle.ann_preamble.specs.Base.{is_base}
use Rattle.ann_preamble.specs.Preamble.{Said, no_base, gate_place, preamble_of}
use Rattle.ann_preamble.specs.Written.{preamble_bytes}
use Rattle.ann_preamble.specs.declared.preamble.Preamble.{Preamble}

-- the base is valid, and empty in version 1; the codebook is one of these parameters; the bytes have a first gate
pub record IsSoundIn (bytes : List ℕ) (s : Said) : Type 0 where
  pub base : is_base s.fields.base ≡ true
  pub first_version : s.fields.generation ≡ 0 → s.fields.base ≡ no_base
  pub sizes : (s.book.d ≡ s.fields.d) × (s.book.m ≡ s.fields.m)
  pub book : fault s.fields.d s.fields.m s.book.bytes ≡ None
  pub gate : gate_place s.fields.generation s.fields.d < length bytes

-- the bytes are a preamble of version 2 as it is written, with any gate, and what is behind it
abbrev pub IsWrittenIn : List ℕ → Preamble → Type 0
IsWrittenIn bytes p =
    let gate : ℕ = gate_place p.generation p.params.d in
    bytes ≡ preamble_bytes 1 p.params p.generation p.base p.book.bytes (get_or bytes gate 0) ++ drop (gate + 1) bytes

-- bytes that agree with these up to the first gate, and have a byte there, say the same
abbrev pub IsSaidBefore : List ℕ → Said → Type 0
IsSaidBefore bytes s =
    let gate : ℕ = gate_place s.fields.generation s.fields.d in
    (other : List ℕ) → take gate other ≡ take gate bytes → gate < length other → preamble_of other ≡ Some s

-- the first bytes of these say nothing or the same
abbrev pub HasFronts : List ℕ → Type 0
HasFronts bytes = (n : ℕ) → (preamble_of (take n bytes) ≡ None) ⊎ (preamble_of (take n bytes) ≡ preamble_of bytes)
