-- Fields as numbers.
use Rattle.std.proofs.Common.{◌≡◌, ℕ, zero, suc, ◌+◌, ◌≤◌, ◌<◌, List, [], ◌∷◌, length, take, drop, get_or, refl, sym, ap, ◌∙◌, arith, length-take, length-drop}
use Rattle.std.proofs.lemmas.List.{get_or-drop}
use Rattle.ann_bytes.specs.LittleEndian.{number_of, bytes_of, field}
use Rattle.ann_bytes.proofs.Numbers.{bytes_of-number_of}

abbrev pub IsBytes : List ℕ → Type 0
IsBytes bytes = (i : ℕ) → get_or bytes i 0 < 256

pub length-field : (bytes : List ℕ) (at n : ℕ) → at + n ≤ length bytes → length (field bytes at n) ≡ n
length-field bytes at n within = omega (arith, length-take n (drop at bytes), length-drop at bytes, within)

pub take_bytes : (n : ℕ) (bytes : List ℕ) → IsBytes bytes → IsBytes (take n bytes)
take_bytes zero bytes small i = omega arith
take_bytes (suc n) [] small i = omega arith
take_bytes (suc n) (byte ∷ bytes) small zero = small 0
take_bytes (suc n) (byte ∷ bytes) small (suc i) = take_bytes n bytes (λ j. small (suc j)) i

pub drop_bytes : (n : ℕ) (bytes : List ℕ) → IsBytes bytes → IsBytes (drop n bytes)
drop_bytes n bytes small i = omega (arith, get_or-drop n bytes i 0, small (n + i))

pub field_bytes : (bytes : List ℕ) (at n : ℕ) → IsBytes bytes → IsBytes (field bytes at n)
field_bytes bytes at n small = take_bytes n (drop at bytes) (drop_bytes at bytes small)

-- a field is the bytes of its number
pub field_is : (bytes : List ℕ) (at n : ℕ) → IsBytes bytes → at + n ≤ length bytes → field bytes at n ≡ bytes_of n (number_of (field bytes at n))
field_is bytes at n small within =
    sym (bytes_of-number_of (field bytes at n) (field_bytes bytes at n small))
    ∙ ap (λ (k : ℕ). bytes_of k (number_of (field bytes at n))) (length-field bytes at n within)

-- a field of one byte
pub one_byte : (bytes : List ℕ) (at : ℕ) → at < length bytes → field bytes at 1 ≡ get_or bytes at 0 ∷ []
one_byte [] at there = absurd (omega (arith, there))
one_byte (byte ∷ bytes) zero there = refl
one_byte (byte ∷ bytes) (suc at) there = one_byte bytes at (omega (arith, there))
