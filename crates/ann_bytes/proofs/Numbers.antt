-- A number and its bytes.
use Rattle.std.proofs.Common.{◌≡◌, ℕ, zero, suc, ◌+◌, ◌*◌, ◌/◌, ◌%◌, ◌<◌, ◌^◌, List, [], ◌∷◌, length, get_or, refl, ap, arith}
use Rattle.std.proofs.Math.Nat.{pow-suc}
use Rattle.ann_bytes.specs.LittleEndian.{number_of, bytes_of}

pub length-bytes_of : (n number : ℕ) → length (bytes_of n number) ≡ n
length-bytes_of zero number = refl
length-bytes_of (suc n) number = omega (arith, length-bytes_of n (number / 256))

-- a number comes back from its bytes
pub number_of-bytes_of : (n number : ℕ) → number < 256 ^ n → number_of (bytes_of n number) ≡ number
number_of-bytes_of zero number below = omega (arith, below)
number_of-bytes_of (suc n) number below =
    let rest = number_of-bytes_of n (number / 256) (omega (arith, below, pow-suc 256 n)) in
    omega (arith, rest)

-- bytes come back from their number
pub bytes_of-number_of : (bytes : List ℕ) → ((i : ℕ) → get_or bytes i 0 < 256) → bytes_of (length bytes) (number_of bytes) ≡ bytes
bytes_of-number_of [] small = refl
bytes_of-number_of (byte ∷ bytes) small =
    let here : byte < 256 = small 0 in
    let low : (byte + 256 * number_of bytes) % 256 ≡ byte = omega (arith, here) in
    let high : (byte + 256 * number_of bytes) / 256 ≡ number_of bytes = omega (arith, here) in
    rw (low, high) (ap (λ (rest : List ℕ). byte ∷ rest) (bytes_of-number_of bytes (λ i. small (suc i))))

pub number_of_below : (bytes : List ℕ) → ((i : ℕ) → get_or bytes i 0 < 256) → number_of bytes < 256 ^ length bytes
number_of_below [] small = omega arith
number_of_below (byte ∷ bytes) small =
    omega (arith, small 0, number_of_below bytes (λ i. small (suc i)), pow-suc 256 (length bytes))
