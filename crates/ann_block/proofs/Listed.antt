-- Numbers of four bytes, one after the other.
use Rattle.std.proofs.Common.{◌≡◌, ℕ, Bool, true, zero, suc, ◌+◌, ◌-◌, ◌*◌, ◌/◌, ◌≤◌, ◌<◌, ◌&&◌, List, [], ◌∷◌, ◌++◌, length, take, drop, get_or, map, refl, sym, ap, ap₂, ◌∙◌, arith, length-append, length-take, length-drop, ◌^◌, nat_le}
use Rattle.std.specs.List.{flat_map}
use Rattle.std.specs.Simd.{first_chunks}
use Rattle.std.proofs.lemmas.List.{take_more, flat_map_more, take-take, drop-take, take-append-drop}
use Rattle.ann_bytes.specs.LittleEndian.{number_of, bytes_of}
use Rattle.ann_bytes.proofs.Numbers.{length-bytes_of, number_of-bytes_of}
use Rattle.ann_bytes.proofs.Numbered.{IsBytes, field_is, drop_bytes}
use Rattle.ann_block.specs.Node.{is_ascending, numbers_in}

pub length-numbers : (numbers : List ℕ) → length (flat_map (bytes_of 4) numbers) ≡ 4 * length numbers
length-numbers [] = refl
length-numbers (number ∷ numbers) = omega (arith, length-append (bytes_of 4 number) (flat_map (bytes_of 4) numbers), length-bytes_of 4 number, length-numbers numbers)

-- one number more
pub numbers_more : (numbers : List ℕ) (i : ℕ) → i < length numbers → flat_map (bytes_of 4) (take (i + 1) numbers) ≡ flat_map (bytes_of 4) (take i numbers) ++ bytes_of 4 (get_or numbers i 0)
numbers_more numbers i within =
    ap (flat_map (bytes_of 4)) (take_more numbers i 0 within)
    ∙ sym (flat_map_more (bytes_of 4) [] (take i numbers) (get_or numbers i 0))

-- ascending, and the first number isn't below the least
abbrev pub rises_from : ℕ → List ℕ → Bool
rises_from least [] = true
rises_from least (x ∷ xs) = nat_le least x && is_ascending (x ∷ xs)

-- ---- numbers in bytes

pub length-numbers_in : (n : ℕ) (bytes : List ℕ) → length (numbers_in n bytes) ≡ n
length-numbers_in zero bytes = refl
length-numbers_in (suc n) bytes = omega (arith, length-numbers_in n (drop 4 bytes))

map-first_chunks : (n : ℕ) (bytes : List ℕ) → map number_of (first_chunks 4 n bytes) ≡ numbers_in n bytes
map-first_chunks zero bytes = refl
map-first_chunks (suc n) bytes = ap (λ (rest : List ℕ). number_of (take 4 bytes) ∷ rest) (map-first_chunks n (drop 4 bytes))

-- bytes behind the numbers don't matter
numbers_in-take : (n m : ℕ) (bytes : List ℕ) → 4 * n ≤ m → numbers_in n (take m bytes) ≡ numbers_in n bytes
numbers_in-take zero m bytes within = refl
numbers_in-take (suc n) m bytes within =
    ap₂ (λ (x : ℕ) (rest : List ℕ). x ∷ rest)
    (ap number_of (take-take 4 m bytes (omega (arith, within))))
    (ap (λ (k : ℕ). numbers_in n (drop 4 (take k bytes))) (let split : m ≡ 4 + (m - 4) = omega (arith, within) in split)
    ∙ ap (numbers_in n) (drop-take 4 (m - 4) bytes)
    ∙ numbers_in-take n (m - 4) (drop 4 bytes) (omega (arith, within)))

-- chunks of a part of bytes are the numbers there
pub chunks_are : (bytes : List ℕ) (count long : ℕ) (chunks : List (List ℕ)) → 4 * count ≤ length bytes → long ≡ 4 * count → chunks ≡ first_chunks 4 (length (take long bytes) / 4) (take long bytes) → map number_of chunks ≡ numbers_in count bytes
chunks_are bytes count long chunks within is front =
    let many : length (take long bytes) / 4 ≡ count = omega (arith, length-take long bytes, within, is) in
    ap (map number_of) front
    ∙ map-first_chunks (length (take long bytes) / 4) (take long bytes)
    ∙ ap (λ (n : ℕ). numbers_in n (take long bytes)) many
    ∙ numbers_in-take count long bytes (omega (arith, is))

-- numbers come back from their bytes, whatever follows
pub numbers_again : (xs rest : List ℕ) → ((i : ℕ) → get_or xs i 0 < 2 ^ 32) → numbers_in (length xs) (flat_map (bytes_of 4) xs ++ rest) ≡ xs
numbers_again [] rest small = refl
numbers_again (x ∷ xs) rest small =
    ap₂ (λ (n : ℕ) (ns : List ℕ). n ∷ ns) (number_of-bytes_of 4 x (let here : x < 2 ^ 32 = small 0 in omega (arith, here))) (numbers_again xs rest (λ i. small (suc i)))

take_add : (n m : ℕ) (xs : List ℕ) → take (n + m) xs ≡ take n xs ++ take m (drop n xs)
take_add n m xs =
    sym (take-append-drop n (take (n + m) xs))
    ∙ ap₂ (λ (x y : List ℕ). x ++ y) (take-take n (n + m) xs (omega arith)) (drop-take n m xs)

-- bytes come back from the numbers in them
pub numbers_back : (n : ℕ) (bytes : List ℕ) → IsBytes bytes → 4 * n ≤ length bytes → flat_map (bytes_of 4) (numbers_in n bytes) ≡ take (4 * n) bytes
numbers_back zero bytes small within = refl
numbers_back (suc n) bytes small within =
    let first : bytes_of 4 (number_of (take 4 bytes)) ≡ take 4 bytes = sym (field_is bytes 0 4 small (omega (arith, within))) in
    let others = numbers_back n (drop 4 bytes) (drop_bytes 4 bytes small) (omega (arith, length-drop 4 bytes, within)) in
    let more : 4 + 4 * n ≡ 4 * suc n = omega arith in
    ap₂ (λ (x y : List ℕ). x ++ y) first others ∙ sym (take_add 4 (4 * n) bytes) ∙ ap (λ (k : ℕ). take k bytes) more
