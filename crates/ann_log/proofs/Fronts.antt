-- Reading the first bytes of a file.
use Rattle.std.proofs.Common.{◌≡◌, ℕ, ◌+◌, ◌-◌, List, [], ◌++◌, length, take, drop, min, ⊎_elim, sym, ap, ◌∙◌, arith, length-take, slice_range}
use Rattle.std.proofs.lemmas.Bool.{cases_lt}
use Rattle.std.proofs.lemmas.List.{append-nil, take_all, drop_all}

-- so many bytes, or all that there are
take_least : (n : ℕ) (bytes : List ℕ) → take (min (length bytes) n) bytes ≡ take n bytes
take_least n bytes = ⊎_elim
    (λ less. ap (λ (k : ℕ). take k bytes) (let is : min (length bytes) n ≡ length bytes = omega (arith, less) in is) ∙ take_all (length bytes) bytes (omega arith) ∙ sym (take_all n bytes (omega (arith, less))))
    (λ more. ap (λ (k : ℕ). take k bytes) (let is : min (length bytes) n ≡ n = omega (arith, more) in is))
    (cases_lt (length bytes) n)

-- a buffer of so many bytes, all of which were read
pub front_read : (n len : ℕ) (seen items buf read : List ℕ) → len ≡ min (length seen) n → buf ≡ items → length buf ≡ len → read ≡ slice_range seen 0 (0 + length buf) → take len (read ++ drop (length read) items) ≡ take n seen
front_read n len seen items buf read least same long range =
    let is : read ≡ take (length buf) seen = range ∙ ap (λ (k : ℕ). take k seen) (let k : 0 + length buf - 0 ≡ length buf = omega arith in k) in
    let read_long : length read ≡ len = ap length is ∙ (let size : length (take (length buf) seen) ≡ len = omega (arith, length-take (length buf) seen, long, least) in size) in
    let none : drop (length read) items ≡ [] = drop_all (length read) items (let size = ap length same in omega (arith, size, long, read_long)) in
    ap (λ (l : List ℕ). take len (read ++ l)) none
    ∙ ap (take len) (append-nil read)
    ∙ take_all len read (omega (arith, read_long))
    ∙ is
    ∙ ap (λ (k : ℕ). take k seen) (long ∙ least)
    ∙ take_least n seen
