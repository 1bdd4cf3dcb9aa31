-- The codebook of zeros is in its format.
use Rattle.std.proofs.Common.{◌≡◌, ◌≤◌, ◌<◌, ◌^◌, ℕ, zero, suc, ◌+◌, ◌*◌, ◌/◌, List, [], ◌∷◌, ◌++◌, refl, sym, ap, ◌∙◌, arith, map, take, drop, length, Bool, true, false, cond, not, eqb, eq-eqb, ◌&&◌, Some, None, nat_eq, ◌-◌}
use Rattle.std.proofs.Math.Nat.{mul-le-mul_right}
use Rattle.std.proofs.Math.Seq.{drop-append-add}
use Rattle.std.proofs.lemmas.Bool.Decides.{nat_tests}
use Rattle.std.specs.Prelude.{replicate, nat_lt, Err}
use Rattle.std.specs.List.{range_with_len, starts_with}
use Rattle.ann_bytes.specs.LittleEndian.{number_of, bytes_of, field}
use Rattle.ann_bytes.proofs.Numbers.{number_of-bytes_of}
use Rattle.ann_pq.specs.Format.{magic, fault, named, book_in, centroid_in}
use Rattle.ann_pq.specs.declared.refused.CodebookRefused.TheVariants.{Length, Magic, Shape, Memory}
use Rattle.ann_pq.specs.declared.refused.CodebookRefused.{CodebookRefused}
use Rattle.ann_once.specs.Book.{zeros, zero_bytes}

length_zeros : (n : ℕ) → length {A = ℕ} (replicate n 0) ≡ n
length_zeros zero = refl
length_zeros (suc n) = ap suc (length_zeros n)

drop_zeros : (i n : ℕ) → drop {A = ℕ} i (replicate n 0) ≡ replicate (n - i) 0
drop_zeros zero n = let same : n ≡ n - zero = omega arith in ap (λ (m : ℕ). replicate {A = ℕ} m 0) same
drop_zeros (suc i) zero = let none : zero ≡ zero - suc i = omega arith in ap (λ (m : ℕ). replicate {A = ℕ} m 0) none
drop_zeros (suc i) (suc n) = let same : n - i ≡ suc n - suc i = omega arith in drop_zeros i n ∙ ap (λ (m : ℕ). replicate {A = ℕ} m 0) same

take_zeros : (i n : ℕ) → i ≤ n → take {A = ℕ} i (replicate n 0) ≡ replicate i 0
take_zeros zero n le = refl
take_zeros (suc i) zero le = absurd (omega (arith, le))
take_zeros (suc i) (suc n) le = ap (λ xs. 0 ∷ xs) (take_zeros i n (omega (arith, le)))

length_is : (d : ℕ) → length (zero_bytes d) ≡ 12 + 256 * d
unfolding zero_bytes
length_is d = let size = length_zeros (256 * d) in omega (arith, size)

no_fault_by : (l s f w : Bool) → l ≡ false → s ≡ true → f ≡ true → w ≡ true → cond l (Some Length) (cond (not s) (Some Magic) (cond (not f) (Some Shape) (cond (not w) (Some Length) None))) ≡ None
no_fault_by l s f w a b c d = rw (a, b, c, d) refl

magic_first : (d : ℕ) → starts_with nat_eq (zero_bytes d) magic ≡ true
unfolding zero_bytes
magic_first d = refl

d_first : (d : ℕ) → d < 2 ^ 16 → number_of (field (zero_bytes d) 8 2) ≡ d
unfolding zero_bytes
d_first d small = number_of-bytes_of 2 d (omega (arith, small))

one_part : (d : ℕ) → eqb (number_of (field (zero_bytes d) 10 2)) 1 ≡ true
unfolding zero_bytes
one_part d = refl

pub no_fault : (d : ℕ) → d < 2 ^ 16 → fault d 1 (zero_bytes d) ≡ None
no_fault d small =
    let size = length_is d in
    let long : nat_lt (length (zero_bytes d)) 12 ≡ false = grind (arith, nat_tests) in
    no_fault_by _ _ _ _ long (magic_first d) (ap (λ n. eqb n d && eqb (number_of (field (zero_bytes d) 10 2)) 1) (d_first d small) ∙ ap (λ b. b && eqb (number_of (field (zero_bytes d) 10 2)) 1) (eq-eqb d d refl) ∙ one_part d) (eq-eqb (length (zero_bytes d)) (12 + 256 * d) size)

-- ---- its centroids

abbrev head : ℕ → List ℕ
head d = magic ++ (bytes_of 2 d ++ bytes_of 2 1)

zero_bytes_are : (d : ℕ) → zero_bytes d ≡ head d ++ replicate (256 * d) 0
unfolding zero_bytes
zero_bytes_are d = refl

length_head : (d : ℕ) → length (head d) ≡ 12
length_head d = refl

centroid_is : (d number : ℕ) → number < 256 → centroid_in d (zero_bytes d) 0 number ≡ replicate d 0
centroid_is d number few =
    let room = mul-le-mul_right d few in
    ap (λ xs. take d (drop (12 + (256 * 0 + number) * d) xs)) (zero_bytes_are d)
    ∙ ap (λ n. take d (drop (n + (256 * 0 + number) * d) (head d ++ replicate (256 * d) 0))) (sym (length_head d))
    ∙ ap (take d) (drop-append-add (head d) (replicate (256 * d) 0) ((256 * 0 + number) * d) ∙ drop_zeros ((256 * 0 + number) * d) (256 * d))
    ∙ take_zeros d (256 * d - (256 * 0 + number) * d) (omega (arith, room))

same_map : {A : Type 0} (f : ℕ → A) (x : A) (from n : ℕ) → ((k : ℕ) → k < from + n → f k ≡ x) → map f (range_with_len from n) ≡ replicate n x
same_map f x from zero same = refl
same_map f x from (suc n) same = ap (λ y. y ∷ map f (range_with_len (from + 1) n)) (same from (omega arith)) ∙ ap (λ ys. x ∷ ys) (same_map f x (from + 1) n (λ k lt. same k (omega (arith, lt))))

pub book_is : (d : ℕ) → book_in 1 (d / 1) (zero_bytes d) ≡ zeros d
unfolding zeros
book_is d = let same : d / 1 ≡ d = omega arith in ap (λ (w : ℕ). book_in 1 w (zero_bytes d)) same ∙ ap (λ b. b ∷ []) (same_map (centroid_in d (zero_bytes d) 0) (replicate d 0) 0 256 (λ k few. centroid_is d k few))

-- what a codebook that was read from these bytes has, and what no refusal names
pub named_none : (d : ℕ) (bytes : List ℕ) → d < 2 ^ 16 → bytes ≡ zero_bytes d → fault d 1 bytes ≡ None
named_none d bytes small is = ap (fault d 1) is ∙ no_fault d small

-- no refusal is named
pub no_length : (X : Type 0) (why : CodebookRefused) → why ≡ Length → named {X = X} (Err why) ≡ None → ⊥
no_length X Length is none = cc
no_length X Magic is none = cc
no_length X Shape is none = cc
no_length X Memory is none = cc

pub no_magic : (X : Type 0) (why : CodebookRefused) → why ≡ Magic → named {X = X} (Err why) ≡ None → ⊥
no_magic X Length is none = cc
no_magic X Magic is none = cc
no_magic X Shape is none = cc
no_magic X Memory is none = cc

pub no_shape : (X : Type 0) (why : CodebookRefused) → why ≡ Shape → named {X = X} (Err why) ≡ None → ⊥
no_shape X Length is none = cc
no_shape X Magic is none = cc
no_shape X Shape is none = cc
no_shape X Memory is none = cc

-- ---- its bytes, put together

pub joined_is : (d n : ℕ) (front fields one parts two components all : List ℕ) → front ≡ magic → fields ≡ bytes_of 2 d → one ≡ front ++ fields → parts ≡ bytes_of 2 1 → two ≡ one ++ parts → components ≡ replicate (256 * n) 0 → n ≡ d → all ≡ two ++ components → all ≡ zero_bytes d
unfolding zero_bytes
joined_is d n front fields one parts two components all a b c e f g same h =
    h ∙ ap (λ x. x ++ components) (f ∙ ap (λ x. x ++ parts) (c ∙ ap (λ x. x ++ fields) a ∙ ap (λ x. magic ++ x) b) ∙ ap (λ x. (magic ++ bytes_of 2 d) ++ x) e) ∙ ap (λ x. ((magic ++ bytes_of 2 d) ++ bytes_of 2 1) ++ x) (g ∙ ap (λ (m : ℕ). replicate {A = ℕ} (256 * m) 0) same)
