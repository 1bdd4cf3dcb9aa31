-- Each image is picked by some number, and no number picks anything else.
use Rattle.std.proofs.Common.{◌≡◌, ℕ, zero, suc, ◌+◌, ◌-◌, ◌*◌, ◌/◌, ◌%◌, ◌^◌, ◌<◌, ◌≤◌, ◌==◌, ◌&&◌, nat_lt, not, if◌then◌else◌, Bool, true, false, List, [], ◌∷◌, ◌++◌, map, length, get_or, refl, sym, ◌∙◌, ap, arith}
use Rattle.std.proofs.Math.Nat.{add-mul-div_left, add-mul-mod_self_left, mod-mod, mod-eq_of_lt, div-eq_of_lt, mul-mod_right, mul-div_right, mul_left_comm, mul_assoc}
use Rattle.std.proofs.lemmas.Bool.{ltb-true, lt-ltb, false≢true}
use Rattle.std.proofs.lemmas.Nat.{mod_below}
use Rattle.std.proofs.lemmas.List.{ext_get_or}
use Rattle.std.proofs.lemmas.List.FromFn.{map-range_with_len_more, length-map-range_with_len, get_or-map-range_with_len}
use Rattle.std.specs.List.{AllByRecursion, range_with_len}
use Rattle.ann_disk.specs.Image.{Unsynced, IsImage, IsFree}
use Rattle.ann_disk.specs.Chosen.{image_of, end_of, ends_of, byte_of, doubt, filling, filling_by, noise_of, digit}

-- a number that fits 64 bits has no digits beyond them
digit_none : (place : ℕ) → digit 0 place ≡ 0
digit_none zero = refl
digit_none (suc place) = digit_none place

beyond_none : (u : Unsynced) (number : ℕ) → number < 2 ^ 64 → number / (2 ^ 64 * ends_of u) ≡ 0
beyond_none u number small = div-eq_of_lt (omega (arith, small))

none_added : (byte : ℕ) → byte < 256 → (byte + 0) % 256 ≡ byte
none_added byte small = omega (arith, small)

pub doubt_small : (u : Unsynced) (seen : List ℕ) (number place : ℕ) → number < 2 ^ 64 → filling u seen number place < 256 → doubt u seen number place ≡ filling u seen number place
doubt_small u seen number place small byte =
    ap (λ (d : ℕ). (filling u seen number place + d) % 256) (ap (λ (n : ℕ). digit n place) (beyond_none u number small) ∙ digit_none place)
    ∙ none_added (filling u seen number place) byte

-- a place that no write has covered has a byte that was kept
by_truth : (b : Bool) (x y z : ℕ) → (b ≡ true → x ≡ z) → (b ≡ false → y ≡ z) → (if b then x else y) ≡ z
by_truth true x y z whole rest = whole refl
by_truth false x y z whole rest = rest refl

both : (a b : Bool) → (a && b) ≡ true → (a ≡ true) × (b ≡ true)
both true true is = (refl, refl)
both true false is = absurd (false≢true is)
both false b is = absurd (false≢true is)

not_true : (b : Bool) → not b ≡ true → b ≡ false
not_true true is = absurd (false≢true is)
not_true false is = refl

module _ (u : Unsynced) (seen : List ℕ) (number place : ℕ) where
  abbrev stays : Bool
  stays = not (get_or u.covered place true) && nat_lt place (length u.kept)

  pub free_byte : place < length u.kept → IsFree u.covered place → byte_of u seen number place ≡ get_or u.kept place 0
  free_byte here free =
      ap (λ (b : Bool). if b then get_or u.kept place 0 else doubt u seen number place)
      (ap (λ (b : Bool). not b && nat_lt place (length u.kept)) free ∙ lt-ltb place (length u.kept) here)

  pub byte_by : (byte : ℕ) → (place < length u.kept → IsFree u.covered place → get_or u.kept place 0 ≡ byte) → doubt u seen number place ≡ byte → byte_of u seen number place ≡ byte
  byte_by byte kept other = by_truth stays (get_or u.kept place 0) (doubt u seen number place) byte
      (λ is. let parts = both (not (get_or u.covered place true)) (nat_lt place (length u.kept)) is in
      kept (ltb-true place (length u.kept) parts.1) (not_true (get_or u.covered place true) parts.0))
      (λ no. other)

-- what a number picks is an image
pub image_is : (u : Unsynced) (seen : List ℕ) (number : ℕ) → u.low ≤ u.high → IsImage u (image_of u seen number)
image_is u seen number order =
    let long = length-map-range_with_len (byte_of u seen number) 0 (end_of u number) in
    let below = mod_below (number / 4) (ends_of u) (omega arith) in
    record {
      no_shorter = omega (arith, long);
      no_longer = omega (arith, long, below, order);
      stays = λ i here there free.
          get_or-map-range_with_len (byte_of u seen number) 0 (end_of u number) i i 0 (omega (arith, here, long)) (omega arith)
          ∙ free_byte u seen number i there free;
    }

-- one byte more
pub one_more : (f : ℕ → ℕ) (items more : List ℕ) (place byte : ℕ) → more ≡ items ++ byte ∷ [] → items ≡ map f (range_with_len 0 place) → byte ≡ f place → more ≡ map f (range_with_len 0 (place + 1))
one_more f items more place byte pushed sofar is =
    pushed
    ∙ ap (λ (l : List ℕ). l ++ byte ∷ []) sofar
    ∙ ap (λ (b : ℕ). map f (range_with_len 0 place) ++ b ∷ []) is
    ∙ sym (map-range_with_len_more f 0 place place (omega arith))

-- a number with the digits that a function gives
abbrev pack : (ℕ → ℕ) → ℕ → ℕ
pack f zero = 0
pack f (suc n) = f 0 % 256 + 256 * pack (λ i. f (suc i)) n

none_before : (n : ℕ) → 0 + n ≡ n
none_before n = omega arith

digit_pack : (f : ℕ → ℕ) (n i : ℕ) → i < n → digit (pack f n) i ≡ f i % 256
digit_pack f zero i below = absurd (omega (arith, below))
digit_pack f (suc n) zero below = add-mul-mod_self_left (f 0 % 256) 256 (pack (λ i. f (suc i)) n) ∙ mod-mod (f 0) 256
digit_pack f (suc n) (suc i) below =
    let small = mod_below (f 0) 256 (omega arith) in
    ap (λ (m : ℕ). digit m i) (add-mul-div_left (f 0 % 256) (pack (λ i. f (suc i)) n) (omega arith) ∙ ap (λ (q : ℕ). q + pack (λ i. f (suc i)) n) (div-eq_of_lt small) ∙ none_before (pack (λ i. f (suc i)) n))
    ∙ digit_pack (λ i. f (suc i)) n i (omega (arith, below))

each_at : (bytes : List ℕ) → AllByRecursion (λ byte. byte < 256) bytes → (i : ℕ) → i < length bytes → get_or bytes i 0 < 256
each_at [] each i here = absurd (omega (arith, here))
each_at (byte ∷ bytes) each zero here = each.0
each_at (byte ∷ bytes) each (suc i) here = each_at bytes each.1 i (omega (arith, here))

-- what makes one byte of another
turned : (from to : ℕ) → to < 256 → (from + (to + 255 * from) % 256) % 256 ≡ to
turned from to small = omega (arith, small)

module _ (u : Unsynced) (seen image : List ℕ) (is : IsImage u image) (each : AllByRecursion (λ byte. byte < 256) image) where
  abbrev digits : ℕ
  digits = pack (λ i. get_or image i 0 + 255 * get_or u.kept i 0) (length image)

  abbrev span : ℕ
  span = ends_of u

  -- its end, and the digits beyond 64 bits
  abbrev picked : ℕ
  picked = 4 * (length image - u.low + span * (2 ^ 62 * digits))

  by_four : picked % 4 ≡ 0
  by_four = mul-mod_right 4 (length image - u.low + span * (2 ^ 62 * digits))

  longer : length image - u.low < span
  longer = omega (arith, is.no_shorter, is.no_longer)

  end_is : end_of u picked ≡ length image
  end_is =
      let quarter : picked / 4 ≡ length image - u.low + span * (2 ^ 62 * digits) = mul-div_right (length image - u.low + span * (2 ^ 62 * digits)) (omega arith) in
      let rest : picked / 4 % span ≡ length image - u.low =
      ap (λ (n : ℕ). n % span) quarter ∙ add-mul-mod_self_left (length image - u.low) span (2 ^ 62 * digits) ∙ mod-eq_of_lt longer in
      omega (arith, rest, is.no_shorter)

  digits_are : picked / (2 ^ 64 * span) ≡ digits
  digits_are =
      let parted : picked ≡ 4 * (length image - u.low) + 2 ^ 64 * span * digits =
      let one = mul_left_comm span (2 ^ 62) digits in
      let two = mul_assoc (2 ^ 64) span digits in
      omega (arith, one, two) in
      let small : 4 * (length image - u.low) < 2 ^ 64 * span = omega (arith, longer) in
      ap (λ (n : ℕ). n / (2 ^ 64 * span)) parted
      ∙ add-mul-div_left (4 * (length image - u.low)) digits (omega (arith, small))
      ∙ ap (λ (n : ℕ). n + digits) (div-eq_of_lt small)
      ∙ none_before digits

  filled : (i : ℕ) → filling u seen picked i ≡ get_or u.kept i 0
  filled i = ap (λ (q : ℕ). filling_by (if q == 3 then noise_of picked i / 2 ^ 40 % 3 else q) (noise_of picked i / 2 ^ 56) u.kept seen i) by_four

  same_byte : (i : ℕ) → i < length image → byte_of u seen picked i ≡ get_or image i 0
  same_byte i here = byte_by u seen picked i (get_or image i 0) (λ there free. sym (is.stays i here there free))
      (ap (λ (n : ℕ). (filling u seen picked i + digit n i) % 256) digits_are
      ∙ ap (λ (n : ℕ). (n + digit digits i) % 256) (filled i)
      ∙ ap (λ (n : ℕ). (get_or u.kept i 0 + n) % 256) (digit_pack (λ k. get_or image k 0 + 255 * get_or u.kept k 0) (length image) i here)
      ∙ turned (get_or u.kept i 0) (get_or image i 0) (each_at image each i here))

  pub image_picked : (number : ℕ) × (image_of u seen number ≡ image)
  image_picked =
      let long : length (image_of u seen picked) ≡ length image = length-map-range_with_len (byte_of u seen picked) 0 (end_of u picked) ∙ end_is in (
        picked,
        ext_get_or 0 (image_of u seen picked) image long (λ i here.
            get_or-map-range_with_len (byte_of u seen picked) 0 (end_of u picked) i i 0 (omega (arith, here, long, end_is)) (omega arith)
            ∙ same_byte i (omega (arith, here, long))),
      )
