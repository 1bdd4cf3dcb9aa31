-- A preamble that was written is read again.
use Rattle.std.proofs.Common.{◌≡◌, ℕ, ◌+◌, ◌*◌, ◌^◌, ◌%◌, ◌≤◌, ◌<◌, Bool, true, false, not, ◌==◌, ◌&&◌, nat_lt, nat_eq, List, [], ◌∷◌, ◌++◌, Option, Some, None, length, take, drop, refl, ap, ap₂, ◌∙◌, arith, append_assoc, length-append, if◌then◌else◌}
use Rattle.std.specs.List.{concat, starts_with}
use Rattle.std.specs.Option.{is_none}
use Rattle.std.proofs.lemmas.Bool.{le-leb, lt-ltb}
use Rattle.std.proofs.lemmas.Bool.Decides.{Decides-eqb}
use Rattle.std.proofs.lemmas.List.{take_at}
use Rattle.ann_types.specs.declared.params.Params.{Params}
use Rattle.ann_bytes.specs.LittleEndian.{number_of, bytes_of, field}
pub use Rattle.ann_types.proofs.Booleans.{not_same}
use Rattle.ann_types.proofs.Booleans.{same_true}
use Rattle.ann_bytes.proofs.Joined.{laid, laid_is}
use Rattle.ann_bytes.proofs.Numbers.{number_of-bytes_of}
use Rattle.ann_pq.specs.Format.{fault, magic, codebook}
use Rattle.ann_pq.specs.declared.refused.CodebookRefused.TheVariants.{Length, Magic, Shape}
use Rattle.ann_preamble.specs.Base.{is_base}
use Rattle.ann_preamble.specs.Preamble.{magic_two, magic_one, fields_with, fields_one, fields_two, base_in, book_place, book_size, gate_place, are_limits, are_sound, begins, fields_in, book_bytes, is_whole, said, with_fields, preamble_of, fields_of}
use Rattle.ann_preamble.specs.Written.{params_fields, base_fields, preamble_bytes, said_with, IsReadAgain}
use Rattle.ann_preamble.specs.declared.base.Base.{Base}
use Rattle.ann_preamble.specs.declared.fields.Fields.{Fields}

-- ---- a codebook's bytes

last_rule : (a b c e : Bool) → (if a then Some Length else if not b then Some Magic else if not c then Some Shape else if not e then Some Length else None) ≡ None → e ≡ true
last_rule true b c e is = cc
last_rule false false c e is = cc
last_rule false true false e is = cc
last_rule false true true false is = cc
last_rule false true true true is = refl

pub length-book : (d m : ℕ) (book : List ℕ) → fault d m book ≡ None → length book ≡ 12 + 256 * d
length-book d m book is =
    (Decides-eqb (length book) (12 + 256 * d)).0
    (last_rule (nat_lt (length book) 12) (starts_with nat_eq book magic) ((number_of (field book 8 2) == d) && (number_of (field book 10 2) == m)) (length book == 12 + 256 * d) is)

-- ---- the parameters

limits_again : (p : Params) (base : Base) (generation : ℕ) → are_limits (fields_of p base generation) ≡ true
limits_again p base generation =
    let l = p.in_limits in
    let rule : (x y : Bool) → x ≡ true → y ≡ true → (x && y) ≡ true = λ x y q r. ap₂ ◌&&◌ q r in
    rule _ _ (rule _ _ (rule _ _ (rule _ _ (rule _ _ (rule _ _ (rule _ _ (rule _ _ (rule _ _ (rule _ _ (rule _ _ (rule _ _ (rule _ _ (rule _ _ (rule _ _
    (le-leb 1 p.m l.code_bytes.0) (le-leb p.m 64 l.code_bytes.1)) (le-leb 1 p.d l.components.0)) (le-leb p.d 1024 l.components.1))
    (same_true (p.d % p.m) 0 l.parts)) (le-leb 2 p.r l.neighbours.0)) (le-leb p.r 128 l.neighbours.1)) (le-leb 1 p.l_build l.width.0)) (le-leb p.l_build 1000 l.width.1))
    (le-leb 1 p.b l.alpha.0)) (le-leb p.b p.a l.alpha.1)) (le-leb p.a 100 l.alpha.2)) (le-leb 1 p.w l.beam.0)) (le-leb p.w 16 l.beam.1))
    (le-leb 1 p.freeze_at l.freeze.0)) (le-leb p.freeze_at 100000 l.freeze.1)

module _ (p : Params) (generation : ℕ) (base : Base) (book : List ℕ) (sound : fault p.d p.m book ≡ None) where
  -- ---- as it is written

  pub written : (out : List ℕ) → 74 + 256 * p.d ≤ length out → laid 0 ((0 ∷ []) ∷ magic_two ∷ concat (params_fields p) ∷ bytes_of 8 generation ∷ concat (base_fields base) ∷ book ∷ (0 ∷ []) ∷ []) out ≡ preamble_bytes 0 p generation base book 0 ++ drop (74 + 256 * p.d) out
  unfolding preamble_bytes
  written out room =
      let fields : List (List ℕ) = (0 ∷ []) ∷ magic_two ∷ concat (params_fields p) ∷ bytes_of 8 generation ∷ concat (base_fields base) ∷ book ∷ (0 ∷ []) ∷ [] in
      let long : length (concat fields) ≡ 74 + 256 * p.d = omega (arith, length-append book (0 ∷ []), length-book p.d p.m book sound) in
      laid_is fields out 0 (omega (arith, long, room)) ∙ ap (λ (n : ℕ). concat fields ++ drop n out) (omega (arith, long))

  -- ---- as it is read

  module _ (gate : ℕ) (rest : List ℕ) (some : 1 ≤ generation) (valid : is_base base ≡ true) (generation_fits : generation < 2 ^ 64) (position_fits : base.position < 2 ^ 64) (segment_fits : base.segment < 2 ^ 64) (next_fits : base.next < 2 ^ 64) where
    abbrev bytes : List ℕ
    bytes = preamble_bytes 1 p generation base book gate ++ rest

    abbrev fields : Fields
    fields = fields_of p base generation

    fields_again : fields_two bytes ≡ fields
    unfolding preamble_bytes fields_two fields_with base_in
    fields_again =
        let l = p.in_limits in
        let d = number_of-bytes_of 2 p.d (omega (arith, l.components.1)) in
        let r = number_of-bytes_of 2 p.r (omega (arith, l.neighbours.1)) in
        let l_build = number_of-bytes_of 2 p.l_build (omega (arith, l.width.1)) in
        let a = number_of-bytes_of 2 p.a (omega (arith, l.alpha.2)) in
        let b = number_of-bytes_of 2 p.b (omega (arith, l.alpha.1, l.alpha.2)) in
        let w = number_of-bytes_of 2 p.w (omega (arith, l.beam.1)) in
        let m = number_of-bytes_of 2 p.m (omega (arith, l.code_bytes.1)) in
        let freeze = number_of-bytes_of 4 p.freeze_at (omega (arith, l.freeze.1)) in
        let g = number_of-bytes_of 8 generation (omega (arith, generation_fits)) in
        let position = number_of-bytes_of 8 base.position (omega (arith, position_fits)) in
        let segment = number_of-bytes_of 8 base.segment (omega (arith, segment_fits)) in
        let next = number_of-bytes_of 8 base.next (omega (arith, next_fits)) in
        λ i. record { d = d i; r = r i; l_build = l_build i; a = a i; b = b i; w = w i; m = m i; zero = 0; freeze_at = freeze i; generation = g i; base = record { position = position i; next = next i; segment = segment i } }

    long : length bytes ≡ 74 + 256 * p.d + length rest
    unfolding preamble_bytes
    long = omega (arith, length-append (book ++ gate ∷ []) rest, length-append book (gate ∷ []), length-book p.d p.m book sound)

    later : (generation == 0) ≡ false
    later = not_same generation 0 (λ (none : generation ≡ 0). absurd (omega (arith, none, some)))

    place : book_place generation ≡ 61
    place = ap (λ (b : Bool). if b then 29 else 61) later

    book_again : book_bytes fields bytes ≡ book
    unfolding preamble_bytes
    book_again =
        ap (λ (at : ℕ). field bytes at (book_size p.d)) place
        ∙ ap (take (book_size p.d)) (append_assoc book (gate ∷ []) rest)
        ∙ take_at book (gate ∷ rest) (book_size p.d) (length-book p.d p.m book sound)

    two_again : fields_in bytes ≡ Some fields
    unfolding preamble_bytes
    two_again =
        let begun : begins 61 (1 ∷ magic_two) bytes ≡ true = ap (λ (b : Bool). b && true) (le-leb 61 (length bytes) (omega (arith, long))) in
        let one : Option Fields = if begins 29 (1 ∷ magic_one) bytes then Some (fields_one bytes) else None in
        ap (λ (b : Bool). if b then (if (fields_two bytes).generation == 0 then None else Some (fields_two bytes)) else one) begun
        ∙ ap (λ (f : Fields). if f.generation == 0 then None else Some f) fields_again
        ∙ ap (λ (b : Bool). if b then None else Some fields) later

    whole : is_whole fields bytes ≡ true
    whole =
        let there : gate_place generation p.d < length bytes = omega (arith, long, place) in
        let rules : are_sound fields ≡ true = ap₂ ◌&&◌ (ap₂ ◌&&◌ (limits_again p base generation) (same_true 0 0 refl)) valid in
        ap₂ ◌&&◌ (ap₂ ◌&&◌ rules (lt-ltb (gate_place generation p.d) (length bytes) there))
        (ap (λ (b : List ℕ). is_none (fault p.d p.m b)) book_again ∙ ap is_none sound)

    again : preamble_of bytes ≡ Some (said_with p generation base book)
    unfolding preamble_of
    again =
        ap (with_fields bytes) two_again
        ∙ ap (λ (b : Bool). if b then Some (said fields bytes) else None) whole
        ∙ ap (λ (b : List ℕ). Some (record { fields = fields; book = codebook p.d p.m b })) book_again

  pub read_again : 1 ≤ generation → is_base base ≡ true → generation < 2 ^ 64 → base.position < 2 ^ 64 → base.segment < 2 ^ 64 → base.next < 2 ^ 64 → IsReadAgain p generation base book
  read_again some valid g position segment next = λ gate rest. again gate rest some valid g position segment next
