-- A preamble is read from the bytes before the first gate alone.
use Rattle.std.proofs.Common.{◌≡◌, ◌≢◌, ℕ, ◌+◌, ◌-◌, ◌≤◌, ◌<◌, Bool, true, false, ◌==◌, ◌&&◌, nat_le, nat_lt, List, [], ◌∷◌, Option, Some, None, length, take, drop, get_or, refl, sym, ap, ap₂, ◌∙◌, arith, subst, length-take, ◌⊎◌, inl, inr, if◌then◌else◌}
use Rattle.std.specs.Option.{is_none, unwrap_or}
use Rattle.std.specs.Str.{bytes_eq}
use Rattle.std.proofs.lemmas.Bool.{le-leb, lt-ltb, ltb-true}
use Rattle.std.proofs.lemmas.Bool.Decides.{Decides-eqb}
use Rattle.std.proofs.lemmas.List.{drop-take, take-take}
use Rattle.std.proofs.lemmas.Slice.Eq.{bytes_eq-Decides}
pub use Rattle.ann_types.proofs.Booleans.{both}
use Rattle.ann_types.proofs.Booleans.{and_false}
use Rattle.ann_bytes.specs.LittleEndian.{number_of, field}
use Rattle.ann_pq.specs.Format.{fault, codebook}
use Rattle.ann_preamble.specs.Base.{is_base}
use Rattle.ann_preamble.specs.Preamble.{magic_one, magic_two, fields_with, fields_one, fields_two, base_in, no_base, book_place, book_size, gate_place, are_limits, are_sound, begins, fields_in, book_bytes, is_whole, said, with_fields, Said, preamble_of}
use Rattle.ann_preamble.specs.Reading.{IsSoundIn, IsSaidBefore, HasFronts}
use Rattle.ann_preamble.specs.declared.base.Base.{Base}
use Rattle.ann_preamble.specs.declared.fields.Fields.{Fields}

no_fault : {A : Type 0} (o : Option A) → is_none o ≡ true → o ≡ None
no_fault None is = refl
no_fault (Some x) is = cc

-- a field of the first bytes
field_of_first : (bytes : List ℕ) (gate at n : ℕ) → at + n ≤ gate → field (take gate bytes) at n ≡ field bytes at n
field_of_first bytes gate at n within =
    ap (λ (k : ℕ). take n (drop at (take k bytes))) (omega (arith, within))
    ∙ ap (take n) (drop-take at (gate - at) bytes)
    ∙ take-take n (gate - at) (drop at bytes) (omega (arith, within))

module _ (bytes other : List ℕ) (gate : ℕ) (agree : take gate other ≡ take gate bytes) (there : gate < length other) where
  same_field : (at n : ℕ) → at + n ≤ gate → field other at n ≡ field bytes at n
  same_field at n within =
      sym (field_of_first other gate at n within) ∙ ap (λ (b : List ℕ). field b at n) agree ∙ field_of_first bytes gate at n within

  number : (at n : ℕ) → at + n ≤ gate → number_of (field other at n) ≡ number_of (field bytes at n)
  number at n within = ap number_of (same_field at n within)

  same_fields : 29 ≤ gate → (generation : ℕ) (base : Base) → fields_with other generation base ≡ fields_with bytes generation base
  unfolding fields_with
  same_fields within generation base =
      let d = number 9 2 (omega (arith, within)) in
      let r = number 11 2 (omega (arith, within)) in
      let l = number 13 2 (omega (arith, within)) in
      let a = number 15 2 (omega (arith, within)) in
      let b = number 17 2 (omega (arith, within)) in
      let w = number 19 2 (omega (arith, within)) in
      let m = number 21 2 (omega (arith, within)) in
      let z = number 23 2 (omega (arith, within)) in
      let f = number 25 4 (omega (arith, within)) in
      λ i. record { d = d i; r = r i; l_build = l i; a = a i; b = b i; w = w i; m = m i; zero = z i; freeze_at = f i; generation = generation; base = base }

  same_base : 61 ≤ gate → base_in other ≡ base_in bytes
  unfolding base_in
  same_base within =
      let position = number 37 8 (omega (arith, within)) in
      let segment = number 45 8 (omega (arith, within)) in
      let next = number 53 8 (omega (arith, within)) in
      λ i. record { position = position i; next = next i; segment = segment i }

  same_two : 61 ≤ gate → fields_two other ≡ fields_two bytes
  unfolding fields_two
  same_two within =
      same_fields (omega (arith, within)) (number_of (field other 29 8)) (base_in other)
      ∙ ap₂ (fields_with bytes) (number 29 8 (omega (arith, within))) (same_base within)

  same_one : 29 ≤ gate → fields_one other ≡ fields_one bytes
  unfolding fields_one
  same_one within = same_fields within 0 no_base

  same_begin : (size : ℕ) (front : List ℕ) → size ≤ gate → 9 ≤ gate → begins size front bytes ≡ true → begins size front other ≡ true
  same_begin size front within long is =
      ap₂ ◌&&◌ (le-leb size (length other) (omega (arith, within, there))) (ap (λ (b : List ℕ). bytes_eq b front) (same_field 0 9 long) ∙ (both (nat_le size (length bytes)) (bytes_eq (field bytes 0 9) front) is).1)

  same_two_in : (f : Fields) (empty : Bool) → gate ≡ gate_place f.generation f.d → begins 61 (1 ∷ magic_two) bytes ≡ true → ((fields_two bytes).generation == 0) ≡ empty → (if empty then None else Some (fields_two bytes)) ≡ Some f → fields_in other ≡ Some f
  same_two_in f true at begun not_empty is = cc
  same_two_in f false at begun not_empty is =
      let fields : fields_two bytes ≡ f = ap (λ (o : Option Fields). unwrap_or o f) is in
      let place : book_place f.generation ≡ 61 = ap (λ (b : Bool). if b then 29 else 61) (ap (λ (g : Fields). g.generation == 0) (sym fields) ∙ not_empty) in
      let far : gate ≡ 61 + book_size f.d = at ∙ ap (λ (n : ℕ). n + book_size f.d) place in
      let tests : Fields → Option Fields = λ g. if g.generation == 0 then None else Some g in
      ap (λ (b : Bool). if b then tests (fields_two other) else (if begins 29 (1 ∷ magic_one) other then Some (fields_one other) else None)) (same_begin 61 (1 ∷ magic_two) (omega (arith, far)) (omega (arith, far)) begun)
      ∙ ap tests (same_two (omega (arith, far)))
      ∙ ap (λ (b : Bool). if b then None else Some (fields_two bytes)) not_empty
      ∙ is

  same_one_in : (f : Fields) → gate ≡ gate_place f.generation f.d → begins 29 (1 ∷ magic_one) bytes ≡ true → Some (fields_one bytes) ≡ Some f → fields_in other ≡ Some f
  unfolding fields_one fields_with
  same_one_in f at begun is =
      let fields : fields_one bytes ≡ f = ap (λ (o : Option Fields). unwrap_or o f) is in
      let place : book_place f.generation ≡ 29 = ap (λ (g : Fields). book_place g.generation) (sym fields) in
      let far : gate ≡ 29 + book_size f.d = at ∙ ap (λ (n : ℕ). n + book_size f.d) place in
      let front : field other 0 9 ≡ 1 ∷ magic_one =
      same_field 0 9 (omega (arith, far)) ∙ (bytes_eq-Decides (field bytes 0 9) (1 ∷ magic_one)).0 (both (nat_le 29 (length bytes)) (bytes_eq (field bytes 0 9) (1 ∷ magic_one)) begun).1 in
      let not_two : begins 61 (1 ∷ magic_two) other ≡ false =
      ap (λ (b : List ℕ). nat_le 61 (length other) && bytes_eq b (1 ∷ magic_two)) front ∙ and_false (nat_le 61 (length other)) in
      let two : Option Fields = if (fields_two other).generation == 0 then None else Some (fields_two other) in
      ap (λ (b : Bool). if b then two else (if begins 29 (1 ∷ magic_one) other then Some (fields_one other) else None)) not_two
      ∙ ap (λ (b : Bool). if b then Some (fields_one other) else None) (same_begin 29 (1 ∷ magic_one) (omega (arith, far)) (omega (arith, far)) begun)
      ∙ ap (λ (g : Fields). Some g) (same_one (omega (arith, far)))
      ∙ is

  same_fields_in : (f : Fields) (two one : Bool) → gate ≡ gate_place f.generation f.d → begins 61 (1 ∷ magic_two) bytes ≡ two → begins 29 (1 ∷ magic_one) bytes ≡ one → (if two then (if (fields_two bytes).generation == 0 then None else Some (fields_two bytes)) else if one then Some (fields_one bytes) else None) ≡ Some f → fields_in other ≡ Some f
  same_fields_in f true one at begun other_begun is = same_two_in f ((fields_two bytes).generation == 0) at begun refl is
  same_fields_in f false true at not_begun begun is = same_one_in f at begun is
  same_fields_in f false false at not_begun not_begun_either is = cc

  same_book : (f : Fields) → gate ≡ gate_place f.generation f.d → book_bytes f other ≡ book_bytes f bytes
  same_book f at = same_field (book_place f.generation) (book_size f.d) (omega (arith, at))

  still_whole : (f : Fields) → gate ≡ gate_place f.generation f.d → is_whole f bytes ≡ true → is_whole f other ≡ true
  still_whole f at whole =
      let first = both (are_sound f && nat_lt (gate_place f.generation f.d) (length bytes)) (is_none (fault f.d f.m (book_bytes f bytes))) whole in
      let sound = (both (are_sound f) (nat_lt (gate_place f.generation f.d) (length bytes)) first.0).0 in
      ap₂ ◌&&◌ (ap₂ ◌&&◌ sound (lt-ltb (gate_place f.generation f.d) (length other) (omega (arith, at, there))))
      (ap (λ (b : List ℕ). is_none (fault f.d f.m b)) (same_book f at) ∙ first.1)

  same_said : (f : Fields) (whole : Bool) (s : Said) → gate ≡ gate_place s.fields.generation s.fields.d → fields_in bytes ≡ Some f → is_whole f bytes ≡ whole → (if whole then Some (said f bytes) else None) ≡ Some s → preamble_of other ≡ Some s
  unfolding preamble_of
  same_said f false s at from whole is = cc
  same_said f true s at from whole is =
      let same : said f bytes ≡ s = ap (λ (o : Option Said). unwrap_or o s) is in
      let here : gate ≡ gate_place f.generation f.d = at ∙ ap (λ (t : Said). gate_place t.fields.generation t.fields.d) (sym same) in
      ap (with_fields other) (same_fields_in f (begins 61 (1 ∷ magic_two) bytes) (begins 29 (1 ∷ magic_one) bytes) here refl refl from)
      ∙ ap (λ (b : Bool). if b then Some (said f other) else None) (still_whole f here whole)
      ∙ ap (λ (b : List ℕ). Some (record { fields = f; book = codebook f.d f.m b })) (same_book f here)
      ∙ is

  of_fields : (o : Option Fields) (s : Said) → gate ≡ gate_place s.fields.generation s.fields.d → fields_in bytes ≡ o → with_fields bytes o ≡ Some s → preamble_of other ≡ Some s
  of_fields None s at from is = cc
  of_fields (Some f) s at from is = same_said f (is_whole f bytes) s at from refl is

  agreed : (s : Said) → gate ≡ gate_place s.fields.generation s.fields.d → preamble_of bytes ≡ Some s → preamble_of other ≡ Some s
  unfolding preamble_of
  agreed s at is = of_fields (fields_in bytes) s at refl is

pub said_before : (bytes : List ℕ) (s : Said) → preamble_of bytes ≡ Some s → IsSaidBefore bytes s
said_before bytes s is = λ other agree there. agreed bytes other (gate_place s.fields.generation s.fields.d) agree there s refl is

-- ---- the parts of a preamble

module _ (bytes : List ℕ) (f : Fields) where
  first_base : (two one empty : Bool) → ((fields_two bytes).generation == 0) ≡ empty → (if two then (if empty then None else Some (fields_two bytes)) else if one then Some (fields_one bytes) else None) ≡ Some f → f.generation ≡ 0 → f.base ≡ no_base
  unfolding fields_one fields_with
  first_base true one true later is none = cc
  first_base true one false later is none =
      let same : fields_two bytes ≡ f = ap (λ (o : Option Fields). unwrap_or o f) is in
      let zero : ((fields_two bytes).generation == 0) ≡ true = (Decides-eqb (fields_two bytes).generation 0).1 (ap (λ (g : Fields). g.generation) same ∙ none) in
      absurd (false_is_true (sym later ∙ zero))
    where
      false_is_true : false ≡ true → ⊥
      false_is_true p = cc
  first_base false true empty later is none = ap (λ (o : Option Fields). (unwrap_or o f).base) (sym is)
  first_base false false empty later is none = cc

  sound_said : fields_in bytes ≡ Some f → is_whole f bytes ≡ true → IsSoundIn bytes (said f bytes)
  sound_said from whole =
      let first = both (are_sound f && nat_lt (gate_place f.generation f.d) (length bytes)) (is_none (fault f.d f.m (book_bytes f bytes))) whole in
      let second = both (are_sound f) (nat_lt (gate_place f.generation f.d) (length bytes)) first.0 in
      record {
        base = (both (are_limits f && (f.zero == 0)) (is_base f.base) second.0).1;
        first_version = first_base (begins 61 (1 ∷ magic_two) bytes) (begins 29 (1 ∷ magic_one) bytes) ((fields_two bytes).generation == 0) refl from;
        sizes = (refl, refl);
        book = no_fault (fault f.d f.m (book_bytes f bytes)) first.1;
        gate = ltb-true (gate_place f.generation f.d) (length bytes) second.1;
      }

  sound_of : (whole : Bool) (s : Said) → fields_in bytes ≡ Some f → is_whole f bytes ≡ whole → (if whole then Some (said f bytes) else None) ≡ Some s → IsSoundIn bytes s
  sound_of false s from whole is = cc
  sound_of true s from whole is = subst (IsSoundIn bytes) (ap (λ (o : Option Said). unwrap_or o s) is) (sound_said from whole)

sound_with : (bytes : List ℕ) (o : Option Fields) (s : Said) → fields_in bytes ≡ o → with_fields bytes o ≡ Some s → IsSoundIn bytes s
sound_with bytes None s from is = cc
sound_with bytes (Some f) s from is = sound_of bytes f (is_whole f bytes) s from refl is

pub sound_in : (bytes : List ℕ) (s : Said) → preamble_of bytes ≡ Some s → IsSoundIn bytes s
unfolding preamble_of
sound_in bytes s is = sound_with bytes (fields_in bytes) s refl is

-- ---- the first bytes

front_of : (bytes : List ℕ) (n : ℕ) (o : Option Said) → preamble_of (take n bytes) ≡ o → (preamble_of (take n bytes) ≡ None) ⊎ (preamble_of (take n bytes) ≡ preamble_of bytes)
front_of bytes n None is = inl is
front_of bytes n (Some s) is =
    let gate : ℕ = gate_place s.fields.generation s.fields.d in
    let there : gate < length (take n bytes) = (sound_in (take n bytes) s is).gate in
    let long = length-take n bytes in
    inr (is ∙ sym (said_before (take n bytes) s is bytes (sym (take-take gate n bytes (omega (arith, there, long)))) (omega (arith, there, long))))

pub fronts : (bytes : List ℕ) → HasFronts bytes
fronts bytes n = front_of bytes n (preamble_of (take n bytes)) refl

-- ---- an open made byte is 1

not_open : (bytes magic : List ℕ) (size : ℕ) → get_or bytes 0 0 ≢ 1 → begins size (1 ∷ magic) bytes ≡ false
not_open bytes magic size closed =
    ap (λ (b : Bool). nat_le size (length bytes) && b) (differ (bytes_eq (field bytes 0 9) (1 ∷ magic)) refl) ∙ and_false (nat_le size (length bytes))
  where
    first : (l : List ℕ) → get_or (field l 0 9) 0 0 ≡ get_or l 0 0
    first [] = refl
    first (x ∷ xs) = refl

    differ : (b : Bool) → bytes_eq (field bytes 0 9) (1 ∷ magic) ≡ b → b ≡ false
    differ true is = absurd (closed (sym (first bytes) ∙ ap (λ (l : List ℕ). get_or l 0 0) ((bytes_eq-Decides (field bytes 0 9) (1 ∷ magic)).0 is)))
    differ false is = refl

-- a file whose made byte isn't open, or isn't there, has no preamble
pub shut : (bytes : List ℕ) → get_or bytes 0 0 ≢ 1 → preamble_of bytes ≡ None
unfolding preamble_of
shut bytes closed =
    let two : Option Fields = if (fields_two bytes).generation == 0 then None else Some (fields_two bytes) in
    ap₂ (λ (x y : Bool). with_fields bytes (if x then two else if y then Some (fields_one bytes) else None)) (not_open bytes magic_two 61 closed) (not_open bytes magic_one 29 closed)
