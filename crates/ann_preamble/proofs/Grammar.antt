-- What is read of version 2 is in the grammar of what is written.
use Rattle.std.proofs.Common.{◌≡◌, ◌≢◌, ℕ, ◌+◌, ◌≤◌, ◌<◌, Bool, true, false, ◌==◌, nat_le, List, [], ◌∷◌, ◌++◌, Option, Some, None, length, take, drop, get_or, refl, sym, ap, ap₂, ◌∙◌, arith, subst, if◌then◌else◌}
use Rattle.std.specs.List.{concat}
use Rattle.std.specs.Option.{unwrap_or}
use Rattle.std.specs.Str.{bytes_eq}
use Rattle.std.proofs.lemmas.List.{append-nil, drop-take, take-take}
use Rattle.std.proofs.lemmas.List.Folds.{concat-append}
use Rattle.std.proofs.lemmas.Slice.Eq.{bytes_eq-Decides}
use Rattle.ann_types.specs.declared.params.Params.{Params}
use Rattle.ann_bytes.specs.LittleEndian.{number_of, bytes_of, field}
use Rattle.ann_preamble.specs.Preamble.{magic_two, magic_one, fields_with, fields_one, fields_two, base_in, book_place, book_size, begins, fields_in, book_bytes, is_whole, said, with_fields, Said, preamble_of, fields_of, said_by}
use Rattle.ann_preamble.specs.Written.{parts, preamble_bytes}
use Rattle.ann_preamble.specs.Reading.{IsWrittenIn}
use Rattle.ann_preamble.specs.declared.base.Base.{Base}
use Rattle.ann_preamble.specs.declared.fields.Fields.{Fields}
use Rattle.ann_preamble.specs.declared.preamble.Preamble.{Preamble}
use Rattle.ann_types.proofs.Booleans.{both, not_same}
use Rattle.ann_preamble.proofs.Agreed.{sound_in}
use Rattle.ann_bytes.proofs.Joined.{cut, concat-cut}
use Rattle.ann_bytes.proofs.Numbered.{IsBytes, field_is, one_byte}

-- ---- bytes with these fields

module _ (bytes : List ℕ) (small : IsBytes bytes) (p : Params) (generation : ℕ) (base : Base) (book : List ℕ) (same : fields_two bytes ≡ fields_of p base generation) (front : field bytes 0 9 ≡ 1 ∷ magic_two) (is_book : field bytes 61 (book_size p.d) ≡ book) (there : 61 + book_size p.d < length bytes) where
  abbrev gate : ℕ
  gate = 61 + book_size p.d

  abbrev sizes : List ℕ
  sizes = 1 ∷ 8 ∷ 2 ∷ 2 ∷ 2 ∷ 2 ∷ 2 ∷ 2 ∷ 2 ∷ 2 ∷ 4 ∷ 8 ∷ 8 ∷ 8 ∷ 8 ∷ book_size p.d ∷ 1 ∷ []

  fields_cut : cut 0 sizes bytes ≡ parts 1 p generation base book (get_or bytes gate 0) ++ drop (gate + 1) bytes ∷ []
  unfolding fields_two fields_with base_in
  fields_cut =
      let is : (at n : ℕ) → at + n ≤ 61 → field bytes at n ≡ bytes_of n (number_of (field bytes at n)) = λ at n within. field_is bytes at n small (omega (arith, within, there)) in
      let made : field bytes 0 1 ≡ 1 ∷ [] = sym (take-take 1 9 bytes (omega arith)) ∙ ap (take 1) front in
      let magic : field bytes 1 8 ≡ magic_two = sym (drop-take 1 8 bytes) ∙ ap (drop 1) front in
      ap₂ ◌∷◌ made (ap₂ ◌∷◌ magic (
      ap₂ ◌∷◌ (is 9 2 (omega arith) ∙ ap (λ (f : Fields). bytes_of 2 f.d) same) (
      ap₂ ◌∷◌ (is 11 2 (omega arith) ∙ ap (λ (f : Fields). bytes_of 2 f.r) same) (
      ap₂ ◌∷◌ (is 13 2 (omega arith) ∙ ap (λ (f : Fields). bytes_of 2 f.l_build) same) (
      ap₂ ◌∷◌ (is 15 2 (omega arith) ∙ ap (λ (f : Fields). bytes_of 2 f.a) same) (
      ap₂ ◌∷◌ (is 17 2 (omega arith) ∙ ap (λ (f : Fields). bytes_of 2 f.b) same) (
      ap₂ ◌∷◌ (is 19 2 (omega arith) ∙ ap (λ (f : Fields). bytes_of 2 f.w) same) (
      ap₂ ◌∷◌ (is 21 2 (omega arith) ∙ ap (λ (f : Fields). bytes_of 2 f.m) same) (
      ap₂ ◌∷◌ (is 23 2 (omega arith) ∙ ap (λ (f : Fields). bytes_of 2 f.zero) same) (
      ap₂ ◌∷◌ (is 25 4 (omega arith) ∙ ap (λ (f : Fields). bytes_of 4 f.freeze_at) same) (
      ap₂ ◌∷◌ (is 29 8 (omega arith) ∙ ap (λ (f : Fields). bytes_of 8 f.generation) same) (
      ap₂ ◌∷◌ (is 37 8 (omega arith) ∙ ap (λ (f : Fields). bytes_of 8 f.base.position) same) (
      ap₂ ◌∷◌ (is 45 8 (omega arith) ∙ ap (λ (f : Fields). bytes_of 8 f.base.segment) same) (
      ap₂ ◌∷◌ (is 53 8 (omega arith) ∙ ap (λ (f : Fields). bytes_of 8 f.base.next) same) (
      ap₂ ◌∷◌ is_book (
      ap (λ (byte : List ℕ). byte ∷ drop (gate + 1) bytes ∷ []) (one_byte bytes gate there)))))))))))))))))

  as_written : bytes ≡ preamble_bytes 1 p generation base book (get_or bytes gate 0) ++ drop (gate + 1) bytes
  unfolding preamble_bytes
  as_written =
      let rest : List ℕ = drop (gate + 1) bytes in
      let all : List (List ℕ) = parts 1 p generation base book (get_or bytes gate 0) in
      sym (concat-cut 0 sizes bytes)
      ∙ ap concat fields_cut
      ∙ concat-append all (rest ∷ [])
      ∙ ap (λ (end : List ℕ). concat all ++ end) (append-nil rest)

-- ---- what is known of version 2

module _ (bytes : List ℕ) where
  version_two : (f : Fields) (two one empty : Bool) → begins 61 (1 ∷ magic_two) bytes ≡ two → (if two then (if empty then None else Some (fields_two bytes)) else if one then Some (fields_one bytes) else None) ≡ Some f → f.generation ≢ 0 → (begins 61 (1 ∷ magic_two) bytes ≡ true) × (fields_two bytes ≡ f)
  unfolding fields_one fields_with
  version_two f true one true begun is later = cc
  version_two f true one false begun is later = (begun, ap (λ (o : Option Fields). unwrap_or o f) is)
  version_two f false true empty begun is later = absurd (later (ap (λ (o : Option Fields). (unwrap_or o f).generation) (sym is)))
  version_two f false false empty begun is later = cc

  abbrev IsTwo : Said → Type 0
  IsTwo s = s.fields.generation ≢ 0 → (begins 61 (1 ∷ magic_two) bytes ≡ true) × (fields_two bytes ≡ s.fields) × (book_bytes s.fields bytes ≡ s.book.bytes)

  two_of : (f : Fields) (whole : Bool) (s : Said) → fields_in bytes ≡ Some f → (if whole then Some (said f bytes) else None) ≡ Some s → IsTwo s
  two_of f false s from is = cc
  two_of f true s from is =
      subst IsTwo (ap (λ (o : Option Said). unwrap_or o s) is)
      (λ later.
      let two = version_two f (begins 61 (1 ∷ magic_two) bytes) (begins 29 (1 ∷ magic_one) bytes) ((fields_two bytes).generation == 0) refl from later in
      (two.0, two.1, refl))

  two_with : (o : Option Fields) (s : Said) → fields_in bytes ≡ o → with_fields bytes o ≡ Some s → IsTwo s
  two_with None s from is = cc
  two_with (Some f) s from is = two_of f (is_whole f bytes) s from is

  is_two : (s : Said) → preamble_of bytes ≡ Some s → IsTwo s
  unfolding preamble_of
  is_two s is = two_with (fields_in bytes) s refl is

pub grammar : (bytes : List ℕ) → IsBytes bytes → (p : Preamble) → preamble_of bytes ≡ Some (said_by p) → 1 ≤ p.generation → IsWrittenIn bytes p
grammar bytes small p is some =
    let later : p.generation ≢ 0 = λ none. absurd (omega (arith, none, some)) in
    let two = is_two bytes (said_by p) is later in
    let place : 61 ≡ book_place p.generation = ap (λ (b : Bool). if b then 29 else 61) (sym (not_same p.generation 0 later)) in
    let front : field bytes 0 9 ≡ 1 ∷ magic_two = (bytes_eq-Decides (field bytes 0 9) (1 ∷ magic_two)).0 (both (nat_le 61 (length bytes)) (bytes_eq (field bytes 0 9) (1 ∷ magic_two)) two.0).1 in
    let there = (sound_in bytes (said_by p) is).gate in
    let book : field bytes 61 (book_size p.params.d) ≡ p.book.bytes = ap (λ (at : ℕ). field bytes at (book_size p.params.d)) place ∙ two.2 in
    as_written bytes small p.params p.generation p.base p.book.bytes two.1 front book (omega (arith, there, place))
    ∙ ap (λ (at : ℕ). preamble_bytes 1 p.params p.generation p.base p.book.bytes (get_or bytes (at + book_size p.params.d) 0) ++ drop (at + book_size p.params.d + 1) bytes) place
