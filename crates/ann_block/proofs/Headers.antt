-- Header blocks, written and read.
use Rattle.std.proofs.Common.{◌≡◌, ℕ, ◌+◌, ◌^◌, ◌%◌, ◌≤◌, ◌<◌, Bool, true, false, List, [], ◌∷◌, ◌++◌, ◌==◌, ◌&&◌, nat_le, nat_lt, cond, Option, Some, None, MatchOption, length, take, drop, refl, sym, ap, ap₂, ◌∙◌, arith, length-append, length-drop}
use Rattle.std.specs.List.{concat}
use Rattle.std.proofs.lemmas.Bool.{leb-true, le-leb, ltb-true, lt-ltb}
use Rattle.std.proofs.lemmas.List.{append-nil}
use Rattle.std.proofs.lemmas.Slice.Eq.{bytes_eq-Decides}
use Rattle.ann_bytes.specs.LittleEndian.{number_of, bytes_of, field}
use Rattle.ann_bytes.proofs.Numbers.{length-bytes_of, number_of-bytes_of}
use Rattle.ann_block.specs.Block.{zeros, is_zeros}
use Rattle.ann_block.specs.Header.{IsHeader, magic, entry_field, entry_row, header_bytes, header_of, are_limits, may_enter, is_shape, fields_in, header_rules, judge_header}
use Rattle.ann_block.specs.declared.header.Header.{Header}
use Rattle.ann_types.proofs.Booleans.{both, same_true, not_same}
use Rattle.ann_bytes.proofs.Joined.{laid, concat-cut, field-concat}
use Rattle.ann_bytes.proofs.Numbered.{IsBytes, field_is}
use Rattle.ann_block.proofs.Cleared.{length-zeros, zeros_only, zeros_are, laid_is}
use Rattle.ann_block.proofs.Rules.{same, AreMet, all_met, none_broken}

-- ---- the fields of a header

-- all but the zeros at the end
abbrev pub fields_of : ℕ → ℕ → ℕ → ℕ → ℕ → ℕ → List (List ℕ)
fields_of number d r m count entry = magic ∷ bytes_of 8 number ∷ bytes_of 2 d ∷ bytes_of 2 r ∷ bytes_of 2 m ∷ bytes_of 2 0 ∷ bytes_of 4 count ∷ bytes_of 4 entry ∷ []

pub written : (h : Header) → laid 0 (fields_of h.number h.d h.r h.m h.count (entry_field h.start_row)) (zeros 4096) ≡ header_bytes h
unfolding header_bytes
written h = laid_is (fields_of h.number h.d h.r h.m h.count (entry_field h.start_row)) 4096 4064 refl

-- ---- a header of bytes

pub entry_again : (count entry : ℕ) → may_enter count entry ≡ true → entry_field (entry_row count entry) ≡ entry
entry_again count entry is =
    elim (count == 0) as (λ t. cond t (entry == 4294967295) (nat_lt entry count) ≡ true → entry_field (cond t None (Some entry)) ≡ entry) [
      | true ↦ λ last. sym (same entry 4294967295 last)
      | false ↦ λ row. refl
    ] is

pub entry_sound : (count entry : ℕ) → may_enter count entry ≡ true → MatchOption (entry_row count entry) (count ≡ 0) (λ row. row < count)
entry_sound count entry is =
    elim (count == 0) as (λ t. (count == 0) ≡ t → cond t (entry == 4294967295) (nat_lt entry count) ≡ true → MatchOption (cond t None (Some entry)) (count ≡ 0) (λ row. row < count)) [
      | true ↦ λ none last. same count 0 none
      | false ↦ λ some row. ltb-true entry count row
    ] refl is

pub limits_sound : (d r m : ℕ) → are_limits d r m ≡ true → (1 ≤ m) × (m ≤ 64) × (1 ≤ d) × (d ≤ 1024) × (d % m ≡ 0) × (2 ≤ r) × (r ≤ 128)
limits_sound d r m is =
    let i5 = both _ (nat_le r 128) is in
    let i4 = both _ (nat_le 2 r) i5.0 in
    let i3 = both _ (d % m == 0) i4.0 in
    let i2 = both _ (nat_le d 1024) i3.0 in
    let i1 = both _ (nat_le 1 d) i2.0 in
    let i0 = both (nat_le 1 m) (nat_le m 64) i1.0 in
    (leb-true 1 m i0.0, leb-true m 64 i0.1, leb-true 1 d i1.1, leb-true d 1024 i2.1, same (d % m) 0 i3.1, leb-true 2 r i4.1, leb-true r 128 i5.1)

module _ (block : List ℕ) (small : IsBytes block) (fine : judge_header block ≡ None) where
  rules_met : AreMet (header_rules block)
  unfolding judge_header
  rules_met = all_met (header_rules block) fine

  long : length block ≡ 4096
  long = same (length block) 4096 rules_met.0

  begins : field block 0 8 ≡ magic
  begins = (bytes_eq-Decides (field block 0 8) magic).0 rules_met.1.0

  ends : drop 32 block ≡ zeros 4064
  ends = zeros_only (drop 32 block) rules_met.1.1.1.0 ∙ ap zeros (omega (arith, length-drop 32 block, long))

  sizes : (are_limits (number_of (field block 16 2)) (number_of (field block 18 2)) (number_of (field block 20 2)) && (number_of (field block 22 2) == 0)) ≡ true
  unfolding fields_in
  sizes = (both _ (may_enter (number_of (field block 24 4)) (number_of (field block 28 4))) rules_met.1.1.0).0

  entry : may_enter (number_of (field block 24 4)) (number_of (field block 28 4)) ≡ true
  unfolding fields_in
  entry = (both _ (may_enter (number_of (field block 24 4)) (number_of (field block 28 4))) rules_met.1.1.0).1

  limits : are_limits (number_of (field block 16 2)) (number_of (field block 18 2)) (number_of (field block 20 2)) ≡ true
  limits = (both _ (number_of (field block 22 2) == 0) sizes).0

  zero_field : number_of (field block 22 2) ≡ 0
  zero_field = same _ 0 (both (are_limits (number_of (field block 16 2)) (number_of (field block 18 2)) (number_of (field block 20 2))) (number_of (field block 22 2) == 0) sizes).1

  -- what isn't refused is a header block
  pub header_grammar : block ≡ header_bytes (header_of block)
  unfolding header_bytes header_of fields_in
  header_grammar =
      let is : (at n : ℕ) → at + n ≤ 4096 → field block at n ≡ bytes_of n (number_of (field block at n)) = λ at n within. field_is block at n small (omega (arith, within, long)) in
      let last = is 28 4 (omega arith) ∙ ap (bytes_of 4) (sym (entry_again (number_of (field block 24 4)) (number_of (field block 28 4)) entry)) in
      sym (concat-cut 0 (8 ∷ 8 ∷ 2 ∷ 2 ∷ 2 ∷ 2 ∷ 4 ∷ 4 ∷ []) block)
      ∙ ap concat (
      ap₂ ◌∷◌ begins (ap₂ ◌∷◌ (is 8 8 (omega arith)) (ap₂ ◌∷◌ (is 16 2 (omega arith)) (ap₂ ◌∷◌ (is 18 2 (omega arith)) (ap₂ ◌∷◌ (is 20 2 (omega arith)) (
      ap₂ ◌∷◌ (is 22 2 (omega arith) ∙ ap (bytes_of 2) zero_field) (ap₂ ◌∷◌ (is 24 4 (omega arith)) (ap₂ ◌∷◌ last (ap (λ (end : List ℕ). end ∷ []) ends)))))))))

  pub header_sound : IsHeader (header_of block)
  unfolding header_of fields_in
  header_sound =
      let within = limits_sound _ _ _ limits in
      record {
        code_bytes = (within.0, within.1);
        components = (within.2, within.3);
        parts = within.4;
        neighbours = (within.5, within.6);
        entry = entry_sound _ _ entry;
      }

-- ---- a header is read again

pub limits_again : (h : Header) → IsHeader h → are_limits h.d h.r h.m ≡ true
limits_again h is =
    let rule : (x y : Bool) → x ≡ true → y ≡ true → (x && y) ≡ true = λ x y p q. ap₂ ◌&&◌ p q in
    rule _ _ (rule _ _ (rule _ _ (rule _ _ (rule _ _ (rule _ _
    (le-leb 1 h.m is.code_bytes.0) (le-leb h.m 64 is.code_bytes.1)) (le-leb 1 h.d is.components.0)) (le-leb h.d 1024 is.components.1))
    (same_true (h.d % h.m) 0 is.parts)) (le-leb 2 h.r is.neighbours.0)) (le-leb h.r 128 is.neighbours.1)

pub entry_written : (count : ℕ) (start_row : Option ℕ) → MatchOption start_row (count ≡ 0) (λ row. row < count) → may_enter count (entry_field start_row) ≡ true
entry_written count None none = ap (λ (b : Bool). cond b (4294967295 == 4294967295) (nat_lt 4294967295 count)) (same_true count 0 none)
entry_written count (Some row) below =
    ap (λ (b : Bool). cond b (row == 4294967295) (nat_lt row count)) (not_same count 0 (λ (none : count ≡ 0). absurd (omega (arith, below, none)))) ∙ lt-ltb row count below

pub entry_read : (count : ℕ) (start_row : Option ℕ) → MatchOption start_row (count ≡ 0) (λ row. row < count) → entry_row count (entry_field start_row) ≡ start_row
entry_read count None none = ap (λ (b : Bool). cond b None (Some 4294967295)) (same_true count 0 none)
entry_read count (Some row) below = ap (λ (b : Bool). cond b None (Some row)) (not_same count 0 (λ (none : count ≡ 0). absurd (omega (arith, below, none))))

-- a block with these numbers in its fields has this shape, and is this header
pub shape_again : (block : List ℕ) (h : Header) → number_of (field block 16 2) ≡ h.d → number_of (field block 18 2) ≡ h.r → number_of (field block 20 2) ≡ h.m → number_of (field block 22 2) ≡ 0 → number_of (field block 24 4) ≡ h.count → number_of (field block 28 4) ≡ entry_field h.start_row → are_limits h.d h.r h.m ≡ true → may_enter h.count (entry_field h.start_row) ≡ true → is_shape (fields_in block) ≡ true
unfolding fields_in
shape_again block h d r m zero_field count entry limits enters =
    let sizes = ap₂ (λ (x y : ℕ). are_limits x y (number_of (field block 20 2))) d r ∙ ap (are_limits h.d h.r) m ∙ limits in
    ap₂ ◌&&◌ (ap₂ ◌&&◌ sizes (same_true _ 0 zero_field)) (ap₂ may_enter count entry ∙ enters)

pub header_is : (block : List ℕ) (h : Header) → number_of (field block 8 8) ≡ h.number → number_of (field block 16 2) ≡ h.d → number_of (field block 18 2) ≡ h.r → number_of (field block 20 2) ≡ h.m → number_of (field block 24 4) ≡ h.count → entry_row (number_of (field block 24 4)) (number_of (field block 28 4)) ≡ h.start_row → header_of block ≡ h
unfolding header_of fields_in
header_is block h number d r m count start_row =
    λ i. record { number = number i; d = d i; r = r i; m = m i; count = count i; start_row = start_row i }

module _ (h : Header) (is : IsHeader h) (number_fits : h.number < 2 ^ 64) (count_fits : h.count < 2 ^ 32) (entry_fits : entry_field h.start_row < 2 ^ 32) where
  abbrev fields : List (List ℕ)
  fields = fields_of h.number h.d h.r h.m h.count (entry_field h.start_row) ++ zeros 4064 ∷ []

  read_number : (i k n at : ℕ) (others : List (List ℕ)) → n < 256 ^ k → drop i fields ≡ bytes_of k n ∷ others → length (concat (take i fields)) ≡ at → number_of (field (concat fields) at k) ≡ n
  read_number i k n at others below is place = ap number_of (field-concat fields i (bytes_of k n) others at k is place (length-bytes_of k n)) ∙ number_of-bytes_of k n below

  number : number_of (field (concat fields) 8 8) ≡ h.number
  number = read_number 1 8 h.number 8 _ (omega (arith, number_fits)) refl refl

  d : number_of (field (concat fields) 16 2) ≡ h.d
  d = read_number 2 2 h.d 16 _ (omega (arith, is.components.1)) refl refl

  r : number_of (field (concat fields) 18 2) ≡ h.r
  r = read_number 3 2 h.r 18 _ (omega (arith, is.neighbours.1)) refl refl

  m : number_of (field (concat fields) 20 2) ≡ h.m
  m = read_number 4 2 h.m 20 _ (omega (arith, is.code_bytes.1)) refl refl

  count : number_of (field (concat fields) 24 4) ≡ h.count
  count = read_number 6 4 h.count 24 _ (omega (arith, count_fits)) refl refl

  entry_is : number_of (field (concat fields) 28 4) ≡ entry_field h.start_row
  entry_is = read_number 7 4 (entry_field h.start_row) 28 _ (omega (arith, entry_fits)) refl refl

  -- what is written isn't refused
  pub header_accepted : judge_header (header_bytes h) ≡ None
  unfolding judge_header header_bytes
  header_accepted =
      let long : length (concat fields) ≡ 4096 = omega (arith, length-append (zeros 4064) [], length-zeros 4064) in
      let shape = shape_again (concat fields) h d r m refl count entry_is (limits_again h is) (entry_written h.count h.start_row is.entry) in
      let rest : drop 32 (concat fields) ≡ zeros 4064 = append-nil (zeros 4064) in
      none_broken (header_rules (concat fields)) (same_true _ 4096 long, (refl, (shape, (ap is_zeros rest ∙ zeros_are 4064, tt))))

  pub header_read_back : header_of (header_bytes h) ≡ h
  unfolding header_bytes
  header_read_back = header_is (concat fields) h number d r m count (ap₂ entry_row count entry_is ∙ entry_read h.count h.start_row is.entry)
