-- The fields of a list of bytes.
use Rattle.std.proofs.Common.{◌≡◌, ℕ, ◌+◌, ◌-◌, ◌<◌, ◌≤◌, List, ◌++◌, length, get_or, take, drop, refl, ◌∙◌, ap, arith, append_assoc, length-append, length-take, length-drop}
use Rattle.std.proofs.lemmas.List.{get_or_append_left, get_or-append_right, get_or-take, get_or-drop, take_at, drop_at}
use Rattle.ann_bytes.specs.LittleEndian.{field, with_field}

-- what stands between a front and a rest
pub field_between : (front new rest : List ℕ) (at : ℕ) → length front ≡ at → field (front ++ new ++ rest) at (length new) ≡ new
field_between front new rest at is =
    ap (λ (bytes : List ℕ). take (length new) (drop at bytes)) (append_assoc front new rest)
    ∙ ap (take (length new)) (drop_at front (new ++ rest) at is)
    ∙ take_at new rest (length new) refl

module _ (bytes : List ℕ) (at : ℕ) (new : List ℕ) (fits : at + length new ≤ length bytes) where
  front_length : length (take at bytes) ≡ at
  front_length = omega (arith, length-take at bytes, fits)

  pub length-with_field : length (with_field bytes at new) ≡ length bytes
  length-with_field =
      omega (arith, length-append (take at bytes ++ new) (drop (at + length new) bytes), length-append (take at bytes) new, front_length, length-drop (at + length new) bytes, fits)

  pub field-with_field : field (with_field bytes at new) at (length new) ≡ new
  field-with_field = field_between (take at bytes) new (drop (at + length new) bytes) at front_length

  pub with_field_below : (i default : ℕ) → i < at → get_or (with_field bytes at new) i default ≡ get_or bytes i default
  with_field_below i default below =
      get_or_append_left (take at bytes ++ new) (drop (at + length new) bytes) default i (omega (arith, length-append (take at bytes) new, front_length, below))
      ∙ get_or_append_left (take at bytes) new default i (omega (arith, front_length, below))
      ∙ get_or-take at bytes i default below

  pub with_field_above : (i default : ℕ) → at + length new ≤ i → get_or (with_field bytes at new) i default ≡ get_or bytes i default
  with_field_above i default above =
      let front : length (take at bytes ++ new) ≡ at + length new = omega (arith, length-append (take at bytes) new, front_length) in
      get_or-append_right (take at bytes ++ new) (drop (at + length new) bytes) (at + length new) i default front above
      ∙ get_or-drop (at + length new) bytes (i - (at + length new)) default
      ∙ ap (λ (k : ℕ). get_or bytes k default) (omega (arith, above))
