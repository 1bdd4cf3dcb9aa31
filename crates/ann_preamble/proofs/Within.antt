-- A preamble stands within the first 262218 bytes: vectors have at most 1024 components.
use Rattle.std.proofs.Common.{◌≡◌, ⊎_elim, ℕ, ◌<◌, ◌≤◌, Bool, true, false, ◌==◌, ◌&&◌, nat_lt, if◌then◌else◌, List, Option, Some, None, length, take, refl, sym, ap, subst, ◌∙◌, arith, length-take}
use Rattle.std.specs.Option.{is_none, is_some, unwrap_or}
use Rattle.std.proofs.lemmas.Bool.{leb-true}
use Rattle.std.proofs.lemmas.List.{take-take}
use Rattle.ann_pq.specs.Format.{fault}
use Rattle.ann_preamble.specs.Preamble.{Said, are_limits, are_sound, is_whole, said, book_bytes, gate_place, with_fields, fields_in, preamble_of, said_by_found}
use Rattle.ann_preamble.specs.declared.preamble.Preamble.{Preamble}
use Rattle.ann_preamble.specs.Base.{is_base}
use Rattle.ann_preamble.specs.declared.fields.Fields.{Fields}
use Rattle.ann_types.proofs.Booleans.{both}
use Rattle.ann_preamble.proofs.Agreed.{fronts, sound_in, said_before}

few_components : (f : Fields) → are_limits f ≡ true → f.d ≤ 1024
few_components f is =
    let l1 = both _ _ is in
    let l2 = both _ _ l1.0 in
    let l3 = both _ _ l2.0 in
    let l4 = both _ _ l3.0 in
    let l5 = both _ _ l4.0 in
    let l6 = both _ _ l5.0 in
    let l7 = both _ _ l6.0 in
    let l8 = both _ _ l7.0 in
    let l9 = both _ _ l8.0 in
    let l10 = both _ _ l9.0 in
    let l11 = both _ _ l10.0 in
    let l12 = both _ _ l11.0 in
    let l13 = both _ _ l12.0 in
    leb-true f.d 1024 l13.1

module _ (bytes : List ℕ) where
  few_of : (f : Fields) (whole : Bool) (s : Said) → is_whole f bytes ≡ whole → (if whole then Some (said f bytes) else None) ≡ Some s → s.fields.d ≤ 1024
  few_of f false s whole is = absurd (cc)
  few_of f true s whole is =
      let first = both (are_sound f && nat_lt (gate_place f.generation f.d) (length bytes)) (is_none (fault f.d f.m (book_bytes f bytes))) whole in
      let second = both (are_sound f) (nat_lt (gate_place f.generation f.d) (length bytes)) first.0 in
      let third = both (are_limits f && (f.zero == 0)) (is_base f.base) second.0 in
      let fourth = both (are_limits f) (f.zero == 0) third.0 in
      subst (λ (t : Said). t.fields.d ≤ 1024) (ap (λ (o : Option Said). unwrap_or o s) is) (few_components f fourth.0)

  few_with : (o : Option Fields) (s : Said) → with_fields bytes o ≡ Some s → s.fields.d ≤ 1024
  few_with None s is = absurd (cc)
  few_with (Some f) s is = few_of f (is_whole f bytes) s refl is

  few : (s : Said) → preamble_of bytes ≡ Some s → s.fields.d ≤ 1024
  unfolding preamble_of
  few s is = few_with (fields_in bytes) s is

  place_most : (b : Bool) → (if b then 29 else 61) ≤ 61
  place_most true = omega arith
  place_most false = omega arith

  within_with : (o : Option Said) → preamble_of bytes ≡ o → preamble_of (take 262218 bytes) ≡ preamble_of bytes
  within_with None is = ⊎_elim (λ none. none ∙ sym is) (λ same. same) (fronts bytes 262218)
  within_with (Some s) is =
      let gate : ℕ = gate_place s.fields.generation s.fields.d in
      let there = (sound_in bytes s is).gate in
      let most = place_most (s.fields.generation == 0) in
      let components = few s is in
      let inside : gate < 262218 = omega (arith, most, components) in
      said_before bytes s is (take 262218 bytes) (take-take gate 262218 bytes (omega (arith, inside))) (omega (arith, length-take 262218 bytes, inside, there))
      ∙ sym is

  -- so many bytes tell it
  pub within : preamble_of (take 262218 bytes) ≡ preamble_of bytes
  within = within_with (preamble_of bytes) refl

-- whether there is one
found_or_not : (found : Option Preamble) → is_some found ≡ is_some (said_by_found found)
found_or_not None = refl
found_or_not (Some p) = refl

pub is_found : (bytes front : List ℕ) (found : Option Preamble) → front ≡ take 262218 bytes → said_by_found found ≡ preamble_of front → is_some found ≡ is_some (preamble_of bytes)
is_found bytes front found begins says = found_or_not found ∙ ap is_some (says ∙ ap preamble_of begins ∙ within bytes)
