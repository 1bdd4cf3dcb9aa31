-- The kept segments: bytes by number.
use Rattle.std.specs.Prelude.{ℕ, Bool, List, [], ◌∷◌, ◌==◌, not, map, filter, Option, Some, None, if◌then◌else◌}
use Rattle.std.specs.List.{list_any}
use Rattle.std.specs.FinMap.{empty, insert}
use Rattle.ann_vault.specs.Held.{Holding}
use Rattle.ann_core.specs.declared.kept.Kept.{Kept}

-- the bytes of a segment, under its number
pub record Text : Type 0 where
  pub number : ℕ
  pub bytes : List ℕ

abbrev pub text_of : Kept → Text
text_of kept = record { number = kept.number; bytes = kept.bytes.items }

abbrev pub texts_of : List Kept → List Text
texts_of kept = map text_of kept

-- the bytes of a number, if it is kept
abbrev pub text_in : List Text → ℕ → Option (List ℕ)
text_in [] number = None
text_in (t ∷ ts) number = if t.number == number then Some t.bytes else text_in ts number

abbrev pub is_kept_in : List Text → ℕ → Bool
is_kept_in texts number = list_any (λ t. t.number == number) texts

abbrev pub without_text : List Text → ℕ → List Text
without_text texts number = filter (λ t. not (t.number == number)) texts

-- what a vault holds that has these bytes alone under a number
abbrev pub held_under : ℕ → Option (List ℕ) → Holding
held_under number None = empty
held_under number (Some bytes) = insert empty number bytes

abbrev pub held_for : List Text → Option ℕ → Holding
held_for texts None = empty
held_for texts (Some number) = held_under number (text_in texts number)
