-- The bytes of names.
use Rattle.std.proofs.Common.{◌≡◌, ◌<◌, ℕ, List, [], ◌∷◌, length, get_or, arith, true, zero, suc}
use Rattle.std.proofs.lemmas.Grind.{common_steps}
use Rattle.std.specs.List.{list_all}
use Rattle.ann_script.specs.Grammar.{is_name_byte}
use Rattle.ann_types.proofs.Booleans.{both}

-- they are ASCII
name_byte_ascii : (byte : ℕ) → is_name_byte byte ≡ true → byte < 128
name_byte_ascii byte is = grind (arith, common_steps)

pub name_byte_at : (word : List ℕ) (i : ℕ) → list_all is_name_byte word ≡ true → i < length word → get_or word i 0 < 128
name_byte_at [] i all inside = absurd (omega arith)
name_byte_at (b ∷ bs) zero all inside = name_byte_ascii b (both (is_name_byte b) (list_all is_name_byte bs) all).0
name_byte_at (b ∷ bs) (suc i) all inside = name_byte_at bs i (both (is_name_byte b) (list_all is_name_byte bs) all).1 (omega arith)
