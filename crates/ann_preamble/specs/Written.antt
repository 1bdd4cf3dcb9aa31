-- The bytes of a preamble of version 2.
use Rattle.std.specs.Prelude.{◌≡◌, ℕ, List, [], ◌∷◌, ◌++◌, Some}
use Rattle.std.specs.List.{concat}
use Rattle.ann_types.specs.declared.params.Params.{Params}
use Rattle.ann_bytes.specs.LittleEndian.{bytes_of}
use Rattle.ann_pq.specs.Format.{codebook}
use Rattle.ann_preamble.specs.Preamble.{magic_two, fields_of, Said, preamble_of}
use Rattle.ann_preamble.specs.declared.base.Base.{Base}

-- the parameters and the 0 behind them
abbrev pub params_fields : Params → List (List ℕ)
params_fields p =
    bytes_of 2 p.d ∷ bytes_of 2 p.r ∷ bytes_of 2 p.l_build ∷ bytes_of 2 p.a ∷ bytes_of 2 p.b ∷ bytes_of 2 p.w ∷ bytes_of 2 p.m ∷ bytes_of 2 0 ∷ bytes_of 4 p.freeze_at ∷ []

abbrev pub base_fields : Base → List (List ℕ)
base_fields base = bytes_of 8 base.position ∷ bytes_of 8 base.segment ∷ bytes_of 8 base.next ∷ []

-- all parts of the preamble, in their order
abbrev pub parts : ℕ → Params → ℕ → Base → List ℕ → ℕ → List (List ℕ)
parts made params generation base book gate =
    (made ∷ []) ∷ magic_two ∷ (params_fields params ++ (bytes_of 8 generation ∷ (base_fields base ++ (book ∷ (gate ∷ []) ∷ []))))

unfoldable pub preamble_bytes : ℕ → Params → ℕ → Base → List ℕ → ℕ → List ℕ
preamble_bytes made params generation base book gate = concat (parts made params generation base book gate)

-- what a preamble says that was written with these
abbrev pub said_with : Params → ℕ → Base → List ℕ → Said
said_with params generation base book = record { fields = fields_of params base generation; book = codebook params.d params.m book }

-- once its made byte is open, it is read again, whatever its gate is and whatever follows
abbrev pub IsReadAgain : Params → ℕ → Base → List ℕ → Type 0
IsReadAgain params generation base book =
    (gate : ℕ) (rest : List ℕ) → preamble_of (preamble_bytes 1 params generation base book gate ++ rest) ≡ Some (said_with params generation base book)
