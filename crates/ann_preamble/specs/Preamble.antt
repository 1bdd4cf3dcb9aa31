-- The preamble with which a log file begins.
--
-- It is the made byte, which is 1 where the file is made, the magic (8 bytes), the parameters and a 0 (2 bytes each, the
-- last parameter 4), in version 2 the generation and the base's position, segment and next Pid (8 bytes each), the
-- codebook, and the first gate (1 byte).
use Rattle.std.specs.Prelude.{ℕ, ◌+◌, ◌*◌, ◌%◌, Bool, ◌==◌, ◌&&◌, nat_le, nat_lt, List, ◌∷◌, length, Option, Some, None, if◌then◌else◌, codes}
use Rattle.std.specs.Option.{is_none}
use Rattle.std.specs.Str.{bytes_eq}
use Rattle.ann_types.specs.declared.params.Params.{Params}
use Rattle.ann_bytes.specs.LittleEndian.{number_of, field}
use Rattle.ann_pq.specs.Codebook.{CodebookView}
use Rattle.ann_pq.specs.Format.{fault, codebook}
use Rattle.ann_preamble.specs.Base.{is_base}
use Rattle.ann_preamble.specs.declared.base.Base.{Base}
use Rattle.ann_preamble.specs.declared.fields.Fields.{Fields}
use Rattle.ann_preamble.specs.declared.preamble.Preamble.{Preamble}

-- ---- the fields before the codebook

-- the magic of a file of version 2, and of one of version 1
abbrev pub magic_two : List ℕ
magic_two = codes "ANNLOG02"

abbrev pub magic_one : List ℕ
magic_one = codes "ANNLOG01"

-- the fields as they stand; a file of version 1 has no generation and no base, and these are 0
unfoldable pub fields_with : List ℕ → ℕ → Base → Fields
fields_with bytes generation base = record {
  d = number_of (field bytes 9 2);
  r = number_of (field bytes 11 2);
  l_build = number_of (field bytes 13 2);
  a = number_of (field bytes 15 2);
  b = number_of (field bytes 17 2);
  w = number_of (field bytes 19 2);
  m = number_of (field bytes 21 2);
  zero = number_of (field bytes 23 2);
  freeze_at = number_of (field bytes 25 4);
  generation = generation;
  base = base;
}

abbrev pub no_base : Base
no_base = record { position = 0; next = 0; segment = 0 }

unfoldable pub base_in : List ℕ → Base
base_in bytes = record { position = number_of (field bytes 37 8); next = number_of (field bytes 53 8); segment = number_of (field bytes 45 8) }

unfoldable pub fields_one : List ℕ → Fields
fields_one bytes = fields_with bytes 0 no_base

unfoldable pub fields_two : List ℕ → Fields
fields_two bytes = fields_with bytes (number_of (field bytes 29 8)) (base_in bytes)

-- ---- places

-- where the codebook stands, by the generation: it is 0 in version 1 alone
abbrev pub book_place : ℕ → ℕ
book_place generation = if generation == 0 then 29 else 61

-- bytes of a codebook
abbrev pub book_size : ℕ → ℕ
book_size d = 12 + 256 * d

-- where the first gate stands
abbrev pub gate_place : ℕ → ℕ → ℕ
gate_place generation d = book_place generation + book_size d

-- ---- the rules

abbrev pub are_limits : Fields → Bool
are_limits f =
    nat_le 1 f.m && nat_le f.m 64 && nat_le 1 f.d && nat_le f.d 1024 && (f.d % f.m == 0)
    && nat_le 2 f.r && nat_le f.r 128 && nat_le 1 f.l_build && nat_le f.l_build 1000
    && nat_le 1 f.b && nat_le f.b f.a && nat_le f.a 100
    && nat_le 1 f.w && nat_le f.w 16 && nat_le 1 f.freeze_at && nat_le f.freeze_at 100000

-- the fields are those of a log
abbrev pub are_sound : Fields → Bool
are_sound f = are_limits f && (f.zero == 0) && is_base f.base

-- bytes begin with these 9, the made byte and the magic, and are so many at least
abbrev pub begins : ℕ → List ℕ → List ℕ → Bool
begins size front bytes = nat_le size (length bytes) && bytes_eq (field bytes 0 9) front

-- the fields of the version of the file, where it has one
abbrev pub fields_in : List ℕ → Option Fields
fields_in bytes =
    if begins 61 (1 ∷ magic_two) bytes then (if (fields_two bytes).generation == 0 then None else Some (fields_two bytes))
    else if begins 29 (1 ∷ magic_one) bytes then Some (fields_one bytes)
    else None

-- ---- the preamble of bytes

-- what a preamble says
pub record Said : Type 0 where
  pub fields : Fields
  pub book : CodebookView

abbrev pub book_bytes : Fields → List ℕ → List ℕ
book_bytes f bytes = field bytes (book_place f.generation) (book_size f.d)

-- the fields are sound, the first gate is there, and the codebook is one
abbrev pub is_whole : Fields → List ℕ → Bool
is_whole f bytes = are_sound f && nat_lt (gate_place f.generation f.d) (length bytes) && is_none (fault f.d f.m (book_bytes f bytes))

abbrev pub said : Fields → List ℕ → Said
said f bytes = record { fields = f; book = codebook f.d f.m (book_bytes f bytes) }

abbrev pub with_fields : List ℕ → Option Fields → Option Said
with_fields bytes None = None
with_fields bytes (Some f) = if is_whole f bytes then Some (said f bytes) else None

-- what the preamble says with which the bytes begin; none where they begin with none
unfoldable pub preamble_of : List ℕ → Option Said
preamble_of bytes = with_fields bytes (fields_in bytes)

-- ---- the preambles of the code

abbrev pub fields_of : Params → Base → ℕ → Fields
fields_of p base generation = record {
  d = p.d;
  r = p.r;
  l_build = p.l_build;
  a = p.a;
  b = p.b;
  w = p.w;
  m = p.m;
  zero = 0;
  freeze_at = p.freeze_at;
  generation = generation;
  base = base;
}

abbrev pub said_by : Preamble → Said
said_by p = record { fields = fields_of p.params p.base p.generation; book = p.book }

abbrev pub said_by_found : Option Preamble → Option Said
said_by_found None = None
said_by_found (Some p) = Some (said_by p)
