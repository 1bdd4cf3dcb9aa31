-- The header block of a segment.
use Rattle.std.specs.Prelude.{◌≡◌, ℕ, ◌≤◌, ◌<◌, ◌%◌, Bool, List, [], ◌∷◌, length, drop, ◌==◌, ◌&&◌, nat_le, nat_lt, Option, Some, None, MatchOption, if◌then◌else◌, codes}
use Rattle.std.specs.List.{concat}
use Rattle.std.specs.Str.{bytes_eq}
use Rattle.ann_bytes.specs.LittleEndian.{number_of, bytes_of, field}
use Rattle.ann_block.specs.Block.{zeros, is_zeros, first_broken}
use Rattle.ann_block.specs.declared.header.Header.{Header}
use Rattle.ann_block.specs.declared.header.HeaderFields.{HeaderFields}
use Rattle.ann_block.specs.declared.refused.BlockRefused.{BlockRefused}
use Rattle.ann_block.specs.declared.refused.BlockRefused.TheVariants.{Length, Magic, Shape, Padding}

-- what a header is: sizes within their limits, and an entry that is a row, or none where there is no row
pub record IsHeader (header : Header) : Type 0 where
  pub code_bytes : (1 ≤ header.m) × (header.m ≤ 64)
  pub components : (1 ≤ header.d) × (header.d ≤ 1024)
  pub parts : header.d % header.m ≡ 0
  pub neighbours : (2 ≤ header.r) × (header.r ≤ 128)
  pub entry : MatchOption header.start_row (header.count ≡ 0) (λ row. row < header.count)

-- ---- the bytes of a header

-- how a header block begins
abbrev pub magic : List ℕ
magic = codes "ANNSEG01"

-- the field of the entry: its row, or the last number of four bytes for none
abbrev pub entry_field : Option ℕ → ℕ
entry_field None = 4294967295
entry_field (Some row) = row

unfoldable pub header_bytes : Header → List ℕ
header_bytes h =
    concat (magic ∷ bytes_of 8 h.number ∷ bytes_of 2 h.d ∷ bytes_of 2 h.r ∷ bytes_of 2 h.m ∷ bytes_of 2 0 ∷ bytes_of 4 h.count ∷ bytes_of 4 (entry_field h.start_row) ∷ zeros 4064 ∷ [])

-- ---- the header of bytes

-- the fields of a block, as they stand
unfoldable pub fields_in : List ℕ → HeaderFields
fields_in block = record {
  number = number_of (field block 8 8);
  d = number_of (field block 16 2);
  r = number_of (field block 18 2);
  m = number_of (field block 20 2);
  zero = number_of (field block 22 2);
  count = number_of (field block 24 4);
  entry = number_of (field block 28 4);
}

-- the row of the entry, from the count and the field
abbrev pub entry_row : ℕ → ℕ → Option ℕ
entry_row count entry = if count == 0 then None else Some entry

abbrev pub header_with : HeaderFields → Header
header_with f = record { number = f.number; d = f.d; r = f.r; m = f.m; count = f.count; start_row = entry_row f.count f.entry }

unfoldable pub header_of : List ℕ → Header
header_of block = header_with (fields_in block)

-- ---- the rules

abbrev pub are_limits : ℕ → ℕ → ℕ → Bool
are_limits d r m = nat_le 1 m && nat_le m 64 && nat_le 1 d && nat_le d 1024 && (d % m == 0) && nat_le 2 r && nat_le r 128

-- the field of the entry is a row, or the last number of four bytes where there is no row
abbrev pub may_enter : ℕ → ℕ → Bool
may_enter count entry = if count == 0 then entry == 4294967295 else nat_lt entry count

abbrev pub is_shape : HeaderFields → Bool
is_shape f = are_limits f.d f.r f.m && (f.zero == 0) && may_enter f.count f.entry

-- the rules of a header block, in their order
abbrev pub header_rules : List ℕ → List (Bool × BlockRefused)
header_rules block =
    (length block == 4096, Length)
    ∷ (bytes_eq (field block 0 8) magic, Magic)
    ∷ (is_shape (fields_in block), Shape)
    ∷ (is_zeros (drop 32 block), Padding)
    ∷ []

-- why a block is no header block; none where it is one
unfoldable pub judge_header : List ℕ → Option BlockRefused
judge_header block = first_broken (header_rules block)
