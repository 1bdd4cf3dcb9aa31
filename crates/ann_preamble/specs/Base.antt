-- The base of a log: what stood before its entries.
use Rattle.std.specs.Prelude.{◌+◌, ◌/◌, ◌%◌, Bool, ◌==◌, ◌&&◌, ◌||◌, nat_lt}
use Rattle.ann_preamble.specs.declared.base.Base.{Base}

-- nothing stood before
abbrev pub is_empty : Base → Bool
is_empty base = (base.position == 0) && (base.segment == 0) && (base.next == 0)

-- a merge stood before, and its segment has the number that the place of its Begin gives
abbrev pub is_merged : Base → Bool
is_merged base = (base.segment % 2 == 1) && nat_lt base.segment 9223372036854775808 && (base.position == (base.segment + 3) / 2)

-- a base that a log may have
abbrev pub is_base : Base → Bool
is_base base = nat_lt base.next 4294967296 && (is_empty base || is_merged base)
