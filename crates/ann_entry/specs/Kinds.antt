-- The kinds of entries.
use Rattle.std.specs.Prelude.{ℕ, ◌+◌, ◌≤◌, List, length}
use Rattle.ann_types.specs.declared.entry.Entry.{Entry}
use Rattle.ann_types.specs.declared.entry.Entry.TheVariants as entry
use Rattle.ann_entry.specs.Standing.{IsOtherKind}
use Rattle.ann_entry.specs.declared.entry_refused.EntryRefused.{EntryRefused}
use Rattle.ann_entry.specs.declared.entry_refused.EntryRefused.TheVariants as refused
use Rattle.ann_entry.specs.declared.kind.Kind.{Kind}
use Rattle.ann_entry.specs.declared.kind.Kind.TheVariants.{Insert, Delete, Begin, End, Replace}

-- the kind of an entry
abbrev pub kind_of : Entry → Kind
kind_of (entry.Insert by tag vector) = Insert
kind_of (entry.Delete by tag) = Delete
kind_of (entry.Begin by) = Begin
kind_of (entry.End by segment) = End
kind_of (entry.Replace by tag vector) = Replace

-- the byte that says which kind an entry has
abbrev pub kind_byte : Kind → ℕ
kind_byte Insert = 1
kind_byte Delete = 2
kind_byte Begin = 3
kind_byte End = 4
kind_byte Replace = 5

-- how many bytes an entry of the kind has, where vectors have d components
abbrev pub kind_size : Kind → ℕ → ℕ
kind_size Insert d = 13 + d
kind_size Delete d = 13
kind_size Begin d = 5
kind_size End d = 13
kind_size Replace d = 13 + d

-- why no kind stands at a place
abbrev pub IsNoKind : EntryRefused → List ℕ → ℕ → Type 0
IsNoKind refused.Kind bytes at = IsOtherKind bytes at
IsNoKind refused.Short bytes at = length bytes ≤ at
IsNoKind (refused.Memory error) bytes at = ⊥
