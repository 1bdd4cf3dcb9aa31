-- Which segment holds the long-term graph of a list: that of its last End, or else that of its base.
use Rattle.std.specs.Prelude.{◌≡◌, ◌<◌, ℕ, List, [], ◌∷◌, Option, Some, None, MatchOption, All}
use Rattle.ann_types.specs.Fold.{Begun, fold_of}
use Rattle.ann_types.specs.Index.{Index}
use Rattle.ann_types.specs.Lists.{BasedList, next_pid, upto}
use Rattle.ann_types.specs.declared.entry.Entry.{Entry}
use Rattle.ann_types.specs.declared.entry.Entry.TheVariants.{Insert, Delete, Begin, End, Replace}
use Rattle.ann_segment.specs.Directory.{Item}
use Rattle.ann_segment.specs.Segment.{SegmentView}

-- the number that is named after one more entry
abbrev pub named_after : ℕ → Entry → ℕ
named_after number (Insert by tag vector) = number
named_after number (Delete by tag) = number
named_after number (Begin by) = number
named_after number (End by segment) = segment
named_after number (Replace by tag vector) = number

abbrev pub named_from : ℕ → List Entry → ℕ
named_from number [] = number
named_from number (e ∷ es) = named_from (named_after number e) es

-- the number of the segment that a list names; 0 where it names none
abbrev pub named_in : BasedList → ℕ
named_in h = named_from h.base.segment h.entries

-- a segment is the one that a list names, and there is none exactly where it names none
abbrev pub IsNamed : {S : Type 0} → BasedList → Option (SegmentView S) → Type 0
IsNamed h None = named_in h ≡ 0
IsNamed h (Some segment) = (segment.number ≡ named_in h) × (named_in h ≡ 0 → ⊥)

-- the Pids of a segment, if there is one, are below a number
abbrev pub AreBelow : {S : Type 0} → ℕ → Option (SegmentView S) → Type 0
AreBelow next segment = MatchOption segment (Unit {0}) (λ s. All (λ (x : Item). x.0 < next) s.items)

-- A segment may be the one of a list's long-term graph: it is named, and its Pids were given before the next one, and, where
-- a merge is open, before that began.
pub record IsCurrent {S : Type 0} (index : Index) (h : BasedList) (segment : Option (SegmentView S)) : Type 0 where
  pub named : IsNamed h segment
  pub below : AreBelow (next_pid h) segment
  pub older : (b : Begun) → (fold_of index h).begun ≡ Some b → AreBelow (next_pid (upto h b.position)) segment
