-- What opening a segment by its number finds.
use Rattle.std.specs.Prelude.{◌≡◌, ◌⊎◌, ◌<◌, ℕ, List, None, Some, All}
use Rattle.std.specs.FinMap.{get}
use Rattle.ann_types.specs.Codes.{Book}
use Rattle.ann_types.specs.Graph.{Graph}
use Rattle.ann_types.specs.declared.params.Params.{Params}
use Rattle.ann_vault.specs.Held.{Holding}
use Rattle.ann_segment.specs.Segment.{SegmentView}
use Rattle.ann_segment.specs.Opening.{IsOpenedFrom, IsBadBlock}
use Rattle.ann_segment.specs.Holds.{Holds, Fits}
use Rattle.ann_segment.specs.Text.{segment_text}
use Rattle.ann_base.specs.Faults.{IsFrontFault, AreBelow}
use Rattle.ann_base.specs.declared.refused.BaseRefused.{BaseRefused}
use Rattle.ann_base.specs.declared.refused.BaseRefused.TheVariants.{BadSegment, Disk, Memory}

-- a number is sealed with the text of a graph of the index
pub record IsSealedAs (held : Holding) (params : Params) (number : ℕ) (book : Book) (graph : Graph) : Type 0 where
  pub fits : Fits params book graph
  pub text : get held number ≡ Some (segment_text params book graph number)

-- the segment of a number; told, it is what is sealed under it
pub record IsFound {S : Type 0} (tells : Type 0) (bytes : S → List ℕ) (held : Holding) (params : Params) (wanted : ℕ) (segment : SegmentView S) : Type 0 where
  pub number : segment.number ≡ wanted
  pub code_bytes : segment.m ≡ params.m
  pub there : tells → get held wanted ≡ Some (bytes segment.seal)
  pub from_bytes : tells → IsOpenedFrom wanted params (bytes segment.seal) segment
  -- where the text of a graph is sealed, it holds this graph
  pub graph : tells → (book : Book) (graph : Graph) → IsSealedAs held params wanted book graph → Holds params book (bytes segment.seal) segment graph

-- and its Pids are below the next one
pub record IsOpenedBelow {S : Type 0} (tells : Type 0) (bytes : S → List ℕ) (held : Holding) (params : Params) (number next : ℕ) (segment : SegmentView S) : Type 0 where
  pub found : IsFound tells bytes held params number segment
  pub below : AreBelow next segment

-- the segment isn't there, or its first header or directory block that the format refuses; never where the text of a graph
-- is sealed
abbrev pub IsUnfound : Holding → Params → ℕ → BaseRefused → Type 0
IsUnfound held params number (BadSegment block) =
    (((get held number ≡ None) × (block ≡ 0)) ⊎ ((bytes : List ℕ) × (get held number ≡ Some bytes) × IsBadBlock number params bytes block))
    × ((book : Book) (graph : Graph) → IsSealedAs held params number book graph → ⊥)
IsUnfound held params number Disk = Unit {0}
IsUnfound held params number Memory = Unit {0}

-- a refusal of the format names the first block at fault; and there is none where the text of a graph is sealed whose Pids are
-- below the next one
pub record IsRightly (held : Holding) (params : Params) (number next block : ℕ) : Type 0 where
  pub fault : IsFrontFault held params number next block
  pub no_text : (book : Book) (graph : Graph) → IsSealedAs held params number book graph → All (λ x. x.pid < next) graph.points → ⊥

abbrev pub IsFrontRefused : Holding → Params → ℕ → ℕ → BaseRefused → Type 0
IsFrontRefused held params number next (BadSegment block) = IsRightly held params number next block
IsFrontRefused held params number next Disk = Unit {0}
IsFrontRefused held params number next Memory = Unit {0}
