-- What reading the list of a log finds: its base, and its entries judged on it.
use Rattle.std.specs.Prelude.{◌≡◌, ℕ, List, Option, MatchOption}
use Rattle.ann_types.specs.Graph.{Graph}
use Rattle.ann_types.specs.Index.{Index}
use Rattle.ann_types.specs.Lists.{ListBase, BasedList, IsBaseOf}
use Rattle.ann_types.specs.declared.entry.Entry.{Entry}
use Rattle.ann_types.specs.declared.params.Params.{Params}
use Rattle.ann_preamble.specs.declared.base.Base.{Base}
use Rattle.ann_vault.specs.Held.{Holding}
use Rattle.ann_segment.specs.Segment.{SegmentView}
use Rattle.ann_reopen.specs.Judged.{IsJudged, IsFirstIllegal}
use Rattle.ann_base.specs.Grounded.{base_over, IsSegmentOf, IsRightlyRefused}
use Rattle.ann_state.specs.declared.list.ListState.{ListState}
use Rattle.ann_state.specs.declared.refused.ListRefused.{ListRefused}
use Rattle.ann_state.specs.declared.refused.ListRefused.TheVariants.{BadLog, BadSegment, Disk, Memory}

-- the base of a log over a graph
abbrev pub base_on : Base → Graph → ListBase
base_on base graph = base_over base.position base.next base.segment graph

-- the list of a log: its base over a graph, and its entries
abbrev pub list_on : Base → Graph → List Entry → BasedList
list_on base graph entries = record { base = base_on base graph; entries = entries }

-- a graph is that of a base, and this is its segment, if it has one
pub record IsGround {S : Type 0} (tells : Type 0) (bytes : S → List ℕ) (held : Holding) (params : Params) (base : Base) (graph : Graph) (segment : Option (SegmentView S)) : Type 0 where
  pub based : IsBaseOf params (base_on base graph)
  pub sealed : MatchOption segment (base.segment ≡ 0) (IsSegmentOf tells bytes held params base.segment base.next graph)

-- the entries are legal on the base's graph, and this is what they leave
pub record IsListState {S : Type 0} (tells : Type 0) (bytes : S → List ℕ) (held : Holding) (params : Params) (base : Base) (entries : List Entry) (list : ListState S) : Type 0 where
  pub graph : Graph
  pub ground : IsGround tells bytes held params base graph list.segment
  pub judged : (index : Index) → index.params ≡ params → IsJudged index (list_on base graph entries) list.judged

-- this entry is the first that isn't legal on the base's graph
pub record IsIllegal {S : Type 0} (tells : Type 0) (bytes : S → List ℕ) (held : Holding) (params : Params) (base : Base) (entries : List Entry) (entry : ℕ) : Type 0 where
  pub graph : Graph
  pub segment : Option (SegmentView S)
  pub ground : IsGround tells bytes held params base graph segment
  pub first : (index : Index) → index.params ≡ params → IsFirstIllegal index (list_on base graph entries) entry

-- The first block of the base's segment that is at fault, or else the first entry that isn't legal.
abbrev pub IsListRefused : {S : Type 0} → Type 0 → (S → List ℕ) → Holding → Params → Base → List Entry → ListRefused → Type 0
IsListRefused tells bytes held params base entries (BadSegment block) = tells → IsRightlyRefused held params base.segment base.next block
IsListRefused tells bytes held params base entries (BadLog entry) = IsIllegal tells bytes held params base entries entry
IsListRefused tells bytes held params base entries Disk = Unit {0}
IsListRefused tells bytes held params base entries Memory = Unit {0}
