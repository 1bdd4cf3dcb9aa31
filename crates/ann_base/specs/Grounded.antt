-- What opening a base's segment finds.
use Rattle.std.specs.Prelude.{◌≡◌, ◌≢◌, ℕ, List, MatchOption, map}
use Rattle.ann_types.specs.Codes.{Book}
use Rattle.ann_types.specs.Graph.{Graph, pids_of}
use Rattle.ann_types.specs.Lists.{ListBase, IsBaseOf, names_of}
use Rattle.ann_types.specs.declared.params.Params.{Params}
use Rattle.ann_vault.specs.Held.{Holding}
use Rattle.ann_segment.specs.Directory.{Item}
use Rattle.ann_segment.specs.Segment.{SegmentView}
use Rattle.ann_tags.specs.Tags.{map_of}
use Rattle.ann_base.specs.Faults.{IsBaseFault, IsSoundBase}
use Rattle.ann_base.specs.Front.{IsSealedAs, IsOpenedBelow}
use Rattle.ann_base.specs.Nodes.{graph_in, nodes_in}
use Rattle.ann_base.specs.declared.base.Grounded.{Grounded}
use Rattle.ann_base.specs.declared.refused.BaseRefused.{BaseRefused}
use Rattle.ann_base.specs.declared.refused.BaseRefused.TheVariants.{BadSegment, Disk, Memory}

-- the base of these numbers over a graph
abbrev pub base_over : ℕ → ℕ → ℕ → Graph → ListBase
base_over position next number graph = record { position = position; next = next; segment = number; graph = graph }

-- a segment is that of a base over a graph
pub record IsSegmentOf {S : Type 0} (tells : Type 0) (bytes : S → List ℕ) (held : Holding) (params : Params) (number next : ℕ) (graph : Graph) (segment : SegmentView S) : Type 0 where
  pub named : number ≢ 0
  pub opened : IsOpenedBelow tells bytes held params number next segment
  pub pids : pids_of graph.points ≡ map (λ (x : Item). x.0) segment.items
  -- told, it is the graph of the node blocks
  pub nodes : tells → graph ≡ graph_in segment (nodes_in segment params (bytes segment.seal))
  -- no block of what is sealed is at fault
  pub sound : tells → IsSoundBase held params number next
  -- where the text of a graph is sealed, this is the graph
  pub sealed : tells → (book : Book) (other : Graph) → IsSealedAs held params number book other → graph ≡ other

-- the base of these numbers over a graph, whose tags these are; without a segment there is no point
pub record IsBase {S : Type 0} (tells : Type 0) (bytes : S → List ℕ) (held : Holding) (params : Params) (number next : ℕ) (grounded : Grounded S) : Type 0 where
  pub graph : Graph
  pub base : (position : ℕ) → IsBaseOf params (base_over position next number graph)
  pub tags : grounded.tags.pids ≡ map_of (names_of graph.points)
  pub segment : MatchOption grounded.segment (number ≡ 0) (IsSegmentOf tells bytes held params number next graph)

-- there is a segment, and its first block at fault is named; and there is none where the text of a graph is sealed that is one
-- of a base
pub record IsRightlyRefused (held : Holding) (params : Params) (number next block : ℕ) : Type 0 where
  pub named : number ≢ 0
  pub fault : IsBaseFault held params number next block
  pub no_text : (book : Book) (graph : Graph) → IsSealedAs held params number book graph → IsBaseOf params (base_over 0 next number graph) → ⊥

abbrev pub IsBaseRefused : Holding → Params → ℕ → ℕ → BaseRefused → Type 0
IsBaseRefused held params number next (BadSegment block) = IsRightlyRefused held params number next block
IsBaseRefused held params number next Disk = Unit {0}
IsBaseRefused held params number next Memory = Unit {0}
