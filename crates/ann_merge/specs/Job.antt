-- What is seen of a merge's job, what is true of every job, and how a job goes on.
use Rattle.std.specs.Prelude.{◌≡◌, ◌≢◌, ◌≤◌, ◌<◌, ◌^◌, ◌⊎◌, ℕ, Bool, true, List, Option, None, Some, IsSome, MatchOption, All, Result, Ok, Err, OnErr, map, length, take, drop, reverse}
use Rattle.std.specs.FinMap.{get}
use Rattle.std.specs.List.Sorted.{IsStrictlyIncreasing}
use Rattle.ann_types.specs.Graph.{Graph}
use Rattle.ann_types.specs.Index.{Index}
use Rattle.ann_types.specs.Legal.{pid_end}
use Rattle.ann_types.specs.Merge.{merged}
use Rattle.ann_types.specs.declared.params.Params.{Params}
use Rattle.ann_pq.specs.Codebook.{CodebookView}
use Rattle.ann_fault.specs.Counts.{Rose}
use Rattle.ann_vault.specs.Held.{Holding}
use Rattle.ann_segment.specs.Segment.{SegmentView}
use Rattle.ann_segment.specs.Holds.{Holds}
use Rattle.ann_segment.specs.Text.{segment_text}
use Rattle.ann_frozen.specs.Frozen.{FrozenView}
use Rattle.ann_mdelete.specs.declared.refused.WorkRefused.{WorkRefused}
use Rattle.ann_mdelete.specs.declared.refused.WorkRefused.TheVariants.{Disk, BadSegment, Memory}
use Rattle.ann_segment.specs.Directory.{Item, AreRising}
use Rattle.ann_mpatch.specs.Plan.{IsPlan, segment_in}
use Rattle.ann_mpatch.specs.Source.{Source}
use Rattle.ann_mpatch.specs.declared.plan.PatchPlan.{PatchPlan}
use Rattle.ann_mseal.specs.Ends.{IsUnsealed}
use Rattle.ann_mseal.specs.Merged.{merged_items}
use Rattle.ann_mcause.specs.Eyes.{AreCause}
use Rattle.ann_mlaws.specs.Plan.{IsLti, IsMergePlan}
use Rattle.ann_mlaws.specs.Rows.{HasCodes, old_items}
use Rattle.ann_merge.specs.Gathered.{all_pids, merged_pids, new_of}

-- what a merge takes: the old segment, if there is one, the frozen graphs, the deleted points, the number of the segment
-- that it makes, and the index
pub record Order (S : Type 0) : Type 0 where
  pub old : Option (SegmentView S)
  pub frozen : List FrozenView
  pub gone : List ℕ
  pub number : ℕ
  pub params : Params
  pub book : CodebookView

-- what it takes, what it works by, the segment once that is made, and whether a fault waits to be told
pub record JobView (V E S : Type 0) : Type 0 where
  pub order : Order S
  pub vault : V
  pub eyes : List E
  pub segment : Option (SegmentView S)
  pub faulted : Bool

-- ---- what is true of every job

-- the parts belong together, the number is another than the old segment's, and Pids ascend
pub record IsOrder {S : Type 0} (order : Order S) : Type 0 where
  pub sizes : (order.book.d ≡ order.params.d) × (order.book.m ≡ order.params.m)
  pub codes : HasCodes order.old order.params.m
  pub other : MatchOption order.old (Unit {0}) (λ segment. order.number ≢ segment.number)
  pub graphs : All (λ (f : FrozenView). f.params ≡ order.params) order.frozen
  pub rising : IsStrictlyIncreasing (all_pids (old_items order.old) order.frozen)
  pub small : All (λ p. p < pid_end) (all_pids (old_items order.old) order.frozen)

abbrev pub index_of : {S : Type 0} → Order S → Index
index_of order = record { params = order.params; book = order.book.book }

-- the graph that the merge makes of a long-term graph
abbrev pub merged_for : {S : Type 0} → Order S → Graph → Graph
merged_for order lti = merged (index_of order) lti (new_of order.gone order.frozen) order.gone

-- a segment is the one that the merge makes: it has the number and the Pids that stay, and codes of the index's length;
-- told, it holds the merged graph
pub record IsMergeOf {S : Type 0} (tells : Type 0) (bytes_of : S → List ℕ) (order : Order S) (segment : SegmentView S) : Type 0 where
  pub numbered : segment.number ≡ order.number
  pub code_bytes : segment.m ≡ order.params.m
  pub pids : map (λ (item : Item). item.0) segment.items ≡ merged_pids order.gone (old_items order.old) order.frozen
  pub holds : tells → (lti : Graph) → IsLti bytes_of (index_of order) order.old lti
      → Holds order.params order.book.book (bytes_of segment.seal) segment (merged_for order lti)

-- told, the bytes of its seal stand under the number
abbrev pub StandsSealed : {S : Type 0} → (S → List ℕ) → Order S → Holding → SegmentView S → Type 0
StandsSealed bytes_of order held segment = get held order.number ≡ Some (bytes_of segment.seal)

pub record IsDone {S : Type 0} (tells : Type 0) (bytes_of : S → List ℕ) (order : Order S) (held : Holding) (segment : SegmentView S) : Type 0 where
  pub merge : IsMergeOf tells bytes_of order segment
  pub sealed : tells → StandsSealed bytes_of order held segment

-- bytes are the text of the merged graph
abbrev pub IsMergeText : {S : Type 0} → (S → List ℕ) → Order S → List ℕ → Type 0
IsMergeText bytes_of order text =
    (lti : Graph) → IsLti bytes_of (index_of order) order.old lti
    → text ≡ segment_text order.params order.book.book (merged_for order lti) order.number

-- ---- how it goes on

-- nothing but this number has changed
abbrev pub KeepsNumbers : ℕ → Holding → Holding → Type 0
KeepsNumbers number old new = (other : ℕ) → other ≢ number → get new other ≡ get old other

-- a vault goes on: its count of faults never falls, and told, nothing but this number has changed
pub record VaultGoesOn (tells : Type 0) (number before now : ℕ) (old new : Holding) : Type 0 where
  pub later : before ≤ now
  pub others : tells → KeepsNumbers number old new

-- a fault of the vault or of an eye; a bad block that an eye has read, which comes told only where that block is outside
-- the format; or want of memory
abbrev pub IsWorkRefused : {E : Type 0} → (E → ℕ) → (E → ℕ) → Type 0 → Source → Params → ℕ → ℕ → List E → List E → WorkRefused → Type 0
IsWorkRefused reads faults tells source params before now old new why =
    IsUnsealed (AreCause reads faults tells source params old new) before now why

-- what an attempt leaves under the number: what stood there, nothing, or such a text
abbrev pub IsLeft : (List ℕ → Type 0) → Option (List ℕ) → Option (List ℕ) → Type 0
IsLeft is_text old new = (new ≡ old) ⊎ (new ≡ None) ⊎ ((text : List ℕ) × is_text text × (new ≡ Some text))

-- what a refusal leaves there; where it names a block, nothing is sealed yet, and what stood there is gone
abbrev pub LeavesNumber : (List ℕ → Type 0) → Option (List ℕ) → Option (List ℕ) → WorkRefused → Type 0
LeavesNumber is_text old new Disk = IsLeft is_text old new
LeavesNumber is_text old new (BadSegment block) = new ≡ None
LeavesNumber is_text old new Memory = IsLeft is_text old new

-- it names no block as bad
abbrev pub NamesNoBlock : WorkRefused → Type 0
NamesNoBlock Disk = Unit {0}
NamesNoBlock (BadSegment block) = ⊥
NamesNoBlock Memory = Unit {0}

-- a failure is a fault, and a count of faults never falls
pub record HasFaulted {T F : Type 0} (before now : ℕ) (result : Result T F) : Type 0 where
  pub later : before ≤ now
  pub failed : OnErr result (Rose before now)

-- the parts of a merge, put together
abbrev pub order_of : {S : Type 0} → Option (SegmentView S) → List FrozenView → List ℕ → ℕ → Params → CodebookView → Order S
order_of old frozen gone number params book =
    record { old = old; frozen = frozen; gone = gone; number = number; params = params; book = book }

-- whether a fault waits to be told after a refusal
abbrev pub faulted_by : Bool → WorkRefused → Bool
faulted_by before Disk = true
faulted_by before (BadSegment block) = before
faulted_by before Memory = before

-- work ends the job, or leaves it undone
abbrev pub HasWorked : {V E S : Type 0} → JobView V E S → JobView V E S → Result Unit WorkRefused → Type 0
HasWorked old new (Ok _) = IsSome new.segment × (new.faulted ≡ old.faulted)
HasWorked old new (Err why) = (new.segment ≡ None) × (new.faulted ≡ faulted_by old.faulted why)

-- why work may be refused, `caused`, and what it leaves; told, no block is named where the old segment holds a graph
pub record IsStopped {S : Type 0} (tells : Type 0) (bytes_of : S → List ℕ) (order : Order S) (caused : WorkRefused → Type 0) (old new : Holding) (why : WorkRefused) : Type 0 where
  pub cause : caused why
  pub sound : tells → (lti : Graph) → IsLti bytes_of (index_of order) order.old lti → NamesNoBlock why
  pub left : tells → LeavesNumber (IsMergeText bytes_of order) (get old order.number) (get new order.number) why

-- ---- on the way

-- a plan and the row of its entry are those of the merge, by rows and, told, by Pids; and each new point has d components,
-- and a tag of eight bytes
pub record IsPlanFor {S : Type 0} (tells : Type 0) (bytes : S → List ℕ) (order : Order S) (plan : PatchPlan S) (entry : Option ℕ) : Type 0 where
  pub sound : IsPlan plan
  pub old_segment : segment_in plan ≡ order.old
  pub params_are : plan.params ≡ order.params
  pub entered : MatchOption entry (length plan.decoded ≡ 0) (λ row. row < length plan.decoded)
  pub pids : map (λ (item : Item). item.0) (merged_items order.book.book plan) ≡ merged_pids order.gone (old_items order.old) order.frozen
  pub rising : AreRising (merged_items order.book.book plan)
  pub vectors : All (λ x. length x.vector ≡ order.params.d) (new_of order.gone order.frozen)
  pub tags : All (λ x. x.tag < 2 ^ 64) (new_of order.gone order.frozen)
  pub merge : tells → (lti : Graph) → IsLti bytes (index_of order) order.old lti → IsMergePlan (index_of order) lti (new_of order.gone order.frozen) order.gone plan entry

-- the first eyes were taken out, and the others set aside, each the last one first
pub record AreSetAside {E : Type 0} (workers : ℕ) (eyes active spare : List E) : Type 0 where
  pub first : active ≡ reverse (take workers eyes)
  pub others : spare ≡ reverse (drop workers eyes)
