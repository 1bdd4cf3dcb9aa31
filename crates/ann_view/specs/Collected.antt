-- The live points of a view, as a collect leaves them.
use Rattle.std.specs.Prelude.{◌≡◌, ◌≢◌, ◌≤◌, ◌<◌, ℕ, zero, suc, List, [], ◌∷◌, ◌++◌, Option, None, Some, not, filter, map, length}
use Rattle.std.specs.List.{AllByRecursion}
use Rattle.ann_types.specs.Order.{has}
use Rattle.ann_types.specs.Graph.{Point, Graph}
use Rattle.ann_types.specs.Merge.{survivors, without}
use Rattle.ann_types.specs.Fold.{State, all_points, new_point}
use Rattle.ann_types.specs.declared.new_point.NewPoint.{NewPoint}
use Rattle.ann_types.specs.declared.params.Params.{Params}
use Rattle.ann_fault.specs.Counts.{next_count}
use Rattle.ann_vault.specs.Reads.{more_reads}
use Rattle.ann_segment.specs.Directory.{item_of}
use Rattle.ann_segment.specs.Segment.{SegmentView, node_block}
use Rattle.ann_segment.specs.Rows.{judged, node_in, row_block}
use Rattle.ann_view.specs.View.{IndexView, whole, pids_in}
use Rattle.ann_view.specs.Holding.{HoldsGraph}
use Rattle.ann_view.specs.declared.collect_refused.CollectRefused.{CollectRefused}
use Rattle.ann_view.specs.declared.collect_refused.CollectRefused.TheVariants.{Disk, BadSegment, Memory}

-- ---- the live points

-- those of some points that aren't deleted
abbrev pub alive_in : List ℕ → List Point → List NewPoint
alive_in dead points = map new_point (survivors dead points)

-- the live points of a state, in order of Pid: first the long-term graph's, then those of the graphs in memory
abbrev pub live_points : State → List NewPoint
live_points s = alive_in s.dead (all_points s)

abbrev pub new_pids : List NewPoint → List ℕ
new_pids points = map (λ x. x.pid) points

-- ---- by the bytes of a segment

-- the rows below a number, in order
abbrev pub rows_below : ℕ → List ℕ
rows_below zero = []
rows_below (suc n) = rows_below n ++ n ∷ []

-- the Pid and the point in a row
abbrev pub pid_in : {S : Type 0} → SegmentView S → ℕ → ℕ
pid_in segment row = (item_of segment.items row).0

abbrev pub row_point_in : {S : Type 0} → SegmentView S → List ℕ → ℕ → ℕ → NewPoint
row_point_in segment bytes d row =
    record { pid = pid_in segment row; tag = (node_in segment bytes d row).tag; vector = (node_in segment bytes d row).vector }

abbrev pub undeleted : List ℕ → List NewPoint → List NewPoint
undeleted dead points = filter (λ x. not (has dead x.pid)) points

-- how many rows there are, and the live points in them
abbrev pub row_count : {S : Type 0} → Option (SegmentView S) → ℕ
row_count None = 0
row_count (Some segment) = length segment.items

abbrev pub points_read : {S : Type 0} → (S → List ℕ) → Params → List ℕ → Option (SegmentView S) → List NewPoint
points_read bytes params dead None = []
points_read bytes params dead (Some segment) =
    undeleted dead (map (row_point_in segment (bytes segment.seal) params.d) (rows_below (length segment.items)))

-- each block is in the format
abbrev pub AreSound : {S : Type 0} → (S → List ℕ) → Params → Option (SegmentView S) → Type 0
AreSound bytes params None = Unit {0}
AreSound bytes params (Some segment) =
    AllByRecursion (λ row. judged segment params (row_block segment (bytes segment.seal) row) row ≡ None) (rows_below (length segment.items))

-- the live points of a view, whose long-term points these bytes have
abbrev pub told_points : {S : Type 0} → (S → List ℕ) → IndexView S → List NewPoint
told_points bytes view =
    points_read bytes view.params view.memory.dead view.segment ++ alive_in view.memory.dead (all_points view.memory)

-- ---- what a collect leaves

-- the counts of the eye
pub record Counts : Type 0 where
  pub reads : ℕ
  pub faults : ℕ

-- some reads went well, and none failed
pub record Reads (old new : Counts) : Type 0 where
  pub reads : (n : ℕ) × (new.reads ≡ more_reads n old.reads)
  pub calm : new.faults ≡ old.faults

-- each live point is there once, in order of Pid, and the block of each row was read once; told, they are what is sealed,
-- and so those of the graph that the segment holds
pub record HasCollected {S : Type 0} (tells : Type 0) (bytes : S → List ℕ) (view : IndexView S) (points : List NewPoint) (old new : Counts) : Type 0 where
  pub pids : new_pids points ≡ without view.memory.dead (pids_in view.segment view.memory)
  pub memory : (front : List NewPoint) × (points ≡ front ++ alive_in view.memory.dead (all_points view.memory))
  pub told : tells → points ≡ told_points bytes view
  pub sound : tells → AreSound bytes view.params view.segment
  pub held : tells → (lti : Graph) → HoldsGraph bytes view lti → points ≡ live_points (whole view lti)
  pub reads : new.reads ≡ more_reads (row_count view.segment) old.reads
  pub calm : new.faults ≡ old.faults

-- these begin those
abbrev pub Begins : {A : Type 0} → List A → List A → Type 0
Begins {A} front all = (rest : List A) × (all ≡ front ++ rest)

-- after a refusal the first ones are there
pub record HasBegun {S : Type 0} (tells : Type 0) (bytes : S → List ℕ) (view : IndexView S) (points : List NewPoint) : Type 0 where
  pub pids : Begins (new_pids points) (without view.memory.dead (pids_in view.segment view.memory))
  pub told : tells → Begins points (told_points bytes view)
  pub held : tells → (lti : Graph) → HoldsGraph bytes view lti → Begins points (live_points (whole view lti))

-- a read failed, behind some that went well
pub record HasFailed (old new : Counts) : Type 0 where
  pub reads : (n : ℕ) × (new.reads ≡ more_reads n old.reads)
  pub faulty : new.faults ≡ next_count old.faults

-- the block of a row was read, the next one after those of the rows below it; told, it is the first outside the format
pub record IsBadRow {S : Type 0} (tells : Type 0) (bytes : S → List ℕ) (segment : SegmentView S) (params : Params) (block : ℕ) (old new : Counts) : Type 0 where
  pub row : ℕ
  pub within : row < length segment.items
  pub place : block ≡ node_block segment row
  pub bad : tells → judged segment params (row_block segment (bytes segment.seal) row) row ≢ None
  pub first : tells → AllByRecursion (λ below. judged segment params (row_block segment (bytes segment.seal) below) below ≡ None) (rows_below row)
  pub reads : new.reads ≡ more_reads (suc row) old.reads
  pub calm : new.faults ≡ old.faults

abbrev pub IsBadRowIn : {S : Type 0} → Type 0 → (S → List ℕ) → Option (SegmentView S) → Params → ℕ → Counts → Counts → Type 0
IsBadRowIn tells bytes None params block old new = ⊥
IsBadRowIn tells bytes (Some segment) params block old new = IsBadRow tells bytes segment params block old new

-- a collect may be refused so
abbrev pub IsUncollected : {S : Type 0} → Type 0 → (S → List ℕ) → Option (SegmentView S) → Params → Counts → Counts → CollectRefused → Type 0
IsUncollected tells bytes segment params old new Disk = HasFailed old new
IsUncollected tells bytes segment params old new (BadSegment block) = IsBadRowIn tells bytes segment params block old new
IsUncollected tells bytes segment params old new Memory = Reads old new

-- ---- on the way

-- the block of this row was read once; told, it is outside the format
pub record IsBadHere {S : Type 0} (tells : Type 0) (bytes : S → List ℕ) (segment : SegmentView S) (params : Params) (row block : ℕ) (old new : Counts) : Type 0 where
  pub place : block ≡ node_block segment row
  pub bad : tells → judged segment params (row_block segment (bytes segment.seal) row) row ≢ None
  pub reads : new.reads ≡ next_count old.reads
  pub calm : new.faults ≡ old.faults

-- a row may be refused so: its block couldn't be read, or it was read and is bad, or there is no memory for its point
abbrev pub IsRowRefused : {S : Type 0} → Type 0 → (S → List ℕ) → SegmentView S → Params → ℕ → Counts → Counts → CollectRefused → Type 0
IsRowRefused tells bytes segment params row old new Disk = (new.reads ≡ old.reads) × (new.faults ≡ next_count old.faults)
IsRowRefused tells bytes segment params row old new (BadSegment block) = IsBadHere tells bytes segment params row block old new
IsRowRefused tells bytes segment params row old new Memory = (new.reads ≡ next_count old.reads) × (new.faults ≡ old.faults)

-- the points so far, and the counts
pub record Gathering : Type 0 where
  pub points : List NewPoint
  pub counts : Counts

-- the live points of these rows stand behind those that were there
pub record AddsRows {S : Type 0} (tells : Type 0) (bytes : S → List ℕ) (segment : SegmentView S) (params : Params) (dead rows : List ℕ) (old new : List NewPoint) : Type 0 where
  pub pids : new_pids new ≡ new_pids old ++ without dead (map (pid_in segment) rows)
  pub told : tells → new ≡ old ++ undeleted dead (map (row_point_in segment (bytes segment.seal) params.d) rows)

-- and each of their blocks was read once and is in the format
pub record HasAdded {S : Type 0} (tells : Type 0) (bytes : S → List ℕ) (segment : SegmentView S) (params : Params) (dead rows : List ℕ) (old new : Gathering) : Type 0 where
  pub points : AddsRows tells bytes segment params dead rows old.points new.points
  pub sound : tells → AllByRecursion (λ row. judged segment params (row_block segment (bytes segment.seal) row) row ≡ None) rows
  pub reads : new.counts.reads ≡ more_reads (length rows) old.counts.reads
  pub calm : new.counts.faults ≡ old.counts.faults

-- the first rows were added
pub record StopsIn {S : Type 0} (tells : Type 0) (bytes : S → List ℕ) (segment : SegmentView S) (params : Params) (dead : List ℕ) (old new : List NewPoint) : Type 0 where
  pub row : ℕ
  pub within : row ≤ length segment.items
  pub points : AddsRows tells bytes segment params dead (rows_below row) old new

-- the same of a segment, if there is one
abbrev pub AddsSegment : {S : Type 0} → Type 0 → (S → List ℕ) → Option (SegmentView S) → Params → List ℕ → Gathering → Gathering → Type 0
AddsSegment tells bytes None params dead old new = new ≡ old
AddsSegment tells bytes (Some segment) params dead old new = HasAdded tells bytes segment params dead (rows_below (length segment.items)) old new

abbrev pub StopsInSegment : {S : Type 0} → Type 0 → (S → List ℕ) → Option (SegmentView S) → Params → List ℕ → List NewPoint → List NewPoint → Type 0
StopsInSegment tells bytes None params dead old new = ⊥
StopsInSegment tells bytes (Some segment) params dead old new = StopsIn tells bytes segment params dead old new

abbrev pub counts_of : ℕ → ℕ → Counts
counts_of reads faults = record { reads = reads; faults = faults }

abbrev pub gathering : List NewPoint → ℕ → ℕ → Gathering
gathering points reads faults = record { points = points; counts = counts_of reads faults }
