-- What an index keeps to merge.
use Rattle.std.specs.Prelude.{◌<◌, ◌++◌, ℕ, false, List, Option, Some, None, length, option_to_list}
use Rattle.ann_segment.specs.Segment.{SegmentView}
use Rattle.ann_merge.specs.Job.{JobView, Order}

-- the vault and the eyes of the workers: at hand, in a job that was given back, or out with a job
pub data ToolsView (V E S : Type 0) : Type 0 where
  AtHand : V → List E → ToolsView V E S
  GivenBack : JobView V E S → ToolsView V E S
  Out : ToolsView V E S

-- these, the segments that are retired, and for how many there is room
pub record StockView (V E S : Type 0) : Type 0 where
  pub tools : ToolsView V E S
  pub retired : List (SegmentView S)
  pub room : ℕ

abbrev pub IsAtHand : {V E S : Type 0} → ToolsView V E S → Type 0
IsAtHand (AtHand vault eyes) = Unit {0}
IsAtHand (GivenBack job) = ⊥
IsAtHand Out = ⊥

-- there is an eye at least, where they are at hand
abbrev pub HaveEyes : {V E S : Type 0} → ToolsView V E S → Type 0
HaveEyes (AtHand vault eyes) = 0 < length eyes
HaveEyes (GivenBack job) = Unit {0}
HaveEyes Out = Unit {0}

-- the job that was given back
abbrev pub given_in : {V E S : Type 0} → ToolsView V E S → Option (JobView V E S)
given_in (AtHand vault eyes) = None
given_in (GivenBack job) = Some job
given_in Out = None

-- that job is out again
abbrev pub without_job : {V E S : Type 0} → ToolsView V E S → ToolsView V E S
without_job (AtHand vault eyes) = AtHand vault eyes
without_job (GivenBack job) = Out
without_job Out = Out

-- the vault and the eyes, unless they are out
abbrev pub parts_in : {V E S : Type 0} → ToolsView V E S → Option (V × List E)
parts_in (AtHand vault eyes) = Some (vault, eyes)
parts_in (GivenBack job) = Some (job.vault, job.eyes)
parts_in Out = None

-- the job of a merge, which isn't worked yet
abbrev pub job_of : {V E S : Type 0} → Order S → V → List E → JobView V E S
job_of order vault eyes = record { order = order; vault = vault; eyes = eyes; segment = None; faulted = false }

-- a job has ended: its vault and eyes are at hand, and its old segment is retired
abbrev pub ended : {V E S : Type 0} → StockView V E S → JobView V E S → StockView V E S
ended stock job = record stock {
  tools = AtHand job.vault job.eyes;
  retired = stock.retired ++ option_to_list job.order.old;
}
