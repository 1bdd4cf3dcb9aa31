-- What is seen of a desk, beside its pool, and what visits keep of it.
use Rattle.std.specs.Prelude.{◌≡◌, ℕ, List, length}
use Rattle.ann_segment.specs.Segment.{SegmentView}
use Rattle.ann_beam.specs.Ranking.{RankingView}
use Rattle.ann_beam.specs.Quest.{Standing}
use Rattle.ann_beam.specs.Progress.{Progress}
use Rattle.ann_beam.specs.Candidates.{AreCandidates}
use Rattle.ann_beam.specs.declared.desk.Desk.{Desk}

-- its result
abbrev pub result_of : Desk → RankingView
result_of desk = desk.ranking

-- its page
abbrev pub page_of : Desk → List ℕ
page_of desk = desk.page

-- the desk and these counts of reads and of faults
abbrev pub standing : Desk → ℕ → ℕ → Standing
standing desk reads faults = record { result = desk.ranking; page = desk.page; reads = reads; faults = faults }

-- how far a beam has come
abbrev pub progress : Desk → ℕ → ℕ → Progress
progress desk reads faults = record { standing = standing desk reads faults; guided = desk.guided }

-- its tables go with the segment's codes, and its candidates are rows at their guided distances
pub record IsReady {S : Type 0} (segment : SegmentView S) (desk : Desk) : Type 0 where
  pub code : segment.m ≡ length desk.tables
  pub candidates : AreCandidates desk.tables segment.items desk.guided

-- what no visit changes
pub record Keeps (old new : Desk) : Type 0 where
  pub tables : new.tables ≡ old.tables
  pub width : new.guided.limit ≡ old.guided.limit
  pub limit : new.ranking.limit ≡ old.ranking.limit
