-- What a search of a long-term graph finds.
use Rattle.std.specs.Prelude.{◌≡◌, ℕ, List, [], Option, Some, None, Result, OnOk, IfErr, map, length}
use Rattle.ann_types.specs.Graph.{Graph, far_from, tag_of}
use Rattle.ann_types.specs.Merge.{without}
use Rattle.ann_types.specs.Rounds.{rounds, rounds_of}
use Rattle.ann_pq.specs.Tables.{AreTablesOf}
use Rattle.ann_segment.specs.Segment.{SegmentView}
use Rattle.ann_beam.specs.Ranking.{Ranked, rank, with_all}
use Rattle.ann_vault.specs.Reads.{more_reads}
use Rattle.ann_beam.specs.Quest.{Quest, Standing, HoldsIn}
use Rattle.ann_beam.specs.Progress.{Route, Sight, HasVisited, ground_at, sight_in}
use Rattle.ann_beam.specs.Refusals.{HasRead, IsRefusedFor}
use Rattle.ann_beam.specs.declared.refused.SearchRefused.{SearchRefused}
use Rattle.ann_beam.specs.declared.refused.SearchRefused.TheVariants.{Disk}

-- the rows that rounds visit from an entry among so many, if there is one
abbrev pub rows_from : Sight → ℕ → ℕ → ℕ → Option ℕ → List ℕ
rows_from sight width w count None = []
rows_from sight width w count (Some entry) = rounds_of (ground_at sight entry) width w count

abbrev pub route_in : {S : Type 0} → Quest S → SegmentView S → Route S
route_in quest segment = record { segment = segment; params = quest.params; query = quest.query; dead = quest.dead }

-- the rows that rounds over these bytes visit, by the query's tables, were visited
pub record VisitsRounds {S : Type 0} (quest : Quest S) (segment : SegmentView S) (bytes : List ℕ) (old new : Standing) : Type 0 where
  pub tables : List (List ℕ)
  pub guided : AreTablesOf quest.book.book quest.query tables
  pub visits : HasVisited (sight_in (route_in quest segment) bytes tables old.result.limit) (rows_from (sight_in (route_in quest segment) bytes tables old.result.limit) quest.width quest.params.w (length segment.items) segment.entry) old new

-- where there is a segment; without one nothing is read, and nothing is found
abbrev pub VisitsIn : {S : Type 0} → Type 0 → (S → List ℕ) → Quest S → Option (SegmentView S) → Standing → Standing → Type 0
VisitsIn tells bytes quest None old new = (new.result ≡ old.result) × (new.reads ≡ old.reads)
VisitsIn tells bytes quest (Some segment) old new = tells → VisitsRounds quest segment (bytes segment.seal) old new

-- the points of a graph that rounds visit and that aren't deleted, at their exact distances
abbrev pub long_points : {S : Type 0} → Quest S → Graph → List Ranked
long_points quest graph =
    map (rank (far_from graph.points quest.query) (tag_of graph.points)) (without quest.dead (rounds quest.book.book graph quest.query quest.width quest.params.w))

-- these were added to the result, and each visited point was read once
pub record VisitsGraph {S : Type 0} (quest : Quest S) (graph : Graph) (old new : Standing) : Type 0 where
  pub points : new.result.points ≡ with_all old.result.limit (long_points quest graph) old.result.points
  pub reads : new.reads ≡ more_reads (length (rounds quest.book.book graph quest.query quest.width quest.params.w)) old.reads

-- what is found: told, what rounds over the seal's bytes visit, and so what they visit in the graph that the segment holds
pub record HasFound {S : Type 0} (tells : Type 0) (bytes : S → List ℕ) (quest : Quest S) (old new : Standing) : Type 0 where
  pub read : HasRead old new
  pub visited : VisitsIn tells bytes quest quest.segment old new
  pub held : tells → (graph : Graph) → HoldsIn bytes quest.params quest.book.book quest.segment graph → VisitsGraph quest graph old new

-- how a search ends; told, no block of a graph is bad
pub record IsSearched {S T : Type 0} (tells : Type 0) (bytes : S → List ℕ) (quest : Quest S) (old new : Standing) (result : Result T SearchRefused) : Type 0 where
  pub found : OnOk result (HasFound tells bytes quest old new)
  pub refused : IfErr result (IsRefusedFor tells bytes quest.segment quest.params old new)
  pub sound : tells → (graph : Graph) → HoldsIn bytes quest.params quest.book.book quest.segment graph → IfErr result (λ why. why ≡ Disk)
