-- How far rounds over a segment with known bytes have come.
use Rattle.std.specs.Prelude.{◌≡◌, ℕ, ◌<◌, Bool, true, false, List, [], ◌++◌, Option, None, map, flat_map, length}
use Rattle.std.specs.List.{AllByRecursion}
use Rattle.ann_types.specs.Order.{all_placed}
use Rattle.ann_types.specs.Walk.{Ground}
use Rattle.ann_types.specs.Rounds.{round}
use Rattle.ann_types.specs.declared.params.Params.{Params}
use Rattle.ann_block.specs.declared.refused.BlockRefused.{BlockRefused}
use Rattle.ann_pool.specs.Pool.{PoolView}
use Rattle.ann_greedy.specs.Shows.{Shows, ShowsWalk}
use Rattle.ann_segment.specs.Segment.{SegmentView}
use Rattle.ann_beam.specs.Ranking.{Ranked, with_all}
use Rattle.ann_vault.specs.Reads.{more_reads}
use Rattle.ann_beam.specs.Quest.{Standing}
use Rattle.ann_beam.specs.Candidates.{far_row}
use Rattle.ann_segment.specs.Rows.{judged, links_in, row_block}
use Rattle.ann_beam.specs.Visits.{alive, point_in}

-- what is seen of rows: how many points may be ranked and which are deleted; and of each row how far it is by its code,
-- its neighbours, its point, and why its block is refused, if it is
pub record Sight : Type 0 where
  pub limit : ℕ
  pub dead : List ℕ
  pub far : ℕ → ℕ
  pub links : ℕ → List ℕ
  pub point : ℕ → Ranked
  pub fault : ℕ → Option BlockRefused

-- a segment, its parameters, a query and the deleted points
pub record Route (S : Type 0) : Type 0 where
  pub segment : SegmentView S
  pub params : Params
  pub query : List ℕ
  pub dead : List ℕ

-- what is seen of a segment with these bytes, with these tables
abbrev pub sight_in : {S : Type 0} → Route S → List ℕ → List (List ℕ) → ℕ → Sight
sight_in route bytes tables limit = record {
  limit = limit;
  dead = route.dead;
  far = far_row tables route.segment.items;
  links = links_in route.segment bytes route.params.d;
  point = point_in route.segment bytes route.params.d route.query;
  fault = λ row. judged route.segment route.params (row_block route.segment bytes row) row;
}

-- what rounds see from a row
abbrev pub ground_at : Sight → ℕ → Ground
ground_at sight entry = record { entry = entry; links = sight.links; far = sight.far }

-- the desk and the counts, and the candidates
pub record Progress : Type 0 where
  pub standing : Standing
  pub guided : PoolView

-- these rows were visited: each was read once and is in the format, and its point is ranked unless it is deleted
pub record HasVisited (sight : Sight) (rows : List ℕ) (old new : Standing) : Type 0 where
  pub ranked : new.result.points ≡ with_all sight.limit (alive sight.dead (map sight.point rows)) old.result.points
  pub reads : new.reads ≡ more_reads (length rows) old.reads
  pub sound : AllByRecursion (λ row. sight.fault row ≡ None) rows

-- and their neighbours were met
pub record HasSeen (sight : Sight) (rows : List ℕ) (old new : Progress) : Type 0 where
  pub visits : HasVisited sight rows old.standing new.standing
  pub meets : (visited order : List ℕ) → Shows sight.far visited order old.guided → Shows sight.far visited (all_placed sight.far order (flat_map sight.links rows)) new.guided

-- a round was made: all its rows were visited, and there were some exactly where there may be more to do
pub record IsRound (sight : Sight) (entry w : ℕ) (visited : List ℕ) (some : Bool) (old new : Progress) : Type 0 where
  pub visits : HasVisited sight (round (ground_at sight entry) old.guided.limit w visited) old.standing new.standing
  pub shows : ShowsWalk (ground_at sight entry) (visited ++ round (ground_at sight entry) old.guided.limit w visited) new.guided
  pub more : some ≡ true → 0 < length (round (ground_at sight entry) old.guided.limit w visited)
  pub over : some ≡ false → round (ground_at sight entry) old.guided.limit w visited ≡ []

-- from wherever a walk stands
abbrev pub MakesRound : Sight → ℕ → Progress → Progress → Bool → Type 0
MakesRound sight w old new some =
    (entry : ℕ) (visited : List ℕ) → ShowsWalk (ground_at sight entry) visited old.guided → IsRound sight entry w visited some old new
