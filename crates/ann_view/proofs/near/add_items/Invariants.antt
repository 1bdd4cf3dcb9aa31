use Rattle.std.proofs.Common.{◌≡◌, map, take}
use Rattle.ann_beam.specs.Desk.{result_of}
use Rattle.ann_beam.specs.Ranking.{with_all}
use Rattle.ann_beam.specs.Visits.{alive}
use Rattle.ann_view.specs.Near.{row_point}
use Rattle.ann_view.proofs.near.add_items.Given as goal

-- the items so far were added
abbrev pub invariant-loop-place : goal.invariant-loop-place
invariant-loop-place g l = record {
  limit : (result_of l.desk).limit ≡ (result_of l.fn.desk).limit;
  points : (result_of l.desk).points ≡ with_all (result_of l.fn.desk).limit (alive l.dead (map (row_point (g.G.Named.nodes l.graph)) (take l.place l.fn.desk.pool.items))) (result_of l.fn.desk).points;
  pool : l.desk.pool ≡ l.fn.desk.pool;
}
