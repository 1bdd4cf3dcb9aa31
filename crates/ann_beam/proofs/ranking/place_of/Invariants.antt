use Rattle.std.proofs.Common.{◌≡◌, ◌≤◌, ◌<◌, true, length}
use Rattle.ann_beam.specs.Ranking.{nearer}
use Rattle.ann_beam.proofs.Rankings.{at_place}
use Rattle.ann_beam.proofs.ranking.place_of.Given as goal

-- the point stands before the one at this place
abbrev pub invariant-loop-place : goal.invariant-loop-place
invariant-loop-place l = record {
  inside : l.place ≤ length l.hits;
  after : l.place < length l.hits → nearer (record { pid = l.pid; tag = l.hit.tag; distance = l.hit.distance }) (at_place l.pids l.hits l.place) ≡ true;
}

abbrev pub decreases-loop-place : goal.decreases-loop-place
decreases-loop-place l = l.place
