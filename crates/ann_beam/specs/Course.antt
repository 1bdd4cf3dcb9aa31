-- What a beam goes through.
use Rattle.std.specs.Prelude.{ℕ, List}
use Rattle.ann_beam.specs.Progress.{Route, Sight, sight_in}
use Rattle.ann_beam.specs.declared.course.Course.{Course}
use Rattle.ann_beam.specs.declared.desk.Desk.{Desk}

-- its segment, its parameters and its query, with the deleted points
abbrev pub route_of : {S D : Type 0} → Course S D → List ℕ → Route S
route_of course dead = record { segment = course.segment.now; params = course.params.now; query = course.query.now; dead = dead }

-- what it sees of its segment, whose bytes these are, from a desk
abbrev pub sight_of : {S D : Type 0} → Course S D → List ℕ → (S → List ℕ) → Desk → Sight
sight_of course dead bytes desk = sight_in (route_of course dead) (bytes course.segment.now.seal) desk.tables desk.ranking.limit
