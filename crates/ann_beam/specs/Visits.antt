-- What a beam sees of the rows of a segment.
use Rattle.std.specs.Prelude.{ℕ, not, List, filter}
use Rattle.ann_types.specs.Distance.{distance}
use Rattle.ann_types.specs.Order.{has}
use Rattle.ann_block.specs.Node.{NodeFields}
use Rattle.ann_segment.specs.Directory.{Item, item_of}
use Rattle.ann_segment.specs.Segment.{SegmentView}
use Rattle.ann_segment.specs.Rows.{node_in}
use Rattle.ann_beam.specs.Ranking.{Ranked}

-- a row's point at its exact distance
abbrev pub point_of : List Item → List ℕ → ℕ → NodeFields → Ranked
point_of items query row node = record { pid = (item_of items row).0; tag = node.tag; distance = distance query node.vector }

-- the point in a row of a segment with these bytes, at its exact distance
abbrev pub point_in : {S : Type 0} → SegmentView S → List ℕ → ℕ → List ℕ → ℕ → Ranked
point_in segment bytes d query row = point_of segment.items query row (node_in segment bytes d row)

-- those of the points that aren't deleted
abbrev pub alive : List ℕ → List Ranked → List Ranked
alive dead points = filter (λ x. not (has dead x.pid)) points
