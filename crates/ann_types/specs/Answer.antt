-- What a search finds: the nearest points of all graphs, without the deleted ones (Search of FreshDiskANN), by exact
-- distances at the end (DiskANN, section 3.5).
use Rattle.std.specs.Prelude.{ℕ, List, ◌++◌, map, flat_map}
use Rattle.ann_types.specs.Order.{top}
use Rattle.ann_types.specs.Graph.{Point, Graph, tag_of, far_from, near_to}
use Rattle.ann_types.specs.Rounds.{rounds}
use Rattle.ann_types.specs.Index.{Index}
use Rattle.ann_types.specs.Merge.{without}
use Rattle.ann_types.specs.Lists.{BasedList}
use Rattle.ann_types.specs.Fold.{State, all_points, fold_of}
use Rattle.ann_types.specs.declared.ask.Ask.{Ask}
use Rattle.ann_types.specs.declared.hit.Hit.{Hit}

-- the candidates of a search of this width: Near of each graph in memory, and the points that rounds visit
-- in the long-term graph
abbrev pub found : Index → State → List ℕ → ℕ → List ℕ
found index s query width =
    near_to s.rw query width
    ++ flat_map (λ (g : Graph). near_to g query width) s.ros
    ++ rounds index.book s.lti query width index.params.w

-- a point as the tag and the exact distance that a search tells
abbrev pub hit : List Point → List ℕ → ℕ → Hit
hit points query p = record { tag = tag_of points p; distance = far_from points query p }

-- the first k of the candidates that aren't deleted, by exact distance and Pid
unfoldable pub hits : Index → State → ℕ → ℕ → List ℕ → List Hit
hits index s k width query =
    let points : List Point = all_points s in
    map (hit points query) (top (far_from points query) k (without s.dead (found index s query width)))

-- Answer(h, ask); the place of an answer is the length of h, `length_of h`, and isn't told here
abbrev pub answer : Index → BasedList → Ask → List Hit
answer index h ask = hits index (fold_of index h) ask.k ask.l ask.vector
