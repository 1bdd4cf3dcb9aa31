-- Worked examples: which points are candidates of a search, and the order in which rounds visit.
use Rattle.std.proofs.Common.{◌≡◌, [], ◌∷◌, refl}
use Rattle.ann_types.specs.Graph.{Graph}
use Rattle.ann_types.specs.Rounds.{rounds}
use Rattle.ann_types.specs.Put.{put}
use Rattle.ann_types.specs.Merge.{delete_phase, base_of, insert_phase, patch_phase, merged}
use Rattle.ann_types.specs.Fold.{fold_of}
use Rattle.ann_types.specs.Answer.{hits}
use Rattle.ann_types.proofs.WorkedIndexes.{walk_1_freeze_2, walk_2_freeze_100, identity, steps_of_16, list, insert_at, delete, begin, end, point, graph, hit_at}

-- the long-term graph gives every point that was visited, not the nearest alone: a walk of width 1 visits the entry on
-- its way to a nearer point, which is dead
pub all_visited_points_of_the_long_term_graph_are_candidates : hits walk_1_freeze_2 (fold_of walk_1_freeze_2 (list (insert_at 1 59 ∷ insert_at 2 33 ∷ begin ∷ delete 2 ∷ end 5 ∷ []))) 1 1 (26 ∷ []) ≡ hit_at 1 1089 ∷ []
unfolding put hits steps_of_16 delete_phase base_of insert_phase patch_phase merged
all_visited_points_of_the_long_term_graph_are_candidates = refl

-- a graph in memory gives the nearest alone, here one that is dead
pub memory_gives_the_nearest_alone : hits walk_2_freeze_100 (fold_of walk_2_freeze_100 (list (insert_at 1 39 ∷ insert_at 2 86 ∷ delete 2 ∷ []))) 1 1 (92 ∷ []) ≡ []
unfolding put hits steps_of_16
memory_gives_the_nearest_alone = refl

-- a graph of four points, walked for the query 0 with width 3: a round of two takes 1 and 2 before the neighbour of 1,
-- which is nearer than 2, is met
abbrev pub fork : Graph
fork = graph 0 (point 0 1 (50 ∷ []) (1 ∷ 2 ∷ []) ∷ point 1 2 (30 ∷ []) (3 ∷ []) ∷ point 2 3 (80 ∷ []) [] ∷ point 3 4 (0 ∷ []) [] ∷ [])

pub rounds_of_two_choose_before_they_meet : rounds identity fork (0 ∷ []) 3 2 ≡ 0 ∷ 1 ∷ 2 ∷ 3 ∷ []
unfolding identity
rounds_of_two_choose_before_they_meet = refl

pub rounds_of_one_leave_the_far_one : rounds identity fork (0 ∷ []) 3 1 ≡ 0 ∷ 1 ∷ 3 ∷ []
unfolding identity
rounds_of_one_leave_the_far_one = refl
