-- Worked examples: distances, pruning, and searches of graphs in memory.
use Rattle.std.proofs.Common.{◌≡◌, [], ◌∷◌, refl, replicate}
use Rattle.ann_types.specs.Distance.{distance}
use Rattle.ann_types.specs.Kept.{rule, kept}
use Rattle.ann_types.specs.Put.{put}
use Rattle.ann_types.specs.Graph.{apart_in, links_of}
use Rattle.ann_types.specs.Lists.{BasedList}
use Rattle.ann_types.specs.Fold.{fold_of}
use Rattle.ann_types.specs.Answer.{hits}
use Rattle.ann_types.proofs.WorkedIndexes.{plane_index, wide_plane_index, short_line_index, identity, list, insert_pair, insert_at, delete, point, graph, hit_at}

-- the greatest distance there is, and that of two empty vectors
pub greatest_distance : distance (replicate 1024 0) (replicate 1024 255) ≡ 66585600
greatest_distance = refl

pub empty_distance : distance [] [] ≡ 0
empty_distance = refl

-- with alpha 2 the origin, point 0, keeps the nearer of two candidates on one side, since 4*100 <= 400
pub prune_leaves_out_the_one_behind : kept (rule 2 2 1) (apart_in (point 0 0 (0 ∷ 0 ∷ []) [] ∷ point 1 0 (10 ∷ 0 ∷ []) [] ∷ point 2 0 (20 ∷ 0 ∷ []) [] ∷ [])) 0 (1 ∷ 2 ∷ []) ≡ 1 ∷ []
prune_leaves_out_the_one_behind = refl

-- and both where they stand in different directions, since 4*100 <= 200 is false
pub prune_keeps_both_sides : kept (rule 2 2 1) (apart_in (point 0 0 (0 ∷ 0 ∷ []) [] ∷ point 1 0 (10 ∷ 0 ∷ []) [] ∷ point 2 0 (10 ∷ 10 ∷ []) [] ∷ [])) 0 (1 ∷ 2 ∷ []) ≡ 1 ∷ 2 ∷ []
prune_keeps_both_sides = refl

-- of two points equally near the one of the smaller Pid is found
abbrev pub two_points : BasedList
two_points = list (insert_pair 9 0 1 ∷ insert_pair 5 1 0 ∷ [])

pub tie_goes_to_the_smaller_pid : hits plane_index (fold_of plane_index two_points) 1 4 (0 ∷ 0 ∷ []) ≡ hit_at 9 1 ∷ []
unfolding put hits
tie_goes_to_the_smaller_pid = refl

-- a fourth point makes one neighbour too many for the first, whose list is pruned to the third and the fourth
abbrev pub four_points : BasedList
four_points = list (insert_pair 1 100 100 ∷ insert_pair 2 110 100 ∷ insert_pair 3 90 100 ∷ insert_pair 4 105 100 ∷ [])

pub full_list_is_pruned : links_of (fold_of wide_plane_index four_points).rw.points 0 ≡ 2 ∷ 3 ∷ []
unfolding put
full_list_is_pruned = refl

pub narrow_search_finds_the_third : hits wide_plane_index (fold_of wide_plane_index four_points) 1 1 (90 ∷ 100 ∷ []) ≡ hit_at 3 0 ∷ []
unfolding put hits
narrow_search_finds_the_third = refl

pub narrow_search_finds_the_fourth : hits wide_plane_index (fold_of wide_plane_index four_points) 1 1 (105 ∷ 100 ∷ []) ≡ hit_at 4 0 ∷ []
unfolding put hits
narrow_search_finds_the_fourth = refl

-- a dead point still guides, and fills a list of width 1
abbrev pub dead_twin : BasedList
dead_twin = list (insert_pair 7 3 4 ∷ delete 7 ∷ insert_pair 7 3 4 ∷ [])

pub dead_point_fills_the_width : hits plane_index (fold_of plane_index dead_twin) 1 1 (3 ∷ 4 ∷ []) ≡ []
unfolding put hits
dead_point_fills_the_width = refl

pub wider_search_passes_the_dead_point : hits plane_index (fold_of plane_index dead_twin) 1 2 (3 ∷ 4 ∷ []) ≡ hit_at 7 0 ∷ []
unfolding put hits
wider_search_passes_the_dead_point = refl

-- a graph that freezes at two points: five points make two frozen graphs and one point in the third
abbrev pub five_points : BasedList
five_points = list (insert_at 1 10 ∷ insert_at 2 20 ∷ insert_at 3 30 ∷ insert_at 4 40 ∷ insert_at 5 50 ∷ [])

pub graphs_freeze : (fold_of short_line_index five_points).ros ≡ graph 0 (point 0 1 (10 ∷ []) (1 ∷ []) ∷ point 1 2 (20 ∷ []) (0 ∷ []) ∷ []) ∷ graph 2 (point 2 3 (30 ∷ []) (3 ∷ []) ∷ point 3 4 (40 ∷ []) (2 ∷ []) ∷ []) ∷ []
unfolding put
graphs_freeze = refl

pub one_point_is_left : (fold_of short_line_index five_points).rw ≡ graph 4 (point 4 5 (50 ∷ []) [] ∷ [])
unfolding put
one_point_is_left = refl

pub search_of_three_graphs : hits short_line_index (fold_of short_line_index five_points) 5 10 (0 ∷ []) ≡ hit_at 1 100 ∷ hit_at 2 400 ∷ hit_at 3 900 ∷ hit_at 4 1600 ∷ hit_at 5 2500 ∷ []
unfolding put hits identity
search_of_three_graphs = refl
