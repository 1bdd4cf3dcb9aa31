-- Worked examples: codes, and merges with the searches behind them.
use Rattle.std.proofs.Common.{◌≡◌, true, false, [], ◌∷◌, refl, None}
use Rattle.ann_types.specs.Distance.{distance}
use Rattle.ann_types.specs.Put.{put}
use Rattle.ann_types.specs.Graph.{empty_graph}
use Rattle.ann_types.specs.Codes.{code, decode}
use Rattle.ann_types.specs.Merge.{delete_phase, base_of, insert_phase, patch_phase, merged}
use Rattle.ann_types.specs.Lists.{BasedList, length_of, next_pid, live_of}
use Rattle.ann_types.specs.Fold.{fold_of}
use Rattle.ann_types.specs.Legal.{is_legal, has_work}
use Rattle.ann_types.specs.Answer.{hits}
use Rattle.ann_types.proofs.WorkedIndexes.{line_index, coarse_index, walk_1_freeze_2, identity, steps_of_16, list, insert_at, delete, begin, end, point, graph, hit_at}

-- a code names the nearest centroid, and the lower one on a tie
pub code_of_ten : code steps_of_16 (10 ∷ []) ≡ 16 ∷ []
unfolding steps_of_16
code_of_ten = refl

pub code_of_eight : code steps_of_16 (8 ∷ []) ≡ 0 ∷ []
unfolding steps_of_16
code_of_eight = refl

pub guided_distance_of_ten : distance (10 ∷ []) (decode steps_of_16 (16 ∷ [])) ≡ 36
unfolding steps_of_16
guided_distance_of_ten = refl

-- points that share a code with others are told apart by exact distances
abbrev pub coarse_merge : BasedList
coarse_merge = list (insert_at 1 8 ∷ insert_at 2 10 ∷ begin ∷ end 5 ∷ [])

pub coarse_merge_is_legal : is_legal coarse_index coarse_merge ≡ true
unfolding put steps_of_16 delete_phase base_of insert_phase patch_phase merged
coarse_merge_is_legal = refl

pub exact_distances_at_the_end : hits coarse_index (fold_of coarse_index coarse_merge) 2 4 (9 ∷ []) ≡ hit_at 1 1 ∷ hit_at 2 1 ∷ []
unfolding put hits steps_of_16 delete_phase base_of insert_phase patch_phase merged
exact_distances_at_the_end = refl

-- a delete between Begin and End takes the point out of every answer at once, and is left for the next merge
abbrev pub delete_inside_a_merge : BasedList
delete_inside_a_merge = list (insert_at 1 10 ∷ insert_at 2 20 ∷ begin ∷ delete 1 ∷ end 5 ∷ [])

pub inside_is_legal : is_legal line_index delete_inside_a_merge ≡ true
unfolding put identity delete_phase base_of insert_phase patch_phase merged
inside_is_legal = refl

pub inside_length : length_of delete_inside_a_merge ≡ 5
inside_length = refl

pub inside_answer : hits line_index (fold_of line_index delete_inside_a_merge) 2 4 (10 ∷ []) ≡ hit_at 2 100 ∷ []
unfolding put hits identity delete_phase base_of insert_phase patch_phase merged
inside_answer = refl

pub inside_leaves_work : has_work (fold_of line_index delete_inside_a_merge) ≡ true
unfolding put identity delete_phase base_of insert_phase patch_phase merged
inside_leaves_work = refl

-- a graph that freezes between Begin and End isn't the merge's: the End drops the graphs that the Begin found, and
-- leaves this one
pub end_drops_the_kept_graphs_alone : (fold_of walk_1_freeze_2 (list (insert_at 1 48 ∷ begin ∷ insert_at 2 3 ∷ insert_at 3 58 ∷ end 3 ∷ []))).ros ≡ graph 1 (point 1 2 (3 ∷ []) (2 ∷ []) ∷ point 2 3 (58 ∷ []) (1 ∷ []) ∷ []) ∷ []
unfolding put steps_of_16 delete_phase base_of insert_phase patch_phase merged
end_drops_the_kept_graphs_alone = refl

-- the second merge has no survivor, so its base is made of the new points
abbrev pub two_merges : BasedList
two_merges = list (insert_at 1 10 ∷ insert_at 2 20 ∷ begin ∷ end 5 ∷ delete 1 ∷ delete 2 ∷ insert_at 3 30 ∷ insert_at 4 40 ∷ insert_at 5 50 ∷ begin ∷ end 19 ∷ [])

pub two_merges_is_legal : is_legal line_index two_merges ≡ true
unfolding put identity delete_phase base_of insert_phase patch_phase merged
two_merges_is_legal = refl

pub two_merges_length : length_of two_merges ≡ 11
two_merges_length = refl

pub two_merges_live : live_of two_merges ≡ (3, 2) ∷ (4, 3) ∷ (5, 4) ∷ []
two_merges_live = refl

pub two_merges_next_pid : next_pid two_merges ≡ 5
two_merges_next_pid = refl

pub two_merges_answer : hits line_index (fold_of line_index two_merges) 3 4 (30 ∷ []) ≡ hit_at 3 0 ∷ hit_at 4 100 ∷ hit_at 5 400 ∷ []
unfolding put hits identity delete_phase base_of insert_phase patch_phase merged
two_merges_answer = refl

-- two points are linked through the list of the deleted one between them
abbrev pub merge_of_a_delete : BasedList
merge_of_a_delete = list (insert_at 1 10 ∷ insert_at 2 20 ∷ insert_at 3 30 ∷ begin ∷ end 7 ∷ delete 2 ∷ begin ∷ end 13 ∷ [])

pub merge_of_a_delete_is_legal : is_legal line_index merge_of_a_delete ≡ true
unfolding put identity delete_phase base_of insert_phase patch_phase merged
merge_of_a_delete_is_legal = refl

pub linked_through_the_deleted : (fold_of line_index merge_of_a_delete).lti ≡ graph 0 (point 0 1 (10 ∷ []) (2 ∷ []) ∷ point 2 3 (30 ∷ []) (0 ∷ []) ∷ [])
unfolding put identity delete_phase base_of insert_phase patch_phase merged
linked_through_the_deleted = refl

pub merge_of_a_delete_length : length_of merge_of_a_delete ≡ 8
merge_of_a_delete_length = refl

pub merge_of_a_delete_answer : hits line_index (fold_of line_index merge_of_a_delete) 2 4 (30 ∷ []) ≡ hit_at 3 0 ∷ hit_at 1 400 ∷ []
unfolding put hits identity delete_phase base_of insert_phase patch_phase merged
merge_of_a_delete_answer = refl

-- points of one merge don't see each other: a narrow search ends at the one, a wider one finds the other
abbrev pub merge_of_two_new : BasedList
merge_of_two_new = list (insert_at 1 10 ∷ insert_at 2 30 ∷ begin ∷ end 5 ∷ insert_at 3 20 ∷ insert_at 4 21 ∷ begin ∷ end 13 ∷ [])

pub merge_of_two_new_is_legal : is_legal line_index merge_of_two_new ≡ true
unfolding put identity delete_phase base_of insert_phase patch_phase merged
merge_of_two_new_is_legal = refl

pub merge_of_two_new_length : length_of merge_of_two_new ≡ 8
merge_of_two_new_length = refl

pub new_points_are_linked_to_the_base_alone : (fold_of line_index merge_of_two_new).lti ≡ graph 2 (point 0 1 (10 ∷ []) (2 ∷ []) ∷ point 1 2 (30 ∷ []) (3 ∷ []) ∷ point 2 3 (20 ∷ []) (0 ∷ 1 ∷ []) ∷ point 3 4 (21 ∷ []) (0 ∷ 1 ∷ []) ∷ [])
unfolding put identity delete_phase base_of insert_phase patch_phase merged
new_points_are_linked_to_the_base_alone = refl

pub narrow_search_ends_at_the_one : hits line_index (fold_of line_index merge_of_two_new) 1 1 (21 ∷ []) ≡ hit_at 3 1 ∷ []
unfolding put hits identity delete_phase base_of insert_phase patch_phase merged
narrow_search_ends_at_the_one = refl

pub wider_search_finds_the_other : hits line_index (fold_of line_index merge_of_two_new) 1 4 (21 ∷ []) ≡ hit_at 4 0 ∷ []
unfolding put hits identity delete_phase base_of insert_phase patch_phase merged
wider_search_finds_the_other = refl

-- a merge of deleted points alone leaves the empty graph and nothing to do
abbrev pub merge_of_nothing_left : BasedList
merge_of_nothing_left = list (insert_at 1 10 ∷ delete 1 ∷ begin ∷ end 5 ∷ [])

pub merge_of_nothing_left_is_legal : is_legal line_index merge_of_nothing_left ≡ true
unfolding put identity delete_phase base_of insert_phase patch_phase merged
merge_of_nothing_left_is_legal = refl

pub merge_of_nothing_left_length : length_of merge_of_nothing_left ≡ 4
merge_of_nothing_left_length = refl

pub nothing_left_graph : (fold_of line_index merge_of_nothing_left).lti ≡ empty_graph
unfolding put identity delete_phase base_of insert_phase patch_phase merged
nothing_left_graph = refl

pub nothing_left_live : live_of merge_of_nothing_left ≡ []
nothing_left_live = refl

pub nothing_left_to_merge : has_work (fold_of line_index merge_of_nothing_left) ≡ false
unfolding put identity delete_phase base_of insert_phase patch_phase merged
nothing_left_to_merge = refl

pub nothing_left_open : (fold_of line_index merge_of_nothing_left).begun ≡ None
unfolding put identity delete_phase base_of insert_phase patch_phase merged
nothing_left_open = refl

pub nothing_left_answer : hits line_index (fold_of line_index merge_of_nothing_left) 1 4 (10 ∷ []) ≡ []
unfolding put hits identity delete_phase base_of insert_phase patch_phase merged
nothing_left_answer = refl
