-- Worked examples: which vectors a merge and a search read, a point's own one or the decoded one. Centroids are the
-- multiples of 16, so that the two differ.
use Rattle.std.proofs.Common.{◌≡◌, [], ◌∷◌, refl}
use Rattle.ann_types.specs.Put.{put}
use Rattle.ann_types.specs.Merge.{delete_phase, base_of, insert_phase, patch_phase, merged}
use Rattle.ann_types.specs.Fold.{fold_of}
use Rattle.ann_types.specs.Answer.{hits}
use Rattle.ann_types.proofs.WorkedIndexes.{coarse_index, walk_1_freeze_2, walk_2_freeze_2, walk_2_freeze_100, steps_of_16, list, insert_at, begin, end, point, graph, hit_at}

-- 65 and 24 decode to 64 and 16, which are as far from their mean 40, so the smaller Pid is the entry; 24 is nearer to
-- the floor of the mean of 65 and 24, which is 44, than 65 is
pub mean_is_of_decoded_vectors : (fold_of coarse_index (list (insert_at 1 65 ∷ insert_at 2 24 ∷ begin ∷ end 5 ∷ []))).lti ≡ graph 0 (point 0 1 (65 ∷ []) (1 ∷ []) ∷ point 1 2 (24 ∷ []) (0 ∷ []) ∷ [])
unfolding put steps_of_16 delete_phase base_of insert_phase patch_phase merged
mean_is_of_decoded_vectors = refl

-- the first base is linked by decoded vectors, and then its points have their own vectors again: 56 and 46 both decode
-- to 48, so the walk for the third point stays at the first one
pub first_base_is_put_over_decoded_vectors : (fold_of walk_1_freeze_2 (list (insert_at 1 56 ∷ insert_at 2 46 ∷ insert_at 3 37 ∷ begin ∷ end 7 ∷ []))).lti ≡ graph 0 (point 0 1 (56 ∷ []) (1 ∷ 2 ∷ []) ∷ point 1 2 (46 ∷ []) (0 ∷ []) ∷ point 2 3 (37 ∷ []) (0 ∷ []) ∷ [])
unfolding put steps_of_16 delete_phase base_of insert_phase patch_phase merged
first_base_is_put_over_decoded_vectors = refl

-- a new point outside the base walks for its own vector, among decoded vectors
pub new_point_walks_for_its_own_vector : (fold_of walk_2_freeze_2 (list (insert_at 1 47 ∷ insert_at 2 14 ∷ insert_at 3 19 ∷ begin ∷ end 7 ∷ insert_at 4 93 ∷ insert_at 5 27 ∷ begin ∷ end 15 ∷ []))).lti ≡ graph 0 (point 0 1 (47 ∷ []) (1 ∷ 3 ∷ []) ∷ point 1 2 (14 ∷ []) (2 ∷ []) ∷ point 2 3 (19 ∷ []) (1 ∷ []) ∷ point 3 4 (93 ∷ []) (0 ∷ []) ∷ point 4 5 (27 ∷ []) (1 ∷ []) ∷ [])
unfolding put steps_of_16 delete_phase base_of insert_phase patch_phase merged
new_point_walks_for_its_own_vector = refl

-- the entry is chosen again over the whole: the base was entered at point 0
pub entry_is_chosen_again_over_the_whole : (fold_of walk_2_freeze_100 (list (insert_at 1 99 ∷ begin ∷ end 3 ∷ insert_at 2 8 ∷ insert_at 3 41 ∷ begin ∷ end 11 ∷ []))).lti ≡ graph 2 (point 0 1 (99 ∷ []) (1 ∷ 2 ∷ []) ∷ point 1 2 (8 ∷ []) (0 ∷ []) ∷ point 2 3 (41 ∷ []) (0 ∷ []) ∷ [])
unfolding put steps_of_16 delete_phase base_of insert_phase patch_phase merged
entry_is_chosen_again_over_the_whole = refl

-- the codes of 41 and 42 are the same, so a walk of width 1 stays at the first, though the second is nearer; the exact
-- distance is told
pub long_term_graph_is_walked_by_codes : hits walk_1_freeze_2 (fold_of walk_1_freeze_2 (list (insert_at 1 41 ∷ insert_at 2 42 ∷ begin ∷ end 5 ∷ []))) 1 1 (54 ∷ []) ≡ hit_at 1 169 ∷ []
unfolding put hits steps_of_16 delete_phase base_of insert_phase patch_phase merged
long_term_graph_is_walked_by_codes = refl
