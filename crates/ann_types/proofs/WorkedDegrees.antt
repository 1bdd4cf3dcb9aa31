-- Worked examples: a list of R members stays as it is, and only a longer one is pruned. R is 2 in both.
use Rattle.std.proofs.Common.{◌≡◌, [], ◌∷◌, refl}
use Rattle.ann_types.specs.Put.{put}
use Rattle.ann_types.specs.Merge.{delete_phase, base_of, insert_phase, patch_phase, merged}
use Rattle.ann_types.specs.Fold.{fold_of}
use Rattle.ann_types.proofs.WorkedIndexes.{walk_1_freeze_100, coarse_index, steps_of_16, list, insert_at, begin, end, point, graph}

-- 37 becomes the second neighbour of 15; a prune would drop 78, which is nearer to 37 than to 15
pub back_links_to_r_members_stay : (fold_of walk_1_freeze_100 (list (insert_at 1 15 ∷ insert_at 2 78 ∷ insert_at 3 37 ∷ []))).rw ≡ graph 0 (point 0 1 (15 ∷ []) (1 ∷ 2 ∷ []) ∷ point 1 2 (78 ∷ []) (0 ∷ []) ∷ point 2 3 (37 ∷ []) (0 ∷ []) ∷ [])
unfolding put
back_links_to_r_members_stay = refl

-- and so in a merge: the patch phase leaves lists of two as they are
pub patched_list_of_r_members_stays : (fold_of coarse_index (list (insert_at 1 90 ∷ insert_at 2 28 ∷ insert_at 3 56 ∷ begin ∷ end 7 ∷ []))).lti ≡ graph 2 (point 0 1 (90 ∷ []) (1 ∷ 2 ∷ []) ∷ point 1 2 (28 ∷ []) (0 ∷ 2 ∷ []) ∷ point 2 3 (56 ∷ []) (0 ∷ 1 ∷ []) ∷ [])
unfolding put steps_of_16 delete_phase base_of insert_phase patch_phase merged
patched_list_of_r_members_stays = refl
