-- Worked examples: replaces, judgements, lists that aren't legal, and a list on a base with a graph.
use Rattle.std.proofs.Common.{◌≡◌, true, false, [], ◌∷◌, refl, Some, None}
use Rattle.ann_types.specs.Put.{put}
use Rattle.ann_types.specs.Graph.{Graph}
use Rattle.ann_types.specs.Merge.{delete_phase, base_of, insert_phase, patch_phase, merged}
use Rattle.ann_types.specs.Lists.{ListBase, BasedList, bare, upto, length_of, live_of}
use Rattle.ann_types.specs.Fold.{fold_of}
use Rattle.ann_types.specs.Legal.{is_legal}
use Rattle.ann_types.specs.Answer.{hits}
use Rattle.ann_types.specs.Judge.{Dimension, Present, Absent, judge, judge_all}
use Rattle.ann_types.specs.declared.entry.Entry.TheVariants.{Replace as ReplaceEntry}
use Rattle.ann_types.specs.declared.change.Change.TheVariants.{Insert, Delete, Replace}
use Rattle.ann_types.proofs.WorkedIndexes.{plane, plane_index, line_index, identity, list, insert_pair, insert_at, delete, begin, end, point, graph, hit_at}

-- a replace leaves the tag live with a new Pid, and the search finds its new vector alone
abbrev pub replaced : BasedList
replaced = list (insert_pair 7 3 4 ∷ ReplaceEntry 0 7 (0 ∷ 0 ∷ []) ∷ [])

pub replaced_is_legal : is_legal plane_index replaced ≡ true
unfolding put
replaced_is_legal = refl

pub replaced_live : live_of replaced ≡ (7, 1) ∷ []
replaced_live = refl

pub replaced_answer : hits plane_index (fold_of plane_index replaced) 2 4 (0 ∷ 0 ∷ []) ≡ hit_at 7 0 ∷ []
unfolding put hits
replaced_answer = refl

pub replace_of_an_absent_tag : judge plane replaced (Replace 8 (1 ∷ 1 ∷ [])) ≡ Some (Absent 8)
replace_of_an_absent_tag = refl

-- one live tag: the same tag again, another to delete, a vector of one component
abbrev pub one_tag : BasedList
one_tag = list (insert_pair 7 3 4 ∷ [])

pub insert_of_a_present_tag : judge plane one_tag (Insert 7 (1 ∷ 1 ∷ [])) ≡ Some (Present 7)
insert_of_a_present_tag = refl

pub delete_of_an_absent_tag : judge plane one_tag (Delete 8) ≡ Some (Absent 8)
delete_of_an_absent_tag = refl

pub insert_of_a_short_vector : judge plane (list []) (Insert 7 (1 ∷ [])) ≡ Some (Dimension 1 2)
insert_of_a_short_vector = refl

-- in an update each change is judged after those before it: a tag that is deleted may be inserted again,
-- and none twice
pub update_of_two_changes : judge_all plane one_tag 0 (Delete 7 ∷ Insert 7 (9 ∷ 9 ∷ []) ∷ []) ≡ None
update_of_two_changes = refl

abbrev pub after_update : BasedList
after_update = list (insert_pair 7 3 4 ∷ delete 7 ∷ insert_pair 7 9 9 ∷ [])

pub second_change_is_refused : judge_all plane after_update 0 (Insert 8 (1 ∷ 1 ∷ []) ∷ Insert 8 (2 ∷ 2 ∷ []) ∷ []) ≡ Some (1, Present 8)
second_change_is_refused = refl

-- nothing to merge, an End of another segment, a tag inserted twice
pub begin_of_nothing : is_legal line_index (list (begin ∷ [])) ≡ false
begin_of_nothing = refl

pub end_of_another_segment : is_legal line_index (list (insert_at 1 10 ∷ begin ∷ end 5 ∷ [])) ≡ false
unfolding put identity delete_phase base_of insert_phase patch_phase merged
end_of_another_segment = refl

pub tag_inserted_twice : is_legal line_index (list (insert_at 1 10 ∷ insert_at 1 20 ∷ [])) ≡ false
unfolding put
tag_inserted_twice = refl

-- a list on the base that a static build of three points leaves
abbrev pub built : Graph
built = graph 1 (point 0 1 (10 ∷ []) (1 ∷ []) ∷ point 1 2 (20 ∷ []) (0 ∷ 2 ∷ []) ∷ point 2 3 (30 ∷ []) (1 ∷ []) ∷ [])

abbrev pub built_base : ListBase
built_base = record { position = 5; next = 3; segment = 7; graph = built }

pub built_length : length_of (bare built_base) ≡ 5
built_length = refl

pub built_live : live_of (bare built_base) ≡ (1, 0) ∷ (2, 1) ∷ (3, 2) ∷ []
built_live = refl

pub built_answer : hits line_index (fold_of line_index (bare built_base)) 3 4 (30 ∷ []) ≡ hit_at 3 0 ∷ hit_at 2 100 ∷ hit_at 1 400 ∷ []
unfolding put hits identity
built_answer = refl

-- entries on it stand at the positions 5 and on, and take Pids from 3
abbrev pub on_built : BasedList
on_built = record { base = built_base; entries = delete 2 ∷ insert_at 4 31 ∷ begin ∷ end 15 ∷ [] }

pub on_built_is_legal : is_legal line_index on_built ≡ true
unfolding put identity delete_phase base_of insert_phase patch_phase merged
on_built_is_legal = refl

pub on_built_prefix : upto on_built 7 ≡ record { base = built_base; entries = delete 2 ∷ insert_at 4 31 ∷ [] }
on_built_prefix = refl

pub on_built_live : live_of on_built ≡ (1, 0) ∷ (3, 2) ∷ (4, 3) ∷ []
on_built_live = refl
