-- Worked examples: the order of refusals, where the Pids end.
use Rattle.std.proofs.Common.{◌≡◌, ◌-◌, ◌^◌, [], ◌∷◌, refl, Some, None}
use Rattle.ann_types.specs.Lists.{BasedList}
use Rattle.ann_types.specs.Judge.{Dimension, Full, judge_all}
use Rattle.ann_types.specs.declared.change.Change.TheVariants.{Insert, Delete, Replace}
use Rattle.ann_types.proofs.WorkedIndexes.{plane, point, graph}

-- one Pid is left
abbrev pub nearly_full : BasedList
nearly_full = record { base = record { position = 5; next = 2 ^ 32 - 2; segment = 7; graph = graph 0 (point 0 7 (3 ∷ 4 ∷ []) [] ∷ []) }; entries = [] }

pub last_pid_is_given : judge_all plane nearly_full 0 (Insert 8 (1 ∷ 1 ∷ []) ∷ []) ≡ None
last_pid_is_given = refl

pub then_full : judge_all plane nearly_full 0 (Insert 8 (1 ∷ 1 ∷ []) ∷ Insert 9 (1 ∷ 1 ∷ []) ∷ []) ≡ Some (1, Full)
then_full = refl

pub full_comes_before_present : judge_all plane nearly_full 0 (Replace 7 (1 ∷ 1 ∷ []) ∷ Insert 7 (1 ∷ 1 ∷ []) ∷ []) ≡ Some (1, Full)
full_comes_before_present = refl

pub full_comes_before_absent : judge_all plane nearly_full 0 (Replace 7 (1 ∷ 1 ∷ []) ∷ Replace 9 (1 ∷ 1 ∷ []) ∷ []) ≡ Some (1, Full)
full_comes_before_absent = refl

pub dimension_comes_before_full : judge_all plane nearly_full 0 (Replace 7 (1 ∷ 1 ∷ []) ∷ Insert 7 (1 ∷ []) ∷ []) ≡ Some (1, Dimension 1 2)
dimension_comes_before_full = refl

pub deletes_need_no_pid : judge_all plane nearly_full 0 (Replace 7 (1 ∷ 1 ∷ []) ∷ Delete 7 ∷ []) ≡ None
deletes_need_no_pid = refl
