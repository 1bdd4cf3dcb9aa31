-- What a run began with.
use Rattle.std.specs.Prelude.{ℕ, ◌≤◌, ◌<◌, List, length, get_or}
use Rattle.ann_types.specs.Index.{Index}
use Rattle.ann_types.specs.Lists.{BasedList}
use Rattle.ann_fault.specs.Counts.{Rose}

-- How often what a connection works with has failed: the log; the eye of its searches; the door by which it enters the view;
-- and each device of its merges.
pub record Counts : Type 0 where
  pub log : ℕ
  pub eye : ℕ
  pub door : ℕ
  pub merge : List ℕ

-- the index, the list of entries, and the counts
pub record Opening : Type 0 where
  pub index : Index
  pub list : BasedList
  pub counts : Counts

-- no count has fallen
pub record GoOn (before now : Counts) : Type 0 where
  pub log : before.log ≤ now.log
  pub eye : before.eye ≤ now.eye
  pub door : before.door ≤ now.door
  pub merge : (i : ℕ) → i < length before.merge → get_or before.merge i 0 ≤ get_or now.merge i 0

-- one of these has risen
pub record OneRose (before now : List ℕ) : Type 0 where
  pub device : ℕ
  pub is_one : device < length before
  pub rose : Rose (get_or before device 0) (get_or now device 0)
