-- What an index knows of its list beside the state that a view shows.
use Rattle.std.specs.Prelude.{◌≡◌, ◌≤◌, ◌+◌, ℕ, List, Option, length}
use Rattle.std.specs.Option.{option_map}
use Rattle.ann_types.specs.Fold.{Begun, fold_of}
use Rattle.ann_types.specs.Index.{Index}
use Rattle.ann_types.specs.Lists.{BasedList, length_of, next_pid, live_of}
use Rattle.ann_tags.specs.Tags.{TagsView, map_of}
use Rattle.ann_view.specs.declared.op.Op.{Op}

-- the length of a list, its next Pid, the position of its open Begin and its live tags; the operations that are logged and
-- not shown, in order; and for how many there is room
pub record AccountView (S : Type 0) : Type 0 where
  pub at : ℕ
  pub next : ℕ
  pub begun : Option ℕ
  pub tags : TagsView
  pub waiting : List (Op S)
  pub room : ℕ

-- the position of a list's open Begin
abbrev pub begun_in : Index → BasedList → Option ℕ
begun_in index h = option_map (λ (b : Begun). b.position) (fold_of index h).begun

-- an account is of a list
pub record IsAccountOf {S : Type 0} (index : Index) (h : BasedList) (account : AccountView S) : Type 0 where
  pub at : account.at ≡ length_of h
  pub next : account.next ≡ next_pid h
  pub begun : account.begun ≡ begun_in index h
  pub tags : account.tags.pids ≡ map_of (live_of h)

-- so many more operations can be noted without memory, with a tag each
pub record HasRoom {S : Type 0} (count : ℕ) (account : AccountView S) : Type 0 where
  pub tags : count ≤ account.tags.spare
  pub waiting : length account.waiting + count ≤ account.room

-- all but the room is as it was
pub record IsSameBut {S : Type 0} (old new : AccountView S) : Type 0 where
  pub at : new.at ≡ old.at
  pub next : new.next ≡ old.next
  pub begun : new.begun ≡ old.begun
  pub pids : new.tags.pids ≡ old.tags.pids
  pub waiting : new.waiting ≡ old.waiting
