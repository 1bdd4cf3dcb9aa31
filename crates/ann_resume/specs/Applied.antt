-- When an entry may be applied to a view that stands for a list, and what it makes of it.
use Rattle.std.specs.Prelude.{◌≡◌, ℕ, true, false, not, List, Option, Some, IsSome}
use Rattle.std.specs.List.{list_all}
use Rattle.ann_types.specs.Legal.{IsLegal}
use Rattle.ann_types.specs.Lists.{BasedList, next_pid, live_of, with_entry, with_entries}
use Rattle.ann_types.specs.declared.entry.Entry.{Entry}
use Rattle.ann_types.specs.declared.entry.Entry.TheVariants as entry
use Rattle.ann_laws.specs.Replays.{is_end}
use Rattle.ann_tags.specs.Tags.{map_of}
use Rattle.ann_reopen.specs.Gone.{gone_by, gone_from}
use Rattle.ann_view.specs.Stands.{StandsFor}
use Rattle.ann_view.specs.View.{IndexView, index_of}
use Rattle.ann_view.specs.declared.op.Op.{Op}
use Rattle.ann_view.specs.declared.op.Op.TheVariants.{Insert, Delete, Replace, Begin}

-- the view stands for a list that is legal with this entry, which is no End and deletes this Pid, if it deletes one
pub record IsNext {S : Type 0} (view : IndexView S) (h : BasedList) (e : Entry) (gone : Option ℕ) : Type 0 where
  pub stands : StandsFor view h
  pub legal : IsLegal (index_of view) (with_entry h e)
  pub no_end : is_end e ≡ false
  pub deletes : gone ≡ gone_by (map_of (live_of h)) e

-- the same of further entries
pub record AreNext {S : Type 0} (view : IndexView S) (h : BasedList) (es : List Entry) (gone : List (Option ℕ)) : Type 0 where
  pub stands : StandsFor view h
  pub legal : IsLegal (index_of view) (with_entries h es)
  pub no_end : list_all (λ e. not (is_end e)) es ≡ true
  pub deletes : gone ≡ gone_from (live_of h) (next_pid h) es

-- an entry that is no End, with the Pid that it deletes, if it deletes one
abbrev pub CanMake : Entry → Option ℕ → Type 0
CanMake (entry.Insert by tag vector) which = Unit {0}
CanMake (entry.Delete by tag) which = IsSome which
CanMake (entry.Begin by) which = Unit {0}
CanMake (entry.End by segment) which = ⊥
CanMake (entry.Replace by tag vector) which = IsSome which

-- the operation of such an entry
abbrev pub IsMadeOf : {S : Type 0} → Entry → Option ℕ → Op S → Type 0
IsMadeOf (entry.Insert by tag vector) which op = op ≡ Insert tag vector
IsMadeOf (entry.Delete by tag) which op = (pid : ℕ) × (which ≡ Some pid) × (op ≡ Delete pid)
IsMadeOf (entry.Begin by) which op = op ≡ Begin
IsMadeOf (entry.End by segment) which op = ⊥
IsMadeOf (entry.Replace by tag vector) which op = (pid : ℕ) × (which ≡ Some pid) × (op ≡ Replace tag pid vector)

-- the index, the segment and whether it is closed stay
pub record IsSameIndex {S : Type 0} (old new : IndexView S) : Type 0 where
  pub params : new.params ≡ old.params
  pub book : new.book ≡ old.book
  pub segment : new.segment ≡ old.segment
  pub closed : new.closed ≡ old.closed
