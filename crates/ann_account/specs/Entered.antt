-- An account with one entry more.
use Rattle.std.specs.Prelude.{◌≡◌, ◌≤◌, ◌<◌, ◌+◌, ◌-◌, ◌^◌, ◌++◌, [], ◌∷◌, ℕ, Some, None}
use Rattle.std.specs.FinMap.{get, insert, remove}
use Rattle.ann_types.specs.Legal.{pid_end}
use Rattle.ann_types.specs.declared.entry.Entry.{Entry}
use Rattle.ann_types.specs.declared.entry.Entry.TheVariants.{Insert, Delete, Begin, End, Replace}
use Rattle.ann_view.specs.declared.op.Op.{Op}
use Rattle.ann_account.specs.Account.{AccountView}

-- a tag that isn't live is, with the next Pid
abbrev pub added : {S : Type 0} → AccountView S → ℕ → AccountView S
added a tag = record a {
  next = a.next + 1;
  tags = record { pids = insert a.tags.pids tag a.next; spare = a.tags.spare - 1 };
}

-- a tag isn't live any more
abbrev pub removed : {S : Type 0} → AccountView S → ℕ → AccountView S
removed a tag = record a { tags = record { pids = remove a.tags.pids tag; spare = a.tags.spare } }

-- by the kind of the entry
abbrev pub by_kind : {S : Type 0} → AccountView S → Entry → AccountView S
by_kind a (Insert by tag vector) = added a tag
by_kind a (Delete by tag) = removed a tag
by_kind a (Begin by) = record a { begun = Some a.at }
by_kind a (End by segment) = record a { begun = None }
by_kind a (Replace by tag vector) = added (removed a tag) tag

abbrev pub entered : {S : Type 0} → AccountView S → Entry → AccountView S
entered a e = let kind : AccountView _ = by_kind a e in record kind { at = a.at + 1 }

-- one operation more waits
abbrev pub waits : {S : Type 0} → AccountView S → Op S → AccountView S
waits a op = record a { waiting = a.waiting ++ op ∷ [] }

-- there is a Pid for a tag, and room
pub record MayAdd {S : Type 0} (a : AccountView S) : Type 0 where
  pub room : 1 ≤ a.tags.spare
  pub pid : a.next < pid_end

-- an entry can be taken in
abbrev pub MayBe : {S : Type 0} → AccountView S → Entry → Type 0
MayBe a (Insert by tag vector) = MayAdd a × (get a.tags.pids tag ≡ None)
MayBe a (Delete by tag) = Unit {0}
MayBe a (Begin by) = Unit {0}
MayBe a (End by segment) = Unit {0}
MayBe a (Replace by tag vector) = MayAdd a

pub record MayEnter {S : Type 0} (a : AccountView S) (e : Entry) : Type 0 where
  pub long : a.at < 2 ^ 64 - 1
  pub kind : MayBe a e
