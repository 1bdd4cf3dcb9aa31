-- What there is to know of a list to judge an update behind it.
use Rattle.std.specs.Prelude.{◌≡◌, ℕ, List, Option, Some, None, map}
use Rattle.ann_types.specs.Judge as judged
use Rattle.ann_types.specs.Judge.{entry_of}
use Rattle.ann_types.specs.Lists.{BasedList, with_entries, next_pid, live_of}
use Rattle.ann_types.specs.declared.change.Change.{Change}
use Rattle.ann_types.specs.declared.change.Change.TheVariants as change
use Rattle.ann_tags.specs.Tags.{map_of}
use Rattle.ann_judge.specs.declared.refusal.Refusal.{Refusal}
use Rattle.ann_judge.specs.declared.refusal.Refusal.TheVariants.{Dimension, Full, Present, Absent}
use Rattle.ann_judge.specs.declared.standing.Standing.{Standing}

-- the live tags and the next Pid are those of a list
pub record KnowsOf (h : BasedList) (standing : Standing) : Type 0 where
  pub tags : standing.tags.now.pids ≡ map_of (live_of h)
  pub next : standing.next ≡ next_pid h

-- the tag of which a change speaks
abbrev pub tag_of : Change → ℕ
tag_of (change.Insert tag vector) = tag
tag_of (change.Delete tag) = tag
tag_of (change.Replace tag vector) = tag

-- the list with the entries of changes
abbrev pub behind : BasedList → List Change → BasedList
behind h changes = with_entries h (map (entry_of 0) changes)

-- a refusal of the definitions, as code has it
abbrev pub refusal_of : judged.Refusal → Refusal
refusal_of (judged.Dimension got want) = Dimension got want
refusal_of judged.Full = Full
refusal_of (judged.Present tag) = Present tag
refusal_of (judged.Absent tag) = Absent tag

-- the refusal of a change, if there is one
abbrev pub refused : Option judged.Refusal → Option Refusal
refused None = None
refused (Some refusal) = Some (refusal_of refusal)

-- the first refusal of an update, with the index of its change
abbrev pub refused_at : Option (ℕ × judged.Refusal) → Option (ℕ × Refusal)
refused_at None = None
refused_at (Some r) = Some (r.0, refusal_of r.1)
