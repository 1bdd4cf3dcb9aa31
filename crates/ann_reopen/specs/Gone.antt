-- Which Pid each entry of a list deletes.
use Rattle.std.specs.Prelude.{ℕ, ◌+◌, List, [], ◌∷◌, Option, None, if◌then◌else◌}
use Rattle.std.specs.FinMap.{get}
use Rattle.ann_types.specs.Lists.{BasedList, Names, names_of, makes_point, live_after}
use Rattle.ann_types.specs.declared.entry.Entry.{Entry}
use Rattle.ann_types.specs.declared.entry.Entry.TheVariants.{Insert, Delete, Begin, End, Replace}
use Rattle.ann_tags.specs.Tags.{Pids, map_of}

-- of an entry where these tags are live: a Delete and a Replace delete the point of their tag
abbrev pub gone_by : Pids → Entry → Option ℕ
gone_by pids (Insert by tag vector) = None
gone_by pids (Delete by tag) = get pids tag
gone_by pids (Begin by) = None
gone_by pids (End by segment) = None
gone_by pids (Replace by tag vector) = get pids tag

-- of each of further entries
abbrev pub gone_from : Names → ℕ → List Entry → List (Option ℕ)
gone_from live next [] = []
gone_from live next (e ∷ es) =
    gone_by (map_of live) e ∷ gone_from (live_after live next e) (next + (if makes_point e then 1 else 0)) es

-- of each entry of a list
abbrev pub gone_of : BasedList → List (Option ℕ)
gone_of h = gone_from (names_of h.base.graph.points) h.base.next h.entries
