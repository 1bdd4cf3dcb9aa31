-- Lists of entries on a base: a log as its readers see it (the redo log of FreshDiskANN).
use Rattle.std.specs.Prelude.{◌≡◌, ◌≢◌, ℕ, ◌<◌, ◌+◌, ◌-◌, Bool, true, false, List, [], ◌∷◌, ◌++◌, ◌==◌, not, map, filter, take, length, count_by, All, AllPairs, if◌then◌else◌}
use Rattle.std.specs.List.{list_any}
use mathlib.Core.List.{IsPrefix}
use Rattle.ann_types.specs.Graph.{Point, Graph, empty_graph, IsGraphOf}
use Rattle.ann_types.specs.declared.params.Params.{Params}
use Rattle.ann_types.specs.declared.entry.Entry.{Entry}
use Rattle.ann_types.specs.declared.entry.Entry.TheVariants.{Insert, Delete, Begin, End, Replace}

-- what a list stands on: the position of its first entry, P, the next Pid, N, and the number, S, and the
-- graph of a segment
pub record ListBase : Type 0 where
  pub position : ℕ
  pub next : ℕ
  pub segment : ℕ
  pub graph : Graph

-- a base and entries at the positions P, P+1 and on
pub record BasedList : Type 0 where
  pub base : ListBase
  pub entries : List Entry

abbrev pub empty_base : ListBase
empty_base = record { position = 0; next = 0; segment = 0; graph = empty_graph }

-- what a base of an index must be: its graph has Pids below N and tags that differ, and is empty where
-- there is no segment
pub record IsBaseOf (params : Params) (base : ListBase) : Type 0 where
  pub graph : IsGraphOf params base.graph
  pub pids : All (λ x. x.pid < base.next) base.graph.points
  pub tags : AllPairs (λ x y. x.tag ≢ y.tag) base.graph.points
  pub none : base.segment ≡ 0 → base.graph ≡ empty_graph

-- a base without entries
abbrev pub bare : ListBase → BasedList
bare base = record { base = base; entries = [] }

abbrev pub empty_list : BasedList
empty_list = bare empty_base

-- the length of a list: its base's position and the number of its entries together
abbrev pub length_of : BasedList → ℕ
length_of h = h.base.position + length h.entries

-- h[n]: the base with the entries at positions below n
abbrev pub upto : BasedList → ℕ → BasedList
upto h n = record { base = h.base; entries = take (n - h.base.position) h.entries }

-- a list with further entries
abbrev pub with_entries : BasedList → List Entry → BasedList
with_entries h entries = record { base = h.base; entries = h.entries ++ entries }

abbrev pub with_entry : BasedList → Entry → BasedList
with_entry h entry = with_entries h (entry ∷ [])

-- h begins with g: their bases are equal, and g's entries are a prefix of h's
pub record BeginsWith (h g : BasedList) : Type 0 where
  pub base : h.base ≡ g.base
  pub entries : IsPrefix g.entries h.entries

-- an Insert or a Replace makes a point
abbrev pub makes_point : Entry → Bool
makes_point (Insert by tag vector) = true
makes_point (Delete by tag) = false
makes_point (Begin by) = false
makes_point (End by segment) = false
makes_point (Replace by tag vector) = true

-- NextPid(h): the base's N and the number of Inserts and Replaces together
abbrev pub next_pid : BasedList → ℕ
next_pid h = h.base.next + count_by makes_point h.entries

-- ---- live tags

-- a map from tag to Pid is the list of its pairs, each tag once, in order of Pid
abbrev pub Names : Type 0
Names = List (ℕ × ℕ)

-- the tags of points
abbrev pub names_of : List Point → Names
names_of points = map (λ x. (x.tag, x.pid)) points

-- whether a tag is in the map, and the Pids to which it maps a tag: one or none
abbrev pub is_live : Names → ℕ → Bool
is_live live tag = list_any (λ e. e.0 == tag) live

abbrev pub pids_at : Names → ℕ → List ℕ
pids_at live tag = map (λ e. e.1) (filter (λ e. e.0 == tag) live)

-- the map without a tag, and with a tag mapped to a Pid
abbrev pub unmapped : Names → ℕ → Names
unmapped live tag = filter (λ e. not (e.0 == tag)) live

abbrev pub mapped : Names → ℕ → ℕ → Names
mapped live tag pid = unmapped live tag ++ (tag, pid) ∷ []

-- the live tags after one more entry, whose point takes the next Pid: Insert and Replace map their tag to
-- it, Delete takes its tag out, Begin and End change nothing
abbrev pub live_after : Names → ℕ → Entry → Names
live_after live next (Insert by tag vector) = mapped live tag next
live_after live next (Delete by tag) = unmapped live tag
live_after live next (Begin by) = live
live_after live next (End by segment) = live
live_after live next (Replace by tag vector) = mapped live tag next

-- the live tags after further entries
abbrev pub live_from : Names → ℕ → List Entry → Names
live_from live next [] = live
live_from live next (e ∷ es) = live_from (live_after live next e) (next + (if makes_point e then 1 else 0)) es

-- Live(h): the live tags of a list and their Pids; without entries they are the tags of the base's graph
abbrev pub live_of : BasedList → Names
live_of h = live_from (names_of h.base.graph.points) h.base.next h.entries
