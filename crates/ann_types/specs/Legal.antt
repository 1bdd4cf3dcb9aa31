-- Which lists of entries an index may hold.
use Rattle.std.specs.Prelude.{◌≡◌, ℕ, ◌+◌, ◌-◌, ◌*◌, ◌^◌, Bool, true, false, List, [], ◌∷◌, ◌==◌, ◌&&◌, ◌||◌, nat_lt, not, Option, Some, None, is_none, length}
use Rattle.ann_types.specs.Graph.{is_empty}
use Rattle.ann_types.specs.Index.{Index}
use Rattle.ann_types.specs.Lists.{BasedList, IsBaseOf, bare, with_entry, next_pid, is_live, live_of}
use Rattle.ann_types.specs.Fold.{Begun, State, start, step}
use Rattle.ann_types.specs.declared.params.Params.{Params}
use Rattle.ann_types.specs.declared.entry.Entry.{Entry}
use Rattle.ann_types.specs.declared.entry.Entry.TheVariants.{Insert, Delete, Begin, End, Replace}

-- the first number that is no Pid: every point's Pid is below it
abbrev pub pid_end : ℕ
pid_end = 2 ^ 32 - 1

-- an Insert or Replace of a vector has d components and finds a Pid
abbrev pub fits : Params → BasedList → List ℕ → Bool
fits params h vector = (length vector == params.d) && nat_lt (next_pid h) pid_end

-- there is something to merge
abbrev pub has_work : State → Bool
has_work s = not (is_empty s.rw) || not (length s.ros == 0) || not (length s.dead == 0)

-- an End names the segment of the open Begin
abbrev pub names_segment : ℕ → Option Begun → Bool
names_segment segment None = false
names_segment segment (Some b) = segment == 2 * b.position + 1

-- whether an entry may follow a list with this state
abbrev pub may_follow : Params → BasedList → State → Entry → Bool
may_follow params h s (Insert by tag vector) = fits params h vector && not (is_live (live_of h) tag)
may_follow params h s (Delete by tag) = is_live (live_of h) tag
may_follow params h s (Begin by) = is_none s.begun && has_work s
may_follow params h s (End by segment) = names_segment segment s.begun
may_follow params h s (Replace by tag vector) = fits params h vector && is_live (live_of h) tag

-- whether each further entry may follow those before it
abbrev pub legal_from : Index → BasedList → State → List Entry → Bool
legal_from index h s [] = true
legal_from index h s (e ∷ es) = may_follow index.params h s e && legal_from index (with_entry h e) (step index h s e) es

-- the entries of a list are legal where each may follow those before it; of the base nothing is asked here
abbrev pub is_legal : Index → BasedList → Bool
is_legal index h = legal_from index (bare h.base) (start h.base.graph) h.entries

-- a list that an index may hold: a base of the index, and legal entries on it
pub record IsLegal (index : Index) (h : BasedList) : Type 0 where
  pub base : IsBaseOf index.params h.base
  pub entries : is_legal index h ≡ true
