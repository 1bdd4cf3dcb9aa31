-- The state of the core: what is logged and shown, what readers have pinned, and what merges have finished and sealed.
use Rattle.std.specs.Prelude.{ℕ, ◌+◌, ◌*◌, ◌/◌, Bool, true, false, List, [], ◌∷◌, ◌++◌, ◌==◌, Option, Some, None, fold, flat_map, take, drop, length, replicate, if◌then◌else◌}
use Rattle.std.specs.List.{list_any, list_all, range_with_len}
use Rattle.ann_types.specs.Graph.{Point, Graph, empty_graph}
use Rattle.ann_types.specs.Index.{Index}
use Rattle.ann_types.specs.Lists.{BasedList, empty_base}
use Rattle.ann_types.specs.Fold.{Begun, State, fold_of, merge_of}
use Rattle.ann_types.specs.declared.entry.Entry.{Entry}
use Rattle.ann_types.specs.declared.entry.Entry.TheVariants.{Insert, Delete, Begin, End, Replace}

-- a finished piece of a merge: its number, and its rows of the merged graph
pub record Piece : Type 0 where
  pub number : ℕ
  pub rows : List Point

-- a segment that is kept: its number, and the graph that it holds
pub record Kept : Type 0 where
  pub number : ℕ
  pub graph : Graph

-- the logged list, how many of its entries are shown, for each of 32 readers the number that it has pinned or none, the
-- finished pieces, whether the open merge is sealed, and the kept segments in order of sealing
pub record CoreState : Type 0 where
  pub list : List Entry
  pub shown : ℕ
  pub pins : List (Option ℕ)
  pub pieces : List Piece
  pub sealed : Bool
  pub kept : List Kept

-- at first all are empty
abbrev pub readers : ℕ
readers = 32

abbrev pub first_state : CoreState
first_state = record { list = []; shown = 0; pins = replicate readers None; pieces = []; sealed = false; kept = [] }

-- ---- the logged list

-- the core keeps the empty base
abbrev pub logged : List Entry → BasedList
logged entries = record { base = empty_base; entries = entries }

-- the segment of the last End, if there is one
abbrev pub end_after : Option ℕ → Entry → Option ℕ
end_after last (Insert by tag vector) = last
end_after last (Delete by tag) = last
end_after last (Begin by) = last
end_after last (End by segment) = Some segment
end_after last (Replace by tag vector) = last

abbrev pub last_end : List Entry → Option ℕ
last_end entries = fold end_after None entries

-- ---- the kept segments

-- the graph that the segment of a number holds, if that is kept
abbrev pub graph_in : List Kept → ℕ → Option Graph
graph_in [] number = None
graph_in (k ∷ ks) number = if k.number == number then Some k.graph else graph_in ks number

abbrev pub is_kept : List Kept → ℕ → Bool
is_kept kept number = list_any (λ k. k.number == number) kept

-- the graph of the segment that an End has named; empty without an End, or where that segment isn't kept
abbrev pub held_or_empty : Option Graph → Graph
held_or_empty None = empty_graph
held_or_empty (Some graph) = graph

abbrev pub named_graph : List Kept → Option ℕ → Graph
named_graph kept None = empty_graph
named_graph kept (Some number) = held_or_empty (graph_in kept number)

-- the state of entries where the long-term graph is what the kept segment of their last End holds
abbrev pub held_state : Index → List Kept → List Entry → State
held_state index kept entries = record (fold_of index (logged entries)) { lti = named_graph kept (last_end entries) }

-- ---- the open merge

-- its Begin, if one is open
abbrev pub open_begin : Index → CoreState → Option Begun
open_begin index c = (fold_of index (logged c.list)).begun

-- the number of the segment that the merge of a Begin makes
abbrev pub segment_of : Begun → ℕ
segment_of b = 2 * b.position + 1

-- the points of the merge that starts from what the kept segment of the list's last End holds
abbrev pub open_points : Index → CoreState → List Point
open_points index c =
    let s : State = held_state index c.kept c.list in
    (merge_of index s s.begun).points

-- a piece has 256 rows, in order of Pid, and the last one fewer
abbrev pub piece_size : ℕ
piece_size = 256

abbrev pub pieces_of : List Point → ℕ
pieces_of points = (length points + 255) / piece_size

abbrev pub rows_of_piece : List Point → ℕ → List Point
rows_of_piece points number = take piece_size (drop (piece_size * number) points)

-- a piece is finished; and its rows, none where it isn't
abbrev pub is_finished : List Piece → ℕ → Bool
is_finished pieces number = list_any (λ x. x.number == number) pieces

abbrev pub rows_in : List Piece → ℕ → List Point
rows_in [] number = []
rows_in (x ∷ xs) number = if x.number == number then x.rows else rows_in xs number

-- all of so many pieces are finished; and their rows by number, one piece after the other
abbrev pub all_finished : List Piece → ℕ → Bool
all_finished pieces count = list_all (is_finished pieces) (range_with_len 0 count)

abbrev pub joined : List Piece → ℕ → List Point
joined pieces count = flat_map (rows_in pieces) (range_with_len 0 count)

-- ---- pins

-- the segments that may not be removed: the open Begin's, and the last End's of the list, of what is shown and of what each
-- reader has pinned
abbrev pub of_begin : Option Begun → List ℕ
of_begin None = []
of_begin (Some b) = segment_of b ∷ []

abbrev pub of_end : Option ℕ → List ℕ
of_end None = []
of_end (Some number) = number ∷ []

abbrev pub of_pin : List Entry → Option ℕ → List ℕ
of_pin list None = []
of_pin list (Some n) = of_end (last_end (take n list))

abbrev pub in_use : Index → CoreState → List ℕ
in_use index c =
    of_begin (open_begin index c)
    ++ of_end (last_end c.list)
    ++ of_end (last_end (take c.shown c.list))
    ++ flat_map (of_pin c.list) c.pins
