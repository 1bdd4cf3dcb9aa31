-- What is true of every state of the core.
use Rattle.std.specs.Prelude.{◌≡◌, ℕ, ◌≤◌, ◌<◌, ◌+◌, ◌*◌, true, false, Bool, List, Option, Some, None, MatchOption, All, take, length, slice_get, if◌then◌else◌}
use Rattle.ann_types.specs.Graph.{Point, Graph}
use Rattle.ann_types.specs.Index.{Index}
use Rattle.ann_types.specs.Fold.{Begun, State, fold_of, merge_of}
use Rattle.ann_types.specs.Legal.{is_legal}
use Rattle.ann_types.specs.declared.entry.Entry.{Entry}
use Rattle.ann_types.specs.declared.entry.Entry.TheVariants.{Begin}
use Rattle.ann_core_laws.specs.State.{Piece, Kept, CoreState, logged, last_end, graph_in, segment_of, open_begin, pieces_of, rows_of_piece}

-- the segment of the last End of these entries, if they have one, is kept and holds their long-term graph
abbrev pub HoldsEnd : Index → List Kept → List Entry → Type 0
HoldsEnd index kept entries =
    MatchOption (last_end entries) (Unit {0}) (λ number. graph_in kept number ≡ Some (fold_of index (logged entries)).lti)

-- the graph that the open merge makes of what is logged; without an open merge it is the long-term graph
abbrev pub made_graph : Index → List Entry → Graph
made_graph index list =
    let s : State = fold_of index (logged list) in
    merge_of index s s.begun

-- a finished piece is one of a graph and has its rows
pub record IsPieceOf (points : List Point) (x : Piece) : Type 0 where
  pub number : x.number < pieces_of points
  pub rows : x.rows ≡ rows_of_piece points x.number

-- the segment of the open Begin is kept exactly where it is sealed, and holds the merged graph
abbrev pub if_sealed : Bool → Graph → Option Graph
if_sealed sealed graph = if sealed then Some graph else None

abbrev pub HoldsMerge : Index → CoreState → Option Begun → Type 0
HoldsMerge index c None = c.sealed ≡ false
HoldsMerge index c (Some b) = graph_in c.kept (segment_of b) ≡ if_sealed c.sealed (made_graph index c.list)

-- a kept number is that of a Begin of the list
pub record IsOfBegin (list : List Entry) (number : ℕ) : Type 0 where
  pub position : ℕ
  pub is : number ≡ 2 * position + 1
  pub by : ℕ
  pub begin : slice_get list position ≡ Some (Begin by)

-- a pin is at most the number shown, and the segment of its prefix is kept
abbrev pub IsPin : Index → CoreState → Option ℕ → Type 0
IsPin index c None = Unit {0}
IsPin index c (Some n) = (n ≤ c.shown) × HoldsEnd index c.kept (take n c.list)

pub record CoreFacts (index : Index) (c : CoreState) : Type 0 where
  pub legal : is_legal index (logged c.list) ≡ true
  pub shown : c.shown ≤ length c.list
  pub list_held : HoldsEnd index c.kept c.list
  pub shown_held : HoldsEnd index c.kept (take c.shown c.list)
  pub pins : All (IsPin index c) c.pins
  pub pieces : All (IsPieceOf (made_graph index c.list).points) c.pieces
  pub merge : HoldsMerge index c (open_begin index c)
  pub numbers : All (λ (k : Kept). IsOfBegin c.list k.number) c.kept
