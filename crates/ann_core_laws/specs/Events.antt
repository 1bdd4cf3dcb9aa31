-- What each event does to a state, and what it comes to.
use Rattle.std.specs.Prelude.{ℕ, ◌+◌, Bool, true, false, List, [], ◌∷◌, ◌++◌, ◌==◌, ◌&&◌, not, nat_le, nat_lt, Option, Some, None, fold, filter, take, drop, length, set, slice_get, if◌then◌else◌}
use Rattle.std.specs.List.{list_any}
use Rattle.ann_types.specs.Order.{has}
use Rattle.ann_types.specs.Graph.{Point}
use Rattle.ann_types.specs.Index.{Index}
use Rattle.ann_types.specs.Merge.{entered}
use Rattle.ann_types.specs.Fold.{Begun}
use Rattle.ann_types.specs.Legal.{is_legal}
use Rattle.ann_types.specs.Answer.{hits}
use Rattle.ann_types.specs.declared.ask.Ask.{Ask}
use Rattle.ann_types.specs.declared.entry.Entry.{Entry}
use Rattle.ann_types.specs.declared.entry.Entry.TheVariants.{Insert, Delete, Begin, End, Replace}
use Rattle.ann_laws.specs.Replays.{is_end}
use Rattle.ann_core_laws.specs.State.{CoreState, first_state, logged, is_kept, held_state, open_begin, segment_of, open_points, pieces_of, rows_of_piece, is_finished, all_finished, joined, in_use}
use Rattle.ann_core_laws.specs.declared.event.Event.{Event}
use Rattle.ann_core_laws.specs.declared.event.Event.TheVariants as event
use Rattle.ann_core_laws.specs.declared.step.Step.{Step}
use Rattle.ann_core_laws.specs.declared.step.Step.TheVariants.{Done, Answered, NotAllowed}

-- an event that isn't allowed leaves the state
abbrev pub refused : CoreState → CoreState × Step
refused c = (c, NotAllowed)

-- one that took place leaves another
abbrev pub done : CoreState → CoreState × Step
done c = (c, Done)

-- ---- the log

abbrev pub is_begin : Entry → Bool
is_begin (Insert by tag vector) = false
is_begin (Delete by tag) = false
is_begin (Begin by) = true
is_begin (End by segment) = false
is_begin (Replace by tag vector) = false

-- a frame has 1 to 64 entries; the list with them is legal, and none of them is an End
abbrev pub frame_end : ℕ
frame_end = 64

abbrev pub may_append : Index → CoreState → List Entry → Bool
may_append index c entries =
    nat_lt 0 (length entries) && nat_le (length entries) frame_end
    && not (list_any is_end entries) && is_legal index (logged (c.list ++ entries))

-- the list is longer; where a Begin is among the entries, no piece is finished
abbrev pub appended : CoreState → List Entry → CoreState
appended c entries =
    record c { list = c.list ++ entries; pieces = if list_any is_begin entries then [] else c.pieces }

abbrev pub frame : Index → CoreState → List Entry → CoreState × Step
frame index c entries = if may_append index c entries then done (appended c entries) else refused c

-- ---- readers

-- what a reader has pinned: nothing is found of a number that is no reader's, and else its pin or none
abbrev pub pin_of : CoreState → ℕ → Option (Option ℕ)
pin_of c reader = slice_get c.pins reader

abbrev pub with_pin : CoreState → ℕ → Option ℕ → CoreState
with_pin c reader pin = record c { pins = set c.pins reader pin }

abbrev pub enter : CoreState → ℕ → Option (Option ℕ) → CoreState × Step
enter c reader None = refused c
enter c reader (Some None) = done (with_pin c reader (Some c.shown))
enter c reader (Some (Some n)) = refused c

abbrev pub leave : CoreState → ℕ → Option (Option ℕ) → CoreState × Step
leave c reader None = refused c
leave c reader (Some None) = refused c
leave c reader (Some (Some n)) = done (with_pin c reader None)

-- the answer on what is pinned, where the lengths agree
abbrev pub reply : Index → CoreState → Ask → Option (Option ℕ) → CoreState × Step
reply index c ask None = refused c
reply index c ask (Some None) = refused c
reply index c ask (Some (Some n)) =
    if length ask.vector == index.params.d
    then (c, Answered n (hits index (held_state index c.kept (take n c.list)) ask.k ask.l ask.vector))
    else refused c

-- ---- merges

-- a piece is finished with its rows
abbrev pub with_piece : CoreState → List Point → ℕ → CoreState
with_piece c points number =
    record c { pieces = c.pieces ++ (record { number = number; rows = rows_of_piece points number }) ∷ [] }

abbrev pub may_finish : CoreState → List Point → ℕ → Bool
may_finish c points number = nat_lt number (pieces_of points) && not (is_finished c.pieces number)

abbrev pub piece : Index → CoreState → ℕ → Option Begun → CoreState × Step
piece index c number None = refused c
piece index c number (Some b) =
    if may_finish c (open_points index c) number then done (with_piece c (open_points index c) number) else refused c

-- the segment of the open Begin is kept, with the rows of the pieces
abbrev pub may_seal : CoreState → ℕ → Bool
may_seal c count = all_finished c.pieces count && not c.sealed

abbrev pub with_segment : Index → CoreState → ℕ → ℕ → CoreState
with_segment index c number count =
    record c { sealed = true; kept = c.kept ++ (record { number = number; graph = entered index (joined c.pieces count) }) ∷ [] }

abbrev pub seal : Index → CoreState → Option Begun → CoreState × Step
seal index c None = refused c
seal index c (Some b) =
    if may_seal c (pieces_of (open_points index c))
    then done (with_segment index c (segment_of b) (pieces_of (open_points index c)))
    else refused c

-- an End is appended, and nothing is sealed
abbrev pub ended : CoreState → ℕ → ℕ → CoreState
ended c by number = record c { list = c.list ++ End by number ∷ []; sealed = false }

abbrev pub switch : CoreState → ℕ → Option Begun → CoreState × Step
switch c by None = refused c
switch c by (Some b) = if c.sealed then done (ended c by (segment_of b)) else refused c

-- a segment that nobody uses is no more kept
abbrev pub without_segment : CoreState → ℕ → CoreState
without_segment c number = record c { kept = filter (λ k. not (k.number == number)) c.kept }

abbrev pub may_remove : Index → CoreState → ℕ → Bool
may_remove index c number = is_kept c.kept number && not (has (in_use index c) number)

abbrev pub remove : Index → CoreState → ℕ → CoreState × Step
remove index c number = if may_remove index c number then done (without_segment c number) else refused c

-- ---- the table

-- the state that an event leaves, and what it comes to
abbrev pub core_step : Index → CoreState → Event → CoreState × Step
core_step index c (event.Frame entries) = frame index c entries
core_step index c event.Show = done (record c { shown = length c.list })
core_step index c (event.Enter reader) = enter c reader (pin_of c reader)
core_step index c (event.Reply reader ask) = reply index c ask (pin_of c reader)
core_step index c (event.Leave reader) = leave c reader (pin_of c reader)
core_step index c (event.Piece number) = piece index c number (open_begin index c)
core_step index c event.Seal = seal index c (open_begin index c)
core_step index c (event.Switch by) = switch c by (open_begin index c)
core_step index c (event.Remove number) = remove index c number

-- ---- lists of events

-- the state that events leave, one after the other
abbrev pub state_after : Index → CoreState → List Event → CoreState
state_after index c events = fold (λ s e. (core_step index s e).0) c events

-- what each of them comes to
abbrev pub steps_from : Index → CoreState → List Event → List Step
steps_from index c [] = []
steps_from index c (e ∷ es) = (core_step index c e).1 ∷ steps_from index (core_step index c e).0 es

-- CoreRun: from the first state
abbrev pub core_run : Index → List Event → List Step
core_run index events = steps_from index first_state events
