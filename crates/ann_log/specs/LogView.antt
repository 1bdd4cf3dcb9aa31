-- What a log is seen as, and what every log keeps.
use Rattle.std.specs.Prelude.{◌≡◌, ◌≢◌, ◌⊎◌, ℕ, ◌+◌, ◌*◌, ◌<◌, ◌≤◌, ◌^◌, Bool, true, false, List, [], ◌∷◌, ◌++◌, length, take, drop, Option, Some, None}
use Rattle.ann_types.specs.declared.params.Params.{Params}
use Rattle.ann_types.specs.declared.entry.Entry.{Entry}
use Rattle.ann_pq.specs.Codebook.{CodebookView}
use Rattle.ann_pq.specs.Format.{fault}
use Rattle.ann_disk.specs.Image.{Unsynced, clean}
use Rattle.ann_preamble.specs.Base.{is_base}
use Rattle.ann_preamble.specs.Choice.{chosen}
use Rattle.ann_preamble.specs.Preamble.{Said, preamble_of}
use Rattle.ann_preamble.specs.declared.base.Base.{Base}
use Rattle.ann_preamble.specs.declared.choice.Side.{Side}
use Rattle.ann_preamble.specs.declared.choice.Side.TheVariants.{First, Second}
use Rattle.ann_frame.specs.Frames.{AreFrames}
use Rattle.ann_frame.specs.TextOf as framed
use Rattle.ann_log.specs.Text.{Held, first_gate, StandsFor}
use Rattle.ann_log.specs.declared.files.Files.{Files}
use Rattle.ann_log.specs.declared.inspect.Inspected.{Inspected}

-- The file that is the log, the other one, and which of the two files the log is; what the log holds, and its generation;
-- how many entries there are, also where the files don't tell them; and whether a call has failed.
pub record LogView (F : Type 0) : Type 0 where
  pub log : F
  pub other : F
  pub side : Side
  pub params : Params
  pub book : CodebookView
  pub base : Base
  pub generation : ℕ
  pub list : List Entry
  pub count : ℕ
  pub is_closed : Bool

-- the files of which the one on this side is the log
abbrev pub files_in : {F : Type 0} → Side → F → F → Files F
files_in First log other = record { first = log; second = other }
files_in Second log other = record { first = other; second = log }

abbrev pub files_of : {F : Type 0} → LogView F → Files F
files_of v = files_in v.side v.log v.other

-- of two things, the one for the file on this side, and the one for the other file
abbrev pub on_side : {X : Type 0} → Side → X → X → X
on_side First first second = first
on_side Second first second = second

abbrev pub off_side : {X : Type 0} → Side → X → X → X
off_side First first second = second
off_side Second first second = first

-- what the log holds
abbrev pub held_of : {F : Type 0} → LogView F → Held
held_of v = record { params = v.params; book = v.book; base = v.base; entries = v.list }

-- what was found to be held
abbrev pub held_by : Inspected → Held
held_by found = record { params = found.params; book = found.book; base = found.base; entries = found.entries }

-- with further entries
abbrev pub extended : Held → List Entry → Held
extended held more = record held { entries = held.entries ++ more }

-- the files stand for what was held, or for it with these entries
abbrev pub IsBeforeOrAfter : Held → List Entry → List ℕ → List ℕ → Type 0
IsBeforeOrAfter held more first second = StandsFor held first second ⊎ StandsFor (extended held more) first second

-- the entries for which the bytes of frames stand
abbrev pub listed : framed.Text → List Entry
listed (framed.stands entries gate) = entries
listed (framed.bad n) = []

-- the first entries of a file with this preamble, so many as were counted
abbrev pub counted : Said → ℕ → List ℕ → List Entry
counted s count bytes = take count (listed (framed.text_of s.fields.d (drop (first_gate s) bytes)))

-- where the log's preamble says s and the other file's says this, the choice is
abbrev pub choice_of : Side → Said → Option Said → Option Side
choice_of First s other = chosen (Some s) other
choice_of Second s other = chosen other (Some s)

-- The log's file is its preamble, whole frames with these entries and a gate that isn't open. The other file has no
-- preamble that is chosen. All of both is on the disk.
pub record IsAtRest (side : Side) (s : Said) (log other : List ℕ) (log_unsynced other_unsynced : Unsynced) (gate : ℕ) (list : List Entry) : Type 0 where
  pub head : List ℕ
  pub front : List ℕ
  pub shown : ℕ
  pub spelled : log ≡ head ++ (front ++ shown ∷ [])
  pub place : length head ≡ first_gate s
  pub frames : AreFrames s.fields.d front list
  pub shut : shown ≢ 1
  pub end : gate ≡ length head + length front
  pub says : preamble_of log ≡ Some s
  pub is_log : choice_of side s (preamble_of other) ≡ Some side
  pub log_synced : log_unsynced ≡ clean log
  pub other_synced : other_unsynced ≡ clean other

-- the codebook is one of these parameters, and the base is valid
pub record IsSaid (s : Said) : Type 0 where
  pub base : is_base s.fields.base ≡ true
  pub book : fault s.fields.d s.fields.m s.book.bytes ≡ None
  pub sizes : (s.book.d ≡ s.fields.d) × (s.book.m ≡ s.fields.m)

-- what every log keeps of its files and its numbers
pub record IsSound (tells : Type 0) (side : Side) (s : Said) (log other : List ℕ) (log_unsynced other_unsynced : Unsynced) (gate count : ℕ) (closed : Bool) : Type 0 where
  pub said : IsSaid s
  pub end : gate + 1 < 2 ^ 64
  pub few : 5 * count ≤ gate
  pub whole : tells → length (counted s count log) ≡ count
  pub rest : tells → closed ≡ false → IsAtRest side s log other log_unsynced other_unsynced gate (counted s count log)

-- room for a frame of 64 entries, and for a preamble
pub record HasRoom (d : ℕ) (frame preamble : List ℕ) : Type 0 where
  pub for_frame : length frame ≡ 837 + 64 * d
  pub for_preamble : length preamble ≡ 74 + 256 * d
