-- What the two files of a log stand for.
use Rattle.std.specs.Prelude.{◌≡◌, ℕ, ◌+◌, List, take, drop, Option, Some, None}
use Rattle.ann_types.specs.declared.params.Params.{Params}
use Rattle.ann_types.specs.declared.entry.Entry.{Entry}
use Rattle.ann_pq.specs.Codebook.{CodebookView}
use Rattle.ann_preamble.specs.Preamble.{Said, fields_of, gate_place, preamble_of}
use Rattle.ann_preamble.specs.Choice.{chosen}
use Rattle.ann_preamble.specs.declared.base.Base.{Base}
use Rattle.ann_preamble.specs.declared.choice.Side.{Side}
use Rattle.ann_preamble.specs.declared.choice.Side.TheVariants.{First, Second}
use Rattle.ann_frame.specs.TextOf as framed

-- no index, the position of the first entry that isn't wholly there, or what the preamble says and the entries behind it
pub data LogText : Type 0 where
  no_index : LogText
  bad_log : ℕ → LogText
  holds : Said → List Entry → LogText

-- positions count from the base's
abbrev pub behind : Said → framed.Text → LogText
behind s (framed.stands entries gate) = holds s entries
behind s (framed.bad n) = bad_log (s.fields.base.position + n)

-- where the first gate stands
abbrev pub first_gate : Said → ℕ
first_gate s = gate_place s.fields.generation s.fields.d

-- a file whose preamble says this stands for the frames behind it, up to the first gate that isn't open
abbrev pub file_text : Said → List ℕ → LogText
file_text s bytes = behind s (framed.text_of s.fields.d (drop (first_gate s) bytes))

-- the place of the last gate, counted from the first
abbrev pub gate_in : framed.Text → ℕ
gate_in (framed.stands entries gate) = gate
gate_in (framed.bad n) = 0

-- the bytes of such a file up to its last gate, which isn't open
abbrev pub upto_gate : Said → List ℕ → List ℕ
upto_gate s bytes = take (first_gate s + gate_in (framed.text_of s.fields.d (drop (first_gate s) bytes)) + 1) bytes

abbrev pub text_with : Option Said → List ℕ → LogText
text_with None bytes = no_index
text_with (Some s) bytes = file_text s bytes

abbrev pub text_on : Option Side → List ℕ → List ℕ → LogText
text_on None first second = no_index
text_on (Some First) first second = text_with (preamble_of first) first
text_on (Some Second) first second = text_with (preamble_of second) second

-- two files stand for what the one of them stands for that is the log
abbrev pub log_text : List ℕ → List ℕ → LogText
log_text first second = text_on (chosen (preamble_of first) (preamble_of second)) first second

-- what a log holds
pub record Held : Type 0 where
  pub params : Params
  pub book : CodebookView
  pub base : Base
  pub entries : List Entry

-- what a preamble says with these
abbrev pub said_in : Params → CodebookView → Base → ℕ → Said
said_in params book base generation = record { fields = fields_of params base generation; book = book }

abbrev pub said_of : Held → ℕ → Said
said_of held generation = said_in held.params held.book held.base generation

abbrev pub IsNoIndex : List ℕ → List ℕ → Type 0
IsNoIndex first second = log_text first second ≡ no_index

-- the files stand for what is held, at this generation
abbrev pub StandsAt : ℕ → Held → List ℕ → List ℕ → Type 0
StandsAt generation held first second = log_text first second ≡ holds (said_of held generation) held.entries

-- and so they do at some generation
abbrev pub StandsFor : Held → List ℕ → List ℕ → Type 0
StandsFor held first second = (generation : ℕ) × StandsAt generation held first second
