-- What a script says: its clients with their commands, or its first line at fault.
use Rattle.std.specs.Prelude.{ℕ, ◌+◌, ◌-◌, ◌^◌, ◌==◌, nat_le, nat_lt, Bool, List, [], ◌∷◌, ◌++◌, length, take, Option, None, Some, Result, Ok, Err, if◌then◌else◌}
use Rattle.std.specs.List.{slice_split}
use Rattle.std.specs.Str.{bytes_eq}
use Rattle.ann_script.specs.Order.{Order}
use Rattle.ann_script.specs.declared.verbs.Rules.{Rules}
use Rattle.ann_script.specs.declared.verbs.Verbs.{Verbs}
use Rattle.ann_script.specs.Grammar.{Line, Silent, Says, Bad, line_of, ◌>>=◌}

-- a client's name and its commands, in order
pub record Client : Type 0 where
  pub name : List ℕ
  pub orders : List Order

-- a command of the client of this name is added, where there may be so many clients
abbrev pub added : ℕ → List Client → List ℕ → Order → Option (List Client)
added room [] name order = if nat_lt 0 room then Some (record { name = name; orders = order ∷ [] } ∷ []) else None
added room (client ∷ others) name order =
    if bytes_eq client.name name then Some (record client { orders = client.orders ++ order ∷ [] } ∷ others)
    else added (room - 1) others name order >>= λ more. Some (client ∷ more)

-- whose verbs a script has, and how many clients
abbrev pub rules : Verbs → ℕ → Rules
rules verbs clients = record { verbs = verbs; clients = clients }

-- the clients with what was said, or none where that is at fault
abbrev pub line_said : Rules → List Client → Line → Option (List Client)
line_said rules clients Silent = Some clients
line_said rules clients (Says name order) = added rules.clients clients name order
line_said rules clients Bad = None

abbrev pub said : Rules → List Client → List ℕ → Option (List Client)
said rules clients line = line_said rules clients (line_of rules.verbs line)

-- how the text of a script ended: as a whole, cut by a fault of reading, or before the first byte past the limit
pub data Ending : Type 0 where
  Whole : Ending
  Cut : Ending
  Long : Ending

-- the last line: a whole text's is judged, a cut one isn't, and one with the first byte past the limit is at fault
abbrev pub last_said : Rules → Ending → List Client → ℕ → List ℕ → Result (List Client) ℕ
last_said rules Whole clients number line = elim (said rules clients line) [ None ↦ Err number | Some more ↦ Ok more ]
last_said rules Cut clients number line = Ok clients
last_said rules Long clients number line = Err number

-- what lines say, the first of which has this number, or the number of the first line at fault
abbrev pub lines_said : Rules → Ending → List Client → ℕ → List (List ℕ) → Result (List Client) ℕ
lines_said rules ending clients number [] = Ok clients
lines_said rules ending clients number (line ∷ []) = last_said rules ending clients number line
lines_said rules ending clients number (line ∷ next ∷ others) = elim (said rules clients line) [
  | None ↦ Err number
  | Some more ↦ lines_said rules ending more (number + 1) (next ∷ others)
]

abbrev pub is_line_feed : ℕ → Bool
is_line_feed byte = byte == 10

-- the parts between line feeds
abbrev pub lines : List ℕ → List (List ℕ)
lines text = slice_split is_line_feed text

-- what the text of a script says
abbrev pub text_said : Rules → Ending → List ℕ → Result (List Client) ℕ
text_said rules ending text = lines_said rules ending [] 1 (lines text)

abbrev pub limit : ℕ
limit = 2 ^ 26

-- what an input says as a script under these rules
abbrev pub script_of : Rules → List ℕ → Result (List Client) ℕ
script_of rules input = if nat_le (length input) limit then text_said rules Whole input else text_said rules Long (take limit input)
