-- What a run of the index says, whose clients each had a thread: its transcript, and the list that it leaves.
use Rattle.std.specs.Prelude.{◌≡◌, ℕ, ◌+◌, ◌<◌, max, List, [], ◌∷◌, ◌++◌, All, fold, map, flat_map, take, drop, length}
use Rattle.ann_types.specs.Index.{Index}
use Rattle.ann_types.specs.Lists.{BasedList, BeginsWith, length_of, live_of}
use Rattle.ann_types.specs.Legal.{IsLegal}
use Rattle.ann_script.specs.Order.{Order}
use Rattle.ann_script.specs.Script.{Client}
use Rattle.ann_transcript.specs.Transcript.{line_text, last_text}
use Rattle.ann_transcript.specs.declared.reply.Reply.{Reply}
use Rattle.ann_said.specs.Owned.{Placed, by_of, past, own}
use Rattle.ann_said.specs.Seen.{line_seen}
use Rattle.ann_said.specs.Table.{Turn, Stands}

-- a line: a command, the reply to it, and how many entries of the list are the command's
pub record Line : Type 0 where
  pub order : Order
  pub reply : Reply
  pub size : ℕ

abbrev pub line : Order → Reply → ℕ → Line
line order reply size = record { order = order; reply = reply; size = size }

-- a client's part of a run: its name and its lines
pub record Part : Type 0 where
  pub name : List ℕ
  pub lines : List Line

-- ---- the text

abbrev pub lines_text : List ℕ → ℕ → List Line → List ℕ
lines_text name number [] = []
lines_text name number (l ∷ ls) = line_text name number l.reply ++ lines_text name (number + 1) ls

-- a client's lines, by the numbers of its commands from 1
abbrev pub part_text : Part → List ℕ
part_text p = lines_text p.name 1 p.lines

-- what the client's script was
abbrev pub script_of : Part → Client
script_of p = record { name = p.name; orders = map (λ (l : Line). l.order) p.lines }

-- ---- one client's lines, one after the other

-- behind some lines of a client: its entries of these lines, those to come, and how long a search's list must be
pub record Spot : Type 0 where
  pub client : ℕ
  pub earlier : List Placed
  pub coming : List Placed
  pub seen : ℕ

-- before the first line
abbrev pub start : BasedList → BasedList → ℕ → Spot
start h0 h client = record { client = client; earlier = []; coming = own h0 h client; seen = length_of h0 }

-- the next line has the next entries
abbrev pub turn_at : Spot → ℕ → Turn
turn_at s size = record { client = s.client; earlier = s.earlier; own = take size s.coming; seen = s.seen }

abbrev pub behind_line : Spot → Line → Spot
behind_line s l = record {
  client = s.client;
  earlier = s.earlier ++ take l.size s.coming;
  coming = drop l.size s.coming;
  seen = max s.seen (line_seen (take l.size s.coming) l.reply);
}

abbrev pub behind_lines : Spot → List Line → Spot
behind_lines s ls = fold behind_line s ls

module _ (index : Index) (h0 h : BasedList) where
  -- each line stands behind those before it
  abbrev pub AllStand : Spot → List Line → Type 0
  AllStand s [] = Unit {0}
  AllStand s (l ∷ ls) = Stands index h0 h (turn_at s l.size) l.order l.reply × AllStand (behind_line s l) ls

  -- the lines of a client are right, and its entries past h0 are those of its commands, in order
  pub record SaysAll (client : ℕ) (lines : List Line) : Type 0 where
    pub stand : AllStand (start h0 h client) lines
    pub all : (behind_lines (start h0 h client) lines).coming ≡ []

  -- so are those of the clients from this number on
  abbrev pub AllSay : ℕ → List Part → Type 0
  AllSay client [] = Unit {0}
  AllSay client (p ∷ ps) = SaysAll client p.lines × AllSay (client + 1) ps

-- A run of this script, which began with the list h0, leaves the list h and this text.
pub record Said (index : Index) (h0 h : BasedList) (script : List Client) (text : List ℕ) : Type 0 where
  pub legal : IsLegal index h
  pub begins : BeginsWith h h0
  pub parts : List Part
  pub commands : map script_of parts ≡ script
  pub lines : flat_map part_text parts ++ last_text (length_of h) (length (live_of h)) ≡ text
  pub clients : All (λ (p : Placed). by_of p.entry < length script) (past h0 h)
  pub stand : AllSay index h0 h 0 parts
