-- What a caller sees of a chit.
use Rattle.std.specs.Prelude.{ℕ, ◌<◌, List, [], Option, Some, None, map}
use Rattle.std.specs.List.{range_with_len}
use Rattle.atomic_table.specs.declared.shared.Seat.{Seat}
use Rattle.ann_tally.specs.declared.numbers.Numbers.{Numbers}
use Rattle.ann_tally.specs.declared.rule.Hand.{Hand}
use Rattle.ann_tally.specs.Numbers.{zeros}
use Rattle.ann_tally.specs.Rule.{HasOne}
use Rattle.ann_tally.specs.Tally.{Roll}

-- a client's chit of one tally
pub record Slip : Type 0 where
  pub roll : Roll
  pub client : ℕ
  pub numbers : Numbers

abbrev pub slip : Roll → Numbers → ℕ → Slip
slip roll numbers client = record { roll = roll; client = client; numbers = numbers }

-- the chits of a new tally, one for each client, in order
abbrev pub first_slips : Roll → List Slip
first_slips roll = map (slip roll zeros) (range_with_len 0 roll.clients)

-- the tally that a seat belongs to
abbrev pub roll_of : Seat (Unit {0}) Hand → Roll
roll_of s = record { table_id = s.table_id; clients = s.me.0.clients }

abbrev pub no_roll : Roll
no_roll = record { table_id = record { words = 0; slots = 0; views_name = 0; atom = 0; block = 0; offset = 0; slot_names = [] }; clients = 0 }

-- what a chit stands for, while it has its seat
abbrev pub slip_of : Option (Seat (Unit {0}) Hand) → ℕ → Numbers → Slip
slip_of (Some s) client numbers = slip (roll_of s) numbers client
slip_of None client numbers = slip no_roll numbers client

-- the seat is there, and has this client's half and no other
abbrev pub HasHalf : Option (Seat (Unit {0}) Hand) → ℕ → Numbers → Type 0
HasHalf (Some s) client numbers = HasOne s.me.0.clients client numbers s.me × (client < s.me.0.clients)
HasHalf None client numbers = ⊥
