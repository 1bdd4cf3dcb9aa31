-- What the steps on a history tell.
use Rattle.std.specs.Prelude.{ℕ, ◌≡◌, List, [], ◌∷◌, ◌++◌}
use mathlib.Core.List.{IsPrefix}
use Rattle.logbook.specs.Pages.{Step, View, may_make}
use Rattle.ann_line.specs.History.{line, key_after, IsOff}
use Rattle.ann_line.specs.declared.history.Link.{Link}

-- a link that is not added
abbrev pub no_link : Link
no_link = record { from = 0; entries = []; to = 0 }

-- there is a new pen, and no link goes on from its key
abbrev pub Makes : Step Link → View Link ℕ → ℕ → View Link ℕ → Type 0
Makes step before found after =
    (after.1.0.right ≡ may_make) × (line after.1.0.key after.0 ≡ []) × (key_after after.1.0.key after.0 ≡ after.1.0.key)

-- the pen stays, and no link goes on from its key
abbrev pub Stays : Step Link → View Link ℕ → ℕ → View Link ℕ → Type 0
Stays step before found after = (after.1.0 ≡ before.1.0) × IsOff before.1.0.key after.0

-- no link went on from the pen's key, and now one does
abbrev pub Adds : Step Link → View Link ℕ → ℕ → View Link ℕ → Type 0
Adds step before found after =
    (log : List Link) × IsPrefix before.0 log × IsOff before.1.0.key log
    × (after.0 ≡ log ++ record { from = before.1.0.key; entries = step.ask.entries; to = step.ask.to } ∷ [])
