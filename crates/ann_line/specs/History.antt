-- The history of a list: links from one key to the next, and the list of those from a key on.
use Rattle.std.specs.Prelude.{ℕ, ◌≡◌, ◌≢◌, ◌==◌, ◌<◌, true, cond, List, [], ◌∷◌, ◌++◌, length}
use Rattle.logbook.specs.Pages.{Cell, cell, Book, Named}
use Rattle.ann_types.specs.Lists.{BasedList, with_entries}
use Rattle.ann_types.specs.declared.entry.Entry.{Entry}
use Rattle.ann_line.specs.declared.history.Link.{Link}

-- where a history begins: its book, and the first key
pub record Origin : Type 0 where
  pub book : Book
  pub root : ℕ

abbrev pub no_origin : Origin
no_origin = record { book = record { number = 0; log_name = 0; cells_name = 0 }; root = 0 }

-- the word of a book on which steps are made
abbrev pub head_of : Book → Named
head_of book = record { tracked = true; key = 0; book = book }

-- ---- the list

-- the entries from a key on: those of the first link that goes on from it, and then of the keys that it leads to
abbrev pub line : ℕ → List Link → List Entry
line key [] = []
line key (x ∷ xs) = cond (x.from == key) (x.entries ++ line x.to xs) (line key xs)

-- the key that the next link has to go on from
abbrev pub key_after : ℕ → List Link → ℕ
key_after key [] = key
key_after key (x ∷ xs) = cond (x.from == key) (key_after x.to xs) (key_after key xs)

-- an opening list with the entries from a key on
abbrev pub listed : BasedList → ℕ → List Link → BasedList
listed opening root log = with_entries opening (line root log)

-- ---- the rule

-- no link goes on from the key
abbrev pub IsOff : ℕ → List Link → Type 0
IsOff key [] = Unit {0}
IsOff key (x ∷ xs) = (x.from ≢ key) × IsOff key xs

-- the key's word is at home
abbrev pub IsHome : List Cell → ℕ → Type 0
IsHome cells key = (cell cells key).1 ≡ true

-- those of the keys that links go on from are
abbrev pub AreHome : List Cell → List Link → Type 0
AreHome cells [] = Unit {0}
AreHome cells (x ∷ xs) = IsHome cells x.from × AreHome cells xs

-- they are, and so is the word on which steps are made
pub record IsKept (cells : List Cell) (log : List Link) : Type 0 where
  pub some_cell : 0 < length cells
  pub base : IsHome cells 0
  pub each : AreHome cells log
