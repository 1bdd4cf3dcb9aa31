-- What a crash may leave of a file.
use Rattle.std.specs.Prelude.{◌≡◌, ℕ, ◌+◌, ◌-◌, ◌<◌, ◌≤◌, min, max, Bool, true, false, List, ◌++◌, length, take, drop, replicate, slice_index_or}

-- What was done to a file since the last sync that succeeded.
pub record Unsynced : Type 0 where
  -- the bytes at that sync
  pub kept : List ℕ
  -- for each of them, whether a write has covered it since
  pub covered : List Bool
  -- the least and the greatest end since
  pub low : ℕ
  pub high : ℕ

-- nothing was done
abbrev pub clean : List ℕ → Unsynced
clean bytes = record { kept = bytes; covered = replicate (length bytes) false; low = length bytes; high = length bytes }

-- with n places from this one on marked, or all that there are
abbrev pub marked : ℕ → ℕ → List Bool → List Bool
marked at n marks = take at marks ++ replicate (min n (length marks - at)) true ++ drop (at + n) marks

-- n bytes were written at a place, in whole or in part
abbrev pub after_write : ℕ → ℕ → Unsynced → Unsynced
after_write at n u = record u { covered = marked at n u.covered; high = max u.high (at + n) }

-- the file was cut to a length, or to one between
abbrev pub after_cut : ℕ → Unsynced → Unsynced
after_cut to u = record u { low = min u.low to }

-- this place has a mark, and no write has covered it
abbrev pub IsFree : List Bool → ℕ → Type 0
IsFree marks place = slice_index_or marks place true ≡ false

-- A crash may leave these bytes: the end is one between, and a byte that no write has covered is as it was.
pub record IsImage (u : Unsynced) (image : List ℕ) : Type 0 where
  pub no_shorter : u.low ≤ length image
  pub no_longer : length image ≤ u.high
  pub stays : (place : ℕ) → place < length image → place < length u.kept → IsFree u.covered place → slice_index_or image place 0 ≡ slice_index_or u.kept place 0

-- each image has P
abbrev pub EachImage : (List ℕ → Type 0) → Unsynced → Type 0
EachImage P u = (image : List ℕ) → IsImage u image → P image
