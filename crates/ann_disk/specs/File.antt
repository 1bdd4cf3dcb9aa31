-- What the calls of a file do, and what a crash leaves during several of them.
use Rattle.std.specs.Prelude.{◌≡◌, ℕ, ◌+◌, ◌≤◌, max, List, ◌++◌, length, take, drop}
use Rattle.std.specs.List.{All}
use Rattle.ann_disk.specs.Image.{Unsynced, IsImage, EachImage}

-- old with these bytes at this place
abbrev pub overwritten : List ℕ → ℕ → List ℕ → List ℕ
overwritten old at bytes = take at old ++ bytes ++ drop (at + length bytes) old

-- What a write of n bytes may leave, where nothing else was unsynced: outside the range all is as it was.
pub record Torn (at n : ℕ) (old new : List ℕ) : Type 0 where
  pub before : take at new ≡ take at old
  pub after : drop (at + n) new ≡ drop (at + n) old
  pub no_shorter : length old ≤ length new
  pub no_longer : length new ≤ max (length old) (at + n)

-- What a cut may leave, where nothing else was unsynced: an end between.
pub record Cut (to : ℕ) (old new : List ℕ) : Type 0 where
  pub no_shorter : to ≤ length new
  pub front : take (length new) old ≡ new

-- A crash at any moment since old leaves bytes that have P.
-- `past` is what stood before each sync so far, and `unsynced` what stands now. Between two syncs a call only adds images,
-- so these are the images of all moments.
pub record LeavesOnly {F : Type 0} (past : F → List Unsynced) (unsynced : F → Unsynced) (old new : F) (P : List ℕ → Type 0) : Type 0 where
  pub ended : List Unsynced
  pub history : past new ≡ past old ++ ended
  pub each : All (EachImage P) ended
  pub now : EachImage P (unsynced new)

-- a call neither changed what a read gives, nor what a crash may leave
pub record IsUntouched {F : Type 0} (seen : F → List ℕ) (unsynced : F → Unsynced) (past : F → List Unsynced) (old new : F) : Type 0 where
  pub reads : seen new ≡ seen old
  pub leaves : unsynced new ≡ unsynced old
  pub clock : past new ≡ past old

-- some image of it begins with these bytes
abbrev pub BeginsAnImage : Unsynced → List ℕ → Type 0
BeginsAnImage u bytes = (image : List ℕ) × IsImage u image × (take (length bytes) image ≡ bytes)
