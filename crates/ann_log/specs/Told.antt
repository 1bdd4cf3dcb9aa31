-- What is said of files where they tell what they hold.
use Rattle.std.specs.Prelude.{◌≡◌, ℕ, List}
use Rattle.ann_disk.specs.File.{LeavesOnly, IsUntouched}
use Rattle.ann_disk.specs.Image.{clean}
use Rattle.ann_disk.specs.declared.file.LogFile.{Ghosts}
use Rattle.ann_log.specs.Pairs.{EachPair, LeavePairs, AreUntouched}
use Rattle.ann_log.specs.declared.files.Files.{Files}

module _ {F : Type 0} (D : Ghosts F) where
  -- all of a file is on the disk
  abbrev pub IsSynced : F → Type 0
  IsSynced file = D.tells → D.unsynced file ≡ clean (D.seen file)

  pub record AreRested (files : Files F) : Type 0 where
    pub first : IsSynced files.first
    pub second : IsSynced files.second

  -- a crash at any moment since old leaves bytes that have P
  abbrev pub Leaves : F → F → (List ℕ → Type 0) → Type 0
  Leaves old new P = D.tells → LeavesOnly D.past D.unsynced old new P

  -- a crash at any moment since old leaves two files that have P
  abbrev pub LeaveFiles : Files F → Files F → (List ℕ → List ℕ → Type 0) → Type 0
  LeaveFiles old new P = D.tells → LeavePairs D.past D.unsynced old new P

  -- a crash now leaves two files that have P
  abbrev pub MayLeave : Files F → (List ℕ → List ℕ → Type 0) → Type 0
  MayLeave files P = D.tells → EachPair D.unsynced P files

  -- a call neither changed what a read gives, nor what a crash may leave
  abbrev pub IsSame : F → F → Type 0
  IsSame old new = D.tells → IsUntouched D.seen D.unsynced D.past old new

  abbrev pub AreSame : Files F → Files F → Type 0
  AreSame old new = D.tells → AreUntouched D.seen D.unsynced D.past old new

  -- both files hold what they held
  pub record HoldSame (old new : Files F) : Type 0 where
    pub first : D.seen new.first ≡ D.seen old.first
    pub second : D.seen new.second ≡ D.seen old.second
