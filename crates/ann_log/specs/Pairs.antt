-- What a crash leaves of two files.
use Rattle.std.specs.Prelude.{◌≡◌, ℕ, List, [], ◌∷◌}
use Rattle.ann_disk.specs.File.{LeavesOnly, Cut, IsUntouched}
use Rattle.ann_disk.specs.Image.{Unsynced, IsImage, EachImage}
use Rattle.ann_preamble.specs.declared.choice.Side.{Side}
use Rattle.ann_log.specs.LogView.{on_side, off_side}
use Rattle.ann_log.specs.Text.{log_text}
use Rattle.ann_log.specs.declared.files.Files.{Files}

-- each image of the one file with each image of the other
abbrev pub EachPair : {F : Type 0} → (F → Unsynced) → (List ℕ → List ℕ → Type 0) → Files F → Type 0
EachPair unsynced P files = EachImage (λ first. EachImage (P first) (unsynced files.second)) (unsynced files.first)

module _ {F : Type 0} (past : F → List Unsynced) (unsynced : F → Unsynced) where
  -- A crash at any moment since old leaves two files that have P, also where one of them is as at one such moment and the
  -- other as at another.
  abbrev pub LeaveBoth : Files F → Files F → (List ℕ → List ℕ → Type 0) → Type 0
  LeaveBoth old new P = LeavesOnly past unsynced old.first new.first (λ first. LeavesOnly past unsynced old.second new.second (P first))

  -- so it is from each of these states to the next
  abbrev pub InTurn : List (Files F) → Files F → Files F → (List ℕ → List ℕ → Type 0) → Type 0
  InTurn [] old new P = LeaveBoth old new P
  InTurn (stop ∷ stops) old new P = LeaveBoth old stop P × InTurn stops stop new P

  -- A crash at any moment since old leaves two files that have P. Between two stops the moments of the one file stand
  -- with those of the other in any order, so a call that needs an order has a stop there. Any call of a file may fail, and
  -- what stands then is the last of these states; so no choice of stops hides an order that is wrong.
  pub record LeavePairs (old new : Files F) (P : List ℕ → List ℕ → Type 0) : Type 0 where
    pub stops : List (Files F)
    pub turns : InTurn stops old new P

-- they read as some images of the files did
pub record ReadAsBefore (u v : Unsynced) (first second : List ℕ) : Type 0 where
  pub one : List ℕ
  pub two : List ℕ
  pub first_image : IsImage u one
  pub second_image : IsImage v two
  pub same : log_text first second ≡ log_text one two

-- the log's file may be cut at this place, and the other one is as it was
abbrev pub MayBeCut : Side → ℕ → List ℕ → List ℕ → List ℕ → List ℕ → Type 0
MayBeCut side to first second one two = Cut to (on_side side first second) (on_side side one two) × (off_side side one two ≡ off_side side first second)

-- they are images
abbrev pub AreImages : Unsynced → Unsynced → List ℕ → List ℕ → Type 0
AreImages u v first second = IsImage u first × IsImage v second

-- no call changed what a read gives, or what a crash may leave
abbrev pub AreUntouched : {F : Type 0} → (F → List ℕ) → (F → Unsynced) → (F → List Unsynced) → Files F → Files F → Type 0
AreUntouched seen unsynced past old new = IsUntouched seen unsynced past old.first new.first × IsUntouched seen unsynced past old.second new.second
