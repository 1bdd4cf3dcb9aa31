-- How runs of calls over two files go on.
use Rattle.std.proofs.Common.{◌≡◌, ℕ, List, [], ◌∷◌, ◌++◌, refl, subst, Result, OnOk, OnErr}
use Rattle.ann_disk.specs.File.{LeavesOnly, IsUntouched}
use Rattle.ann_disk.specs.Image.{Unsynced, IsImage, EachImage, clean}
use Rattle.ann_fault.specs.declared.faults.Failed.{Failed}
use Rattle.ann_disk.proofs.Images.{clean_only}
use Rattle.ann_disk.proofs.Moments.{started, after_sync, weaker, unchanged}
use Rattle.ann_preamble.specs.declared.choice.Side.{Side}
use Rattle.ann_preamble.specs.declared.choice.Side.TheVariants.{First, Second}
use Rattle.ann_log.specs.LogView.{files_in}
use Rattle.ann_log.specs.Pairs.{EachPair, LeaveBoth, InTurn, LeavePairs, AreUntouched}
use Rattle.ann_log.specs.declared.files.Files.{Files}

-- the log's bytes and the other file's, put in the order of the files
abbrev pub OnSide : Side → (List ℕ → List ℕ → Type 0) → List ℕ → List ℕ → Type 0
OnSide First P log other = P log other
OnSide Second P log other = P other log

module _ {F : Type 0} (past : F → List Unsynced) (unsynced : F → Unsynced) where
  -- nothing was done
  pub idle : (file : F) (P : List ℕ → Type 0) → EachImage P (unsynced file) → LeavesOnly past unsynced file file P
  idle file P each = started past unsynced file file P refl each

  -- a file at rest has one image
  pub resting : (file : F) (bytes : List ℕ) → unsynced file ≡ clean bytes → LeavesOnly past unsynced file file (λ image. image ≡ bytes)
  resting file bytes rest = idle file (λ image. image ≡ bytes) (λ image is. clean_only bytes image (subst (λ u. IsImage u image) rest is))

  -- a sync, whatever it answers
  pub by_sync : (seen : F → List ℕ) (old new : F) (bytes : List ℕ) (r : Result (Unit {0}) Failed) → OnOk r (unsynced new ≡ clean bytes) → OnOk r (past new ≡ past old ++ unsynced old ∷ []) → OnErr r (IsUntouched seen unsynced past old new) → IsImage (unsynced old) bytes → LeavesOnly past unsynced old new (IsImage (unsynced old))
  by_sync seen old new bytes r images history failed here =
      after_sync past unsynced seen old old new (IsImage (unsynced old)) bytes r (idle old (IsImage (unsynced old)) (λ image is. is)) images history failed here

  -- the moments of the one file with those of the other
  pub at_once : (old new : Files F) (A B : List ℕ → Type 0) (P : List ℕ → List ℕ → Type 0) → ((a b : List ℕ) → A a → B b → P a b) → LeavesOnly past unsynced old.first new.first A → LeavesOnly past unsynced old.second new.second B → LeavePairs past unsynced old new P
  at_once old new A B P holds first second = record {
    stops = [];
    turns = weaker past unsynced old.first new.first A (λ a. LeavesOnly past unsynced old.second new.second (P a))
        (λ a is_a. weaker past unsynced old.second new.second B (P a) (λ b is_b. holds a b is_a is_b) second) first;
  }

  pub in_side : (side : Side) (log log' other other' : F) (A B : List ℕ → Type 0) (P : List ℕ → List ℕ → Type 0) → ((a b : List ℕ) → A a → B b → OnSide side P a b) → LeavesOnly past unsynced log log' A → LeavesOnly past unsynced other other' B → LeavePairs past unsynced (files_in side log other) (files_in side log' other') P
  in_side First log log' other other' A B P holds one two = at_once (files_in First log other) (files_in First log' other') A B P holds one two
  in_side Second log log' other other' A B P holds one two = at_once (files_in Second log other) (files_in Second log' other') B A P (λ b a is_b is_a. holds a b is_a is_b) two one

  -- less is said
  weaker_both : (old new : Files F) (P Q : List ℕ → List ℕ → Type 0) → ((a b : List ℕ) → P a b → Q a b) → LeaveBoth past unsynced old new P → LeaveBoth past unsynced old new Q
  weaker_both old new P Q less run =
      weaker past unsynced old.first new.first (λ a. LeavesOnly past unsynced old.second new.second (P a)) (λ a. LeavesOnly past unsynced old.second new.second (Q a))
      (λ a. weaker past unsynced old.second new.second (P a) (Q a) (less a)) run

  weaker_turns : (stops : List (Files F)) (old new : Files F) (P Q : List ℕ → List ℕ → Type 0) → ((a b : List ℕ) → P a b → Q a b) → InTurn past unsynced stops old new P → InTurn past unsynced stops old new Q
  weaker_turns [] old new P Q less run = weaker_both old new P Q less run
  weaker_turns (stop ∷ stops) old new P Q less run = (weaker_both old stop P Q less run.0, weaker_turns stops stop new P Q less run.1)

  pub weaker_pairs : (old new : Files F) (P Q : List ℕ → List ℕ → Type 0) → ((a b : List ℕ) → P a b → Q a b) → LeavePairs past unsynced old new P → LeavePairs past unsynced old new Q
  weaker_pairs old new P Q less run = record { stops = run.stops; turns = weaker_turns run.stops old new P Q less run.turns }

  -- the last state
  last_turn : (stops : List (Files F)) (old new : Files F) (P : List ℕ → List ℕ → Type 0) → InTurn past unsynced stops old new P → EachPair unsynced P new
  last_turn [] old new P run = λ first is_first. (run.now first is_first).now
  last_turn (stop ∷ stops) old new P run = last_turn stops stop new P run.1

  pub last_pair : (old new : Files F) (P : List ℕ → List ℕ → Type 0) → LeavePairs past unsynced old new P → EachPair unsynced P new
  last_pair old new P run = last_turn run.stops old new P run.turns

  -- one run behind another
  joined_turns : (stops more : List (Files F)) (old mid new : Files F) (P : List ℕ → List ℕ → Type 0) → InTurn past unsynced stops old mid P → InTurn past unsynced more mid new P → InTurn past unsynced (stops ++ mid ∷ more) old new P
  joined_turns [] more old mid new P first second = (first, second)
  joined_turns (stop ∷ stops) more old mid new P first second = (first.0, joined_turns stops more stop mid new P first.1 second)

  pub joined_pairs : (old mid new : Files F) (P : List ℕ → List ℕ → Type 0) → LeavePairs past unsynced old mid P → LeavePairs past unsynced mid new P → LeavePairs past unsynced old new P
  joined_pairs old mid new P first second = record { stops = first.stops ++ mid ∷ second.stops; turns = joined_turns first.stops second.stops old mid new P first.turns second.turns }

  -- reads behind a run
  module _ (seen : F → List ℕ) (mid new : Files F) (P : List ℕ → List ℕ → Type 0) (same : AreUntouched seen unsynced past mid new) where
    still_both : (old : Files F) → LeaveBoth past unsynced old mid P → LeaveBoth past unsynced old new P
    still_both old run =
        unchanged past unsynced old.first mid.first new.first (λ a. LeavesOnly past unsynced old.second new.second (P a))
        (weaker past unsynced old.first mid.first (λ a. LeavesOnly past unsynced old.second mid.second (P a)) (λ a. LeavesOnly past unsynced old.second new.second (P a))
        (λ a second. unchanged past unsynced old.second mid.second new.second (P a) second same.1.leaves same.1.clock) run)
        same.0.leaves same.0.clock

    still_turns : (stops : List (Files F)) (old : Files F) → InTurn past unsynced stops old mid P → InTurn past unsynced stops old new P
    still_turns [] old run = still_both old run
    still_turns (stop ∷ stops) old run = (run.0, still_turns stops stop run.1)

    pub still : (old : Files F) → LeavePairs past unsynced old mid P → LeavePairs past unsynced old new P
    still old run = record { stops = run.stops; turns = still_turns run.stops old run.turns }
