-- What becomes of the retired segments where they are cleared.
use Rattle.std.specs.Prelude.{◌≡◌, ◌≢◌, ◌==◌, ◌++◌, ◌⊎◌, ℕ, Bool, true, List, None, All, length}
use Rattle.std.specs.Bool.{MatchBool}
use Rattle.std.specs.FinMap.{get}
use Rattle.std.specs.List.Sorted.{IsPermutation}
use Rattle.ann_fault.specs.Counts.{Rose}
use Rattle.ann_vault.specs.Held.{Holding}
use Rattle.ann_vault.specs.Reads.{more_reads}
use Rattle.ann_segment.specs.Segment.{SegmentView}
use Rattle.ann_stock.specs.Stock.{ToolsView, StockView, AtHand, GivenBack, Out}

-- no segment of a list has this number
abbrev pub HaveNot : {S : Type 0} → ℕ → List (SegmentView S) → Type 0
HaveNot number segments = All (λ s. s.number ≢ number) segments

-- a vault holds these segments no longer, those maybe, and all else as before
pub record IsWithout {S : Type 0} (removed failed : List (SegmentView S)) (old new : Holding) : Type 0 where
  pub gone : All (λ s. get new s.number ≡ None) removed
  pub others : (n : ℕ) → HaveNot n removed → HaveNot n failed → get new n ≡ get old n
  pub whole : (n : ℕ) → (get new n ≡ get old n) ⊎ (get new n ≡ None)

-- so many faults more; a count of faults rises as one of reads does
abbrev pub more_faults : ℕ → ℕ → ℕ
more_faults = more_reads

-- The retired segments are those that stay so, those that were removed from the vault, those whose removal failed, and those
-- with the number of the base. Each failure is a fault, and the answer is true where there was none.
pub record IsCleared {S : Type 0} (tells : Type 0) (base : ℕ) (retired stay : List (SegmentView S)) (old new : Holding) (before now : ℕ) (calm : Bool) : Type 0 where
  pub removed : List (SegmentView S)
  pub failed : List (SegmentView S)
  pub named : List (SegmentView S)
  pub parted : IsPermutation retired (stay ++ removed ++ failed ++ named)
  pub base_only : All (λ s. s.number ≡ base) named
  pub never_base : HaveNot base (stay ++ removed ++ failed)
  pub held : tells → IsWithout removed failed old new
  pub faults : now ≡ more_faults (length failed) before
  pub answer : calm ≡ (length failed == 0)
  pub rose : MatchBool calm (now ≡ before) (Rose before now)

-- they were cleared with the vault at hand; the eyes and the room are as before
pub record IsClearedAtHand {V E S : Type 0} (tells : Type 0) (held : V → Holding) (faults : V → ℕ) (base : ℕ) (vault : V) (eyes : List E) (old new : StockView V E S) (calm : Bool) : Type 0 where
  pub after : V
  pub tools : new.tools ≡ AtHand after eyes
  pub room : new.room ≡ old.room
  pub cleared : IsCleared tells base old.retired new.retired (held vault) (held after) (faults vault) (faults after) calm

-- a stock was cleared; where its vault isn't at hand, it is as before
module _ {V E S : Type 0} (tells : Type 0) (held : V → Holding) (faults : V → ℕ) (base : ℕ) where
  abbrev pub HasClearedBy : ToolsView V E S → StockView V E S → StockView V E S → Bool → Type 0
  HasClearedBy (AtHand vault eyes) old new calm = IsClearedAtHand tells held faults base vault eyes old new calm
  HasClearedBy (GivenBack job) old new calm = (new ≡ old) × (calm ≡ true)
  HasClearedBy Out old new calm = (new ≡ old) × (calm ≡ true)

  abbrev pub HasCleared : StockView V E S → StockView V E S → Bool → Type 0
  HasCleared old new calm = HasClearedBy old.tools old new calm
