-- What a crew gives.
use Rattle.std.specs.Prelude.{◌≡◌, ◌≢◌, ◌<◌, ◌+◌, ◌++◌, ℕ, List, [], ◌∷◌, length, get_or, map, flat_map, Some, None, All}
use Rattle.std.specs.List.{range_with_len}
use Rattle.std.specs.List.Sorted.{IsPermutation}
use Rattle.ann_claim.specs.Claims.{Drawer}
use Rattle.ann_mdelete.specs.declared.refused.WorkRefused.{WorkRefused}
use Rattle.ann_mdelete.specs.declared.refused.WorkRefused.TheVariants.{Memory}
use Rattle.ann_crew.specs.declared.member.Drawn.{Drawn}
use Rattle.ann_crew.specs.Members.{number_of, piece_of}

-- the pieces of so many numbers from the first one on, in order
pub record ArePieces {P : Type 0} (is_piece : ℕ → P → Type 0) (first count : ℕ) (pieces : List P) : Type 0 where
  pub many : length pieces ≡ count
  pub each : (i : ℕ) (d : P) → i < count → is_piece (first + i) (get_or pieces i d)

-- one of the workers brought this refusal
abbrev pub IsCaused : {W : Type 0} → (W → W → WorkRefused → Type 0) → List W → List W → WorkRefused → Type 0
IsCaused causes old new why = (i : ℕ) × (i < length old) × ((d : _) → causes (get_or old i d) (get_or new i d) why)

-- the workers of a crew stand where they stood, each as its pieces have left it
pub record AreWorked {W : Type 0} (goes : W → W → Type 0) (old new : List W) : Type 0 where
  pub same : length new ≡ length old
  pub each : (i : ℕ) (d : W) → i < length old → goes (get_or old i d) (get_or new i d)

-- ---- what was drawn, joined

-- none was refused: these are the claimers and all results, one after the other
pub record AreGathered {P : Type 0} (drawn : List (Drawn P)) (claimers : List Drawer) (results : List (ℕ × P)) : Type 0 where
  pub calm : All (λ d. d.refusal ≡ None) drawn
  pub drawers : claimers ≡ map (λ (d : Drawn P). d.claimer) drawn
  pub all : results ≡ flat_map (λ (d : Drawn P). d.results.items) drawn

-- it is want of memory, or one of them was refused so
abbrev pub IsRefusalOf : {P : Type 0} → List (Drawn P) → WorkRefused → Type 0
IsRefusalOf drawn why = why ≢ Memory → (i : ℕ) × (i < length drawn) × ((d : Drawn _) → (get_or drawn i d).refusal ≡ Some why)

-- none was refused: these are all results in order of their numbers, which are those below a limit
pub record AreSettled {P : Type 0} (drawn : List (Drawn P)) (count : ℕ) (pieces : List P) : Type 0 where
  pub ordered : List (ℕ × P)
  pub calm : All (λ d. d.refusal ≡ None) drawn
  pub same : IsPermutation (flat_map (λ (d : Drawn P). d.results.items) drawn) ordered
  pub numbers : map number_of ordered ≡ range_with_len 0 count
  pub alone : pieces ≡ map piece_of ordered
