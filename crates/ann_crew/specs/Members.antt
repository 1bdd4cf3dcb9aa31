-- A worker that draws pieces.
use Rattle.std.specs.Prelude.{◌≡◌, ◌+◌, ℕ, List, [], ◌∷◌, ◌++◌, true, Option, Some, None, map, All}
use Rattle.ann_claim.specs.Claims.{Lot, Drawer, newcomer_of}
use Rattle.ann_mdelete.specs.declared.refused.WorkRefused.{WorkRefused}
use Rattle.ann_crew.specs.declared.member.Member.{Member}
use Rattle.ann_crew.specs.declared.member.Drawn.{Drawn}

-- it has drawn nothing yet
pub record IsFresh {W P : Type 0} (lot : Lot) (m : Member W P) : Type 0 where
  pub claimer : m.claimer ≡ newcomer_of lot
  pub results : m.results.items ≡ []
  pub calm : m.refusal ≡ None

-- these are the results of the numbers drawn, in order, where pieces are counted from the first one on
pub record AreResults {P : Type 0} (is_piece : ℕ → P → Type 0) (first : ℕ) (drawn : List ℕ) (results : List (ℕ × P)) : Type 0 where
  pub numbers : map (λ r. r.0) results ≡ drawn
  pub pieces : All (λ r. is_piece (first + r.0) r.1) results

-- a result more stands behind the others
pub record HasResult {P : Type 0} (is_piece : ℕ → P → Type 0) (first number : ℕ) (old new : List (ℕ × P)) : Type 0 where
  pub piece : P
  pub sound : is_piece (first + number) piece
  pub added : new ≡ old ++ (number, piece) ∷ []

-- a number was taken in: its piece was done and its result kept, or the work was refused, or it had been before
pub record HasDone {W P : Type 0} (goes : W → W → Type 0) (causes : W → W → WorkRefused → Type 0) (is_piece : ℕ → P → Type 0) (first number : ℕ) (old new : Member W P) : Type 0 where
  pub claimer : new.claimer ≡ old.claimer
  pub moved : goes old.worker new.worker
  pub calm : new.refusal ≡ None → old.refusal ≡ None
  pub result : new.refusal ≡ None → HasResult is_piece first number old.results.items new.results.items
  pub refused : (why : WorkRefused) → new.refusal ≡ Some why → old.refusal ≡ None → causes old.worker new.worker why
  pub kept : (why : WorkRefused) → old.refusal ≡ Some why → new ≡ old

-- it has drawn until nothing was left, and has the results of all that it drew, unless it was refused
pub record HasDrawn {W P : Type 0} (goes : W → W → Type 0) (causes : W → W → WorkRefused → Type 0) (is_piece : ℕ → P → Type 0) (first : ℕ) (lot : Lot) (old new : Member W P) : Type 0 where
  pub own : new.claimer.lot ≡ lot
  pub ended : new.claimer.ended ≡ true
  pub moved : goes old.worker new.worker
  pub done : new.refusal ≡ None → AreResults is_piece first new.claimer.drawn new.results.items
  pub refused : (why : WorkRefused) → new.refusal ≡ Some why → causes old.worker new.worker why

abbrev pub worker_of : {W P : Type 0} → Member W P → W
worker_of m = m.worker

-- what stays of it once its worker has gone back
abbrev pub drawn_of : {W P : Type 0} → Member W P → Drawn P
drawn_of m = record { claimer = m.claimer; results = m.results; refusal = m.refusal }

abbrev pub number_of : {P : Type 0} → ℕ × P → ℕ
number_of r = r.0

abbrev pub piece_of : {P : Type 0} → ℕ × P → P
piece_of r = r.1

-- it was told that nothing is left, and has a result for each number that it drew, unless it was refused
pub record IsEnded {P : Type 0} (lot : Lot) (d : Drawn P) : Type 0 where
  pub own : d.claimer.lot ≡ lot
  pub ended : d.claimer.ended ≡ true
  pub numbers : d.refusal ≡ None → map number_of d.results.items ≡ d.claimer.drawn

-- on its way: it has the results of what it drew so far, unless it was refused
pub record IsDrawing {W P : Type 0} (goes : W → W → Type 0) (causes : W → W → WorkRefused → Type 0) (is_piece : ℕ → P → Type 0) (first : ℕ) (lot : Lot) (old new : Member W P) : Type 0 where
  pub own : new.claimer.lot ≡ lot
  pub moved : goes old.worker new.worker
  pub done : new.refusal ≡ None → AreResults is_piece first new.claimer.drawn new.results.items
  pub refused : (why : WorkRefused) → new.refusal ≡ Some why → causes old.worker new.worker why
