-- The rule of the word that numbers are drawn from.
use Rattle.std.specs.Prelude.{◌≡◌, ℕ, ◌+◌, ◌-◌, ◌<◌, ◌≤◌, ◌^◌, min, List, [], ◌∷◌, ◌++◌, length, slice_index}
use mathlib.Core.Option.{some}
use lib.ListN.{get_elem?}
use Rattle.atomic_table.specs.Table.{State, Me, Step}
use Rattle.ann_claim.specs.declared.rule.Hand.{Hand}
use Rattle.ann_claim.specs.declared.rule.Limits.{Limits}
use Rattle.ann_claim.specs.Claims.{times, once_below, least_above, IsEachOnce}

abbrev pub hand : ℕ → ℕ → List ℕ → ℕ → ℕ → Hand
hand numbers seats drawn ended shares = record { numbers = numbers; seats = seats; drawn = drawn; ended = ended; shares = shares }

-- the first seat has every share
abbrev pub dealer : Limits → Hand
dealer limits = hand limits.numbers limits.seats [] 0 limits.seats

abbrev pub one_less : Hand → Hand
one_less v = hand v.numbers v.seats v.drawn v.ended (v.shares - 1)

abbrev pub newcomer : Hand → Hand
newcomer v = hand v.numbers v.seats [] 0 1

-- the second's numbers stand before the first's
abbrev pub together : Hand → Hand → Hand
together v w = hand v.numbers v.seats (w.drawn ++ v.drawn) (w.ended + v.ended) (w.shares + v.shares)

abbrev pub spent : Hand
spent = hand 0 0 [] 0 0

-- f of each view, added up
abbrev pub total : (Hand → ℕ) → List Hand → ℕ
total f [] = 0
total f (v ∷ vs) = f v + total f vs

abbrev pub shares_of : Hand → ℕ
shares_of v = v.shares

abbrev pub ended_in : Hand → ℕ
ended_in v = v.ended

abbrev pub times_in : ℕ → Hand → ℕ
times_in x v = times x v.drawn

-- what holds of each view
pub record Fits (limits : Limits) (v : Hand) : Type 0 where
  -- one with a share knows the limits
  pub knows : 0 < v.shares → (v.numbers ≡ limits.numbers) × (v.seats ≡ limits.seats)
  -- one with none has drawn nothing
  pub idle : v.shares ≡ 0 → v.drawn ≡ []
  -- no more claimers have ended in it than it has shares
  pub few : v.ended ≤ v.shares

-- the rule: what holds of the word and of all views between any two steps
pub record Fair {S : Type 0} (limits : Limits) (s : State S Hand) : Type 0 where
  pub one_word : length s.words ≡ 1
  -- so the word stays far below its type's end
  pub small : (limits.numbers < 2 ^ 32) × (limits.seats < 2 ^ 32)
  pub each : (j : ℕ) (v : Hand) → get_elem? s.views j ≡ some v → Fits limits v
  -- the shares of all views are those of all seats
  pub whole : total shares_of s.views ≡ limits.seats
  -- the numbers drawn are those below the word and the limit, each once
  pub once : (x : ℕ) → total (times_in x) s.views ≡ once_below x (min (slice_index s.words 0) limits.numbers)
  -- the word has gone past the limit at most once for each claimer that has ended
  pub most : slice_index s.words 0 ≤ limits.numbers + total ended_in s.views
  -- a claimer has ended only where no number was left
  pub past : 0 < total ended_in s.views → limits.numbers ≤ slice_index s.words 0

-- a number that was found below the limit is drawn, and one at the limit or above ends the claimer
abbrev pub Drew : {S : Type 0} → Step S → Me S Hand → ℕ → Me S Hand → Type 0
Drew st m found m' =
    (m'.1 ≡ m.1)
    × (found < m.0.numbers → (least_above m.0.drawn ≤ found) × (m'.0 ≡ hand m.0.numbers m.0.seats (m.0.drawn ++ found ∷ []) m.0.ended m.0.shares))
    × (m.0.numbers ≤ found → m'.0 ≡ hand m.0.numbers m.0.seats m.0.drawn 1 m.0.shares)

-- a seat with all shares, in which a claimer has ended, has all numbers
abbrev pub Settled : {S : Type 0} → Step S → Me S Hand → ℕ → Me S Hand → Type 0
Settled st m found m' = (m' ≡ m) × (m.0.shares ≡ m.0.seats → 0 < m.0.ended → IsEachOnce m.0.numbers m.0.drawn)
