-- Causes, as calls come one after the other.
use Rattle.std.proofs.Common.{◌≡◌, ℕ, ◌≤◌, List, [], ◌∷◌, ◌++◌, refl, sym, subst, arith, length, get_or, inl, inr}
use Rattle.std.proofs.lemmas.Bool.{cases_lt}
use Rattle.std.proofs.lemmas.List.{get_or_past}
use Rattle.ann_transcript.specs.declared.reply.UpdateWord.{UpdateWord}
use Rattle.ann_transcript.specs.declared.reply.UpdateWord.TheVariants.{Dimension, Full, Present, Absent, LogFault, Stopped, Memory, MemoryLogged}
use Rattle.ann_said.specs.Said.{Line}
use Rattle.ann_connection.specs.Causes.{UpdateCause, IsReplyCaused, AreCaused}
use Rattle.ann_connection.specs.Opening.{Counts, GoOn}

-- ---- counts go on

pub go_on_here : (counts : Counts) → GoOn counts counts
go_on_here counts = record { log = omega arith; eye = omega arith; door = omega arith; merge = λ i within. omega arith }

pub go_on : (before between now : Counts) → GoOn before between → GoOn between now → GoOn before now
go_on before between now first next =
    let log = first.log in
    let log' = next.log in
    let eye = first.eye in
    let eye' = next.eye in
    let door = first.door in
    let door' = next.door in
    record {
      log = omega (arith, log, log');
      eye = omega (arith, eye, eye');
      door = omega (arith, door, door');
      merge = λ i within. each i (first.merge i within);
    }
  where
    each : (i : ℕ) → get_or before.merge i 0 ≤ get_or between.merge i 0 → get_or before.merge i 0 ≤ get_or now.merge i 0
    each i first = elim (cases_lt i (length between.merge)) [
      | inl within ↦ (let more = next.merge i within in omega (arith, first, more))
      | inr past ↦ (let none = get_or_past between.merge i 0 past in omega (arith, first, none))
    ]

-- a fault of a later call
pub update_earlier : (alone : Type 0) (first before between now : Counts) (why : UpdateWord) → GoOn before between → UpdateCause alone first between now why → UpdateCause alone first before now why
update_earlier alone first before between now (Dimension place got want at) on cause = tt
update_earlier alone first before between now (Full place at) on cause = tt
update_earlier alone first before between now (Present place tag at) on cause = tt
update_earlier alone first before between now (Absent place tag at) on cause = tt
update_earlier alone first before between now LogFault on cause = (let log = on.log in omega (arith, log, cause))
update_earlier alone first before between now (Stopped at) on cause = cause
update_earlier alone first before between now Memory on cause = tt
update_earlier alone first before between now (MemoryLogged at) on cause = tt

-- ---- the lines so far

-- from these counts to those they have their causes
abbrev pub AreCausedTo : Type 0 → Counts → Counts → List Line → Counts → Type 0
AreCausedTo alone first before [] now = before ≡ now
AreCausedTo alone first before (l ∷ ls) now = (between : Counts) × IsReplyCaused alone first before between l.reply × AreCausedTo alone first between ls now

pub caused_push : (alone : Type 0) (first before between now : Counts) (lines : List Line) (l : Line) → AreCausedTo alone first before lines between → IsReplyCaused alone first between now l.reply → AreCausedTo alone first before (lines ++ l ∷ []) now
caused_push alone first before between now [] l here cause = (now, subst (λ (counts : Counts). IsReplyCaused alone first counts now l.reply) (sym here) cause, refl)
caused_push alone first before between now (x ∷ lines) l so_far cause = (so_far.0, so_far.1, caused_push alone first so_far.0 between now lines l so_far.2 cause)

pub caused_all : (alone : Type 0) (first before now : Counts) (lines : List Line) → AreCausedTo alone first before lines now → AreCaused alone first before lines now
caused_all alone first before now [] here = subst (GoOn before) here (go_on_here before)
caused_all alone first before now (x ∷ lines) so_far = (so_far.0, so_far.1, caused_all alone first so_far.0 now lines so_far.2)

-- no count has fallen behind them
pub caused_on : (alone : Type 0) (first before now : Counts) (lines : List Line) → AreCausedTo alone first before lines now → GoOn before now
caused_on alone first before now [] here = subst (GoOn before) here (go_on_here before)
caused_on alone first before now (x ∷ lines) so_far = go_on before so_far.0 now so_far.1.on (caused_on alone first so_far.0 now lines so_far.2)
