use Rattle.std.proofs.Common.{◌≡◌, ◌≤◌, List, ℕ, Option, Some, None, Result, Ok, Err, IfOk, sym, arith}
use Rattle.std.specs.Prelude.{IfSome}
use Rattle.ann_preamble.specs.Preamble.{preamble_of, said_by, said_by_found}
use Rattle.ann_preamble.specs.Reading.{IsSoundIn, IsWrittenIn, IsSaidBefore}
use Rattle.ann_preamble.specs.declared.preamble.Preamble.{Preamble}
use Rattle.ann_preamble.proofs.Agreed.{said_before, sound_in, fronts}
use Rattle.ann_preamble.proofs.Grammar.{grammar}
use Rattle.ann_preamble.proofs.preamble.Preamble.read.Goals as goal

-- what is true of a preamble with which bytes begin is true of the one that was found
module _ (bytes : List ℕ) (P : Preamble → Type 0) (law : (p : Preamble) → preamble_of bytes ≡ Some (said_by p) → P p) where
  of_found : (found : Option Preamble) → said_by_found found ≡ preamble_of bytes → IfSome found P
  of_found None is = tt
  of_found (Some p) is = law p (sym is)

  of_result : {E : Type 0} (result : Result (Option Preamble) E) → IfOk result (λ found. said_by_found found ≡ preamble_of bytes) → IfOk result (λ found. IfSome found P)
  of_result (Ok found) is = of_found found is
  of_result (Err e) is = is

pub returns-clause-sound : goal.returns-clause-sound
returns-clause-sound c =
    let bytes = c.args.bytes.now in
    of_result bytes (λ p. IsSoundIn bytes (said_by p)) (λ p. sound_in bytes (said_by p)) c.preamble_in.result c.preamble_in.ensures

pub returns-clause-grammar : goal.returns-clause-grammar
returns-clause-grammar c =
    let bytes = c.args.bytes.now in
    of_result bytes (λ p. 1 ≤ p.generation → IsWrittenIn bytes p) (grammar bytes (λ i. omega (arith, c.type_inv.bytes i))) c.preamble_in.result c.preamble_in.ensures

pub returns-clause-before_the_gate : goal.returns-clause-before_the_gate
returns-clause-before_the_gate c =
    let bytes = c.args.bytes.now in
    of_result bytes (λ p. IsSaidBefore bytes (said_by p)) (λ p. said_before bytes (said_by p)) c.preamble_in.result c.preamble_in.ensures

pub returns-clause-fronts : goal.returns-clause-fronts
returns-clause-fronts c = fronts c.args.bytes.now
