-- More is said of what was got, or of a refusal.
use Rattle.std.proofs.Common.{Result, Ok, Err, IfOk, IfErr, OnOk}

module _ {T E : Type 0} where
  pub if_ok : (r : Result T E) (P Q : T → Type 0) → ((x : T) → P x → Q x) → IfOk r P → IfOk r Q
  if_ok (Ok x) P Q more is = more x is
  if_ok (Err e) P Q more is = tt

  pub if_err : (r : Result T E) (P Q : E → Type 0) → ((e : E) → P e → Q e) → IfErr r P → IfErr r Q
  if_err (Ok x) P Q more is = tt
  if_err (Err e) P Q more is = more e is

  pub on_ok : (r : Result T E) (P : T → Type 0) (Q : Type 0) → ((x : T) → P x → Q) → IfOk r P → OnOk r Q
  on_ok (Ok x) P Q more is = more x is
  on_ok (Err e) P Q more is = tt
