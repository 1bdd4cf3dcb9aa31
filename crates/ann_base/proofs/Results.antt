-- More is said of what was got, or of a refusal.
use Rattle.std.proofs.Common.{◌≡◌, Result, Ok, Err, IfErr, OnOk, sym, subst}
use Rattle.std.specs.Prelude.{IsErrAnd}

module _ {T E : Type 0} where
  pub on_ok : (r : Result T E) (P Q : Type 0) → (P → Q) → OnOk r P → OnOk r Q
  on_ok (Ok x) P Q more is = more is
  on_ok (Err e) P Q more is = tt

  pub if_err : (r : Result T E) (P Q : E → Type 0) → ((e : E) → P e → Q e) → IfErr r P → IfErr r Q
  if_err (Ok x) P Q more is = tt
  if_err (Err e) P Q more is = more e is

  -- a refusal that is named
  pub err_is : (r : Result T E) (P : E → Type 0) (e : E) → IsErrAnd r (λ x. x ≡ e) → P e → IfErr r P
  err_is (Ok x) P e is holds = absurd is
  err_is (Err x) P e is holds = subst P (sym is) holds
