-- Reading an input piece by piece.
use Rattle.std.proofs.Common.{◌≡◌, ◌≤◌, ◌<◌, ◌+◌, ℕ, inl, inr, List, [], ◌++◌, length, take, refl, sym, ap, subst, ◌∙◌, arith, append-nil, length-append}
use Rattle.std.specs.Prelude.{Option, Result, Ok, Err, IfErr, IsErrAnd}
use Rattle.std.specs.Io.KnownBytes.{Consumes, Keeps, IsAtEnd}
use Rattle.std.proofs.KnownBytes.{Consumes-trans, Consumes-kept}
use Rattle.ann_init.specs.Input.{limit, IsRead, IsCut, BreaksOff}

-- a read failed behind these bytes
pub cut : (a b c : Option (List ℕ)) (bytes : List ℕ) → Consumes a b bytes → Keeps b c → length bytes < limit → IsCut a c
cut a b c bytes read kept short = record { bytes = bytes; read = Consumes-kept a b c bytes read kept; short = short }

-- the input ended behind them
pub ended : (a b c : Option (List ℕ)) (bytes piece : List ℕ) → Consumes a b bytes → Consumes b c piece → piece ≡ [] → IsAtEnd c → length bytes ≤ limit → IsRead a c bytes
ended a b c bytes piece read more none at_end short = record {
  read = subst (Consumes a c) (ap (λ t. bytes ++ t) none ∙ append-nil bytes) (Consumes-trans a b c bytes piece read more);
  short = short;
  whole = inl at_end;
}

-- there was no memory for one more piece
pub broken : (a b c : Option (List ℕ)) (bytes piece : List ℕ) → Consumes a b bytes → Consumes b c piece → length bytes + length piece ≤ limit → BreaksOff a c
broken a b c bytes piece read more short = record {
  bytes = bytes ++ piece;
  read = Consumes-trans a b c bytes piece read more;
  short = omega (arith, length-append bytes piece);
}

-- a refusal that is this one, of which this is true
pub if_err : {T E : Type 0} (result : Result T E) (P : E → Type 0) (e : E) → IsErrAnd result (λ x. x ≡ e) → P e → IfErr result P
if_err (Ok x) P e is p = tt
if_err (Err x) P e is p = subst P (sym is) p
