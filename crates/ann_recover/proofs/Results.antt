-- More is said of what was got, and of a refusal.
use Rattle.std.proofs.Common.{Result, Ok, Err}
use Rattle.std.specs.Prelude.{MatchResult}

pub both : {T E : Type 0} (r : Result T E) (P Q : T → Type 0) (R U : E → Type 0) → ((x : T) → P x → Q x) → ((e : E) → R e → U e) → MatchResult r P R → MatchResult r Q U
both (Ok x) P Q R U got refused is = got x is
both (Err e) P Q R U got refused is = refused e is
