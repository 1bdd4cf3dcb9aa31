-- What holds of each element of a list.
use Rattle.std.proofs.Common.{◌≡◌, ℕ, zero, suc, ◌<◌, List, [], ◌∷◌, length, get_or, sym, subst, arith}
use Rattle.std.specs.List.{AllByRecursion}

pub all_at : {X : Type 0} (P : X → Type 0) (xs : List X) (i : ℕ) (x : X) → AllByRecursion P xs → i < length xs → x ≡ get_or xs i x → P x
all_at P [] i x each inside is = absurd (omega (arith, inside))
all_at P (y ∷ xs) zero x each inside is = subst P (sym is) each.0
all_at P (y ∷ xs) (suc i) x each inside is = all_at P xs i x each.1 (omega (arith, inside)) is
