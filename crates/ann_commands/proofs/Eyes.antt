-- The first of the eyes of a place.
use Rattle.std.proofs.Common.{◌≡◌, ℕ, List, [], ◌∷◌, length, slice_index_or, slice_set, sym, refl, ap, subst, arith}
use Rattle.std.specs.Prelude.{Option, Some, IsSomeAnd, drop}
use Rattle.std.proofs.Common.{Vec, Global}

pub first_of : {E : Type 0} (eyes : List E) (eye : E) → length eyes ≡ 16 → eye ≡ slice_index_or eyes 0 eye → eyes ≡ eye ∷ drop 1 eyes
first_of [] eye many is = absurd (omega (arith, many))
first_of (other ∷ rest) eye many is = ap (λ e. e ∷ rest) (sym is)

pub first_set : {E : Type 0} (eyes : List E) (eye : E) → length eyes ≡ 16 → slice_set eyes 0 eye ≡ eye ∷ drop 1 eyes
first_set [] eye many = absurd (omega (arith, many))
first_set (other ∷ rest) eye many = refl

-- as many as a whole place has
pub eyes_of : {E : Type 0} (workers : Option (Vec E Global)) (eyes : Vec E Global) → workers ≡ Some eyes → IsSomeAnd workers (λ eyes. length eyes.items ≡ 16) → length eyes.items ≡ 16
eyes_of workers eyes is whole = subst (λ w. IsSomeAnd w (λ eyes. length eyes.items ≡ 16)) is whole
