-- Truth values, and the tests of numbers that give them.
use Rattle.std.proofs.Common.{◌≡◌, ◌≢◌, ℕ, Bool, true, false, eqb, not, ◌==◌, ◌&&◌, ◌||◌, refl, sym, eqb-true, eq-eqb}
use Rattle.std.proofs.lemmas.Bool.{false≢true, both_ways, ne_eqb}
use Rattle.std.proofs.lemmas.Bool.Decides.{Decides-eqb}

pub or_false : (a : Bool) → (a || false) ≡ a
or_false true = refl
or_false false = refl

pub or_assoc : (a b c : Bool) → (a || (b || c)) ≡ ((a || b) || c)
or_assoc true b c = refl
or_assoc false b c = refl

pub or_swap : (a b c : Bool) → (a || (b || c)) ≡ (b || (a || c))
or_swap true true c = refl
or_swap true false c = refl
or_swap false b c = refl

pub or_twice : (a b : Bool) → (a || (a || b)) ≡ (a || b)
or_twice true b = refl
or_twice false b = refl

pub and_false : (a : Bool) → (a && false) ≡ false
and_false true = refl
and_false false = refl

pub and_comm : (a b : Bool) → (a && b) ≡ (b && a)
and_comm true true = refl
and_comm true false = refl
and_comm false true = refl
and_comm false false = refl

pub both : (a b : Bool) → (a && b) ≡ true → (a ≡ true) × (b ≡ true)
both true b is = (refl, is)
both false b is = absurd (false≢true is)

pub neither : (a b : Bool) → (a || b) ≡ false → (a ≡ false) × (b ≡ false)
neither true b is = absurd (false≢true (sym is))
neither false b is = (refl, is)

-- a test that is not met
pub not_true : (a : Bool) → not a ≡ true → a ≡ false
not_true true is = absurd (false≢true is)
not_true false is = refl

-- ---- tests of numbers

pub eqb_sym : (x y : ℕ) → eqb x y ≡ eqb y x
eqb_sym x y = elim (eqb x y) as (λ t. eqb x y ≡ t → t ≡ eqb y x) [
  | true ↦ λ e. sym (eq-eqb y x (sym (eqb-true x y e)))
  | false ↦ λ e. sym (ne_eqb y x (λ s. both_ways (eqb x y) e (eq-eqb x y (sym s))))
] refl

pub same_true : (x y : ℕ) → x ≡ y → (x == y) ≡ true
same_true x y is = (Decides-eqb x y).1 is

pub not_same : (x y : ℕ) → x ≢ y → (x == y) ≡ false
not_same x y differ = elim (x == y) as (λ t. (x == y) ≡ t → t ≡ false) [
  | true ↦ λ is. absurd (differ ((Decides-eqb x y).0 is))
  | false ↦ λ is. refl
] refl
