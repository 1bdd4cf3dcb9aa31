-- Sums over the views of all seats.
use Rattle.std.proofs.Common.{◌≡◌, ◌≢◌, ℕ, zero, suc, ◌+◌, ◌≤◌, List, [], ◌∷◌, ◌++◌, set, refl, sym, ap, subst, ⊎_elim, arith}
use mathlib.Core.Option.{some, some-ne-none, some-injective}
use lib.ListN.{get_elem?}
use Rattle.atomic_table.proofs.Lists.{at_set, at_snoc}
use Rattle.ann_claim.specs.declared.rule.Hand.{Hand}
use Rattle.ann_claim.specs.declared.rule.Limits.{Limits}
use Rattle.ann_claim.specs.Rule.{total, shares_of, Fits}

-- the total after a change of one view
pub total_set : (f : Hand → ℕ) (vs : List Hand) (i : ℕ) (v w : Hand) → get_elem? vs i ≡ some v → total f (set vs i w) + f v ≡ total f vs + f w
total_set f [] i v w e = absurd (some-ne-none v (sym e))
total_set f (x ∷ xs) zero v w e = let is : f x ≡ f v = ap f (some-injective x v e) in omega arith
total_set f (x ∷ xs) (suc i) v w e = let r = total_set f xs i v w e in omega arith

pub total_snoc : (f : Hand → ℕ) (vs : List Hand) (w : Hand) → total f (vs ++ w ∷ []) ≡ total f vs + f w
total_snoc f [] w = omega arith
total_snoc f (x ∷ xs) w = let r = total_snoc f xs w in omega arith

-- one view's part is at most the total
pub part_le : (f : Hand → ℕ) (vs : List Hand) (i : ℕ) (v : Hand) → get_elem? vs i ≡ some v → f v ≤ total f vs
part_le f [] i v e = absurd (some-ne-none v (sym e))
part_le f (x ∷ xs) zero v e = let is : f x ≡ f v = ap f (some-injective x v e) in omega arith
part_le f (x ∷ xs) (suc i) v e = let r = part_le f xs i v e in omega arith

pub total_le : (f g : Hand → ℕ) (vs : List Hand) → ((j : ℕ) (u : Hand) → get_elem? vs j ≡ some u → f u ≤ g u) → total f vs ≤ total g vs
total_le f g [] h = omega arith
total_le f g (x ∷ xs) h = let a = h 0 x refl in let r = total_le f g xs (λ j u e. h (suc j) u e) in omega arith

-- where no view has a share, f adds up to 0
none : (f : Hand → ℕ) (vs : List Hand) → ((j : ℕ) (u : Hand) → get_elem? vs j ≡ some u → u.shares ≡ 0 → f u ≡ 0) → total shares_of vs ≡ 0 → total f vs ≡ 0
none f [] h e = refl
none f (x ∷ xs) h e = let a = h 0 x refl (omega arith) in let r = none f xs (λ j u at z. h (suc j) u at z) (omega arith) in omega arith

-- where one view has all shares, it has all of f
pub alone : (f : Hand → ℕ) (vs : List Hand) (i : ℕ) (v : Hand) → get_elem? vs i ≡ some v → ((j : ℕ) (u : Hand) → get_elem? vs j ≡ some u → u.shares ≡ 0 → f u ≡ 0) → total shares_of vs ≡ v.shares → total f vs ≡ f v
alone f [] i v e h all = absurd (some-ne-none v (sym e))
alone f (x ∷ xs) zero v e h all =
    let same : f x ≡ f v = ap f (some-injective x v e) in
    let shares : x.shares ≡ v.shares = ap shares_of (some-injective x v e) in
    let r = none f xs (λ j u at z. h (suc j) u at z) (omega arith) in
    omega arith
alone f (x ∷ xs) (suc i) v e h all =
    let le = part_le shares_of xs i v e in
    let first = h 0 x refl (omega arith) in
    let r = alone f xs i v e (λ j u at z. h (suc j) u at z) (omega arith) in
    omega arith

pub fits_set : (limits : Limits) (vs : List Hand) (i : ℕ) (w : Hand) → Fits limits w → ((j : ℕ) (u : Hand) → get_elem? vs j ≡ some u → Fits limits u) → (j : ℕ) (u : Hand) → get_elem? (set vs i w) j ≡ some u → Fits limits u
fits_set limits vs i w new old j u e =
    ⊎_elim
    (λ (t : (j ≡ i) × (w ≡ u)). subst (λ (y : Hand). Fits limits y) t.1 new)
    (λ (t : (j ≢ i) × (get_elem? vs j ≡ some u)). old j u t.1)
    (at_set vs i j w u e)

pub fits_snoc : (limits : Limits) (vs : List Hand) (w : Hand) → Fits limits w → ((j : ℕ) (u : Hand) → get_elem? vs j ≡ some u → Fits limits u) → (j : ℕ) (u : Hand) → get_elem? (vs ++ w ∷ []) j ≡ some u → Fits limits u
fits_snoc limits vs w new old j u e =
    ⊎_elim (λ (t : get_elem? vs j ≡ some u). old j u t) (λ (t : w ≡ u). subst (λ (y : Hand). Fits limits y) t new) (at_snoc vs w u j e)
