-- Rows that a prune kept stay settled where distances stay, and where a row that isn't below `newer` comes.
use Rattle.std.proofs.Common.{◌≡◌, ℕ, suc, ◌*◌, ◌≤◌, ◌<◌, true, false, ltb, leb, eqb, ◌||◌, ◌&&◌, List, [], ◌∷◌, ◌++◌, refl, sym, ap, subst, ◌∙◌, arith, inl, inr, eqb-true}
use Rattle.std.specs.List.{All, AllByRecursion}
use Rattle.std.proofs.lemmas.Bool.{false≢true}
use Rattle.ann_types.specs.Order.{has, before}
use Rattle.ann_types.specs.Kept.{Rule}
use Rattle.ann_types.proofs.Ordered.{has_cases}
use Rattle.ann_types.proofs.Neighbours.{holds_of}
use Rattle.ann_prune.specs.Newer.{AreSettled}

has_append : (xs : List ℕ) (y z : ℕ) → has (xs ++ y ∷ []) z ≡ true → z < y → has xs z ≡ true
has_append [] y z h l = elim (has_cases y z [] h) [ inl e ↦ absurd (let same = eqb-true z y e in omega arith) | inr m ↦ m ]
has_append (x ∷ xs) y z h l =
    elim (eqb z x) as (λ t. (t || has (xs ++ y ∷ []) z) ≡ true → (t || has xs z) ≡ true) [
      | true ↦ λ k. refl
      | false ↦ λ k. has_append xs y z k l
    ] h

pub settled_push : (rule : Rule) (apart : ℕ → ℕ → ℕ) (p newer : ℕ) (rows : List ℕ) (y : ℕ) → newer ≤ y → AreSettled rule apart p newer rows → AreSettled rule apart p newer (rows ++ y ∷ [])
settled_push rule apart p newer rows y l s = record {
  settled = λ k c h i m n b. s.settled k c (has_append rows y k h (omega arith)) (has_append rows y c i (omega arith)) m n b;
}

-- the same distances between rows below n
abbrev pub AreSame : ℕ → (ℕ → ℕ → ℕ) → (ℕ → ℕ → ℕ) → Type 0
AreSame n apart apart' = (x y : ℕ) → x < n → y < n → apart' x y ≡ apart x y

pub settled_same : (n : ℕ) (rule : Rule) (apart apart' : ℕ → ℕ → ℕ) (p newer : ℕ) (rows : List ℕ) → AreSame n apart apart' → p < n → All (λ row. row < n) rows → AreSettled rule apart p newer rows → AreSettled rule apart' p newer rows
settled_same n rule apart apart' p newer rows same h a s = record {
  settled = λ k c i j m o b.
      let k_in : k < n = holds_of (λ row. row < n) rows k a i in
      let c_in : c < n = holds_of (λ row. row < n) rows c a j in
      let to_k : apart' p k ≡ apart p k = same p k h k_in in
      let to_c : apart' p c ≡ apart p c = same p c h c_in in
      let between : apart' k c ≡ apart k c = same k c k_in c_in in
      let is_before : before (apart p) k c ≡ true =
      sym (ap (λ t. ltb t (apart' p c) || (eqb t (apart' p c) && ltb k c)) to_k ∙ ap (λ t. ltb (apart p k) t || (eqb (apart p k) t && ltb k c)) to_c) ∙ b in
      ap (λ t. leb (rule.a * rule.a * t) (rule.b * rule.b * apart' p c)) between
      ∙ ap (λ t. leb (rule.a * rule.a * apart k c) (rule.b * rule.b * t)) to_c
      ∙ s.settled k c i j m o is_before;
}
