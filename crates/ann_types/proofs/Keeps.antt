-- The laws of pruning: what a point keeps is a set of its candidates, of at most R members.
use Rattle.std.proofs.Common.{◌≡◌, ℕ, ◌≤◌, Bool, true, false, cond, ltb, List, [], ◌∷◌, ◌++◌, refl, sym, ◌∙◌, arith, length, ltb-true, eq-eqb}
use Rattle.std.proofs.lemmas.Bool.{false≢true, and_parts, ltb-false}
use Rattle.std.proofs.lemmas.List.{length_push}
use Rattle.ann_types.specs.Order.{in_order, has}
use Rattle.ann_types.specs.Kept.{Rule, takes, keep, kept, within}
use Rattle.ann_types.proofs.Ordered.{has_here, has_later, has_in_order}
use Rattle.ann_types.proofs.Walks.{Inside, inside_append, inside_one}
use Rattle.ann_types.proofs.Sets.{Rises, has_ascending, rises_ascending, length_ascending}

keep_inside : (q : ℕ → Bool) (rule : Rule) (apart : ℕ → ℕ → ℕ) (p : ℕ) (ks cs : List ℕ) → Inside q ks → Inside q cs → Inside q (keep rule apart p ks cs)
keep_inside q rule apart p ks [] a b = a
keep_inside q rule apart p ks (c ∷ cs) a b =
    keep_inside q rule apart p (cond (takes rule apart p ks c) (ks ++ c ∷ []) ks) cs
    (elim (takes rule apart p ks c) as (λ t. Inside q (cond t (ks ++ c ∷ []) ks)) [ true ↦ inside_append q ks (c ∷ []) a (inside_one q c (b c (has_here c c cs (eq-eqb c c refl)))) | false ↦ a ])
    (λ r h. b r (has_later c r cs h))

keep_few : (rule : Rule) (apart : ℕ → ℕ → ℕ) (p : ℕ) (ks cs : List ℕ) → length ks ≤ rule.r → length (keep rule apart p ks cs) ≤ rule.r
keep_few rule apart p ks [] l = l
keep_few rule apart p ks (c ∷ cs) l =
    keep_few rule apart p (cond (takes rule apart p ks c) (ks ++ c ∷ []) ks) cs
    (elim (takes rule apart p ks c) as (λ t. takes rule apart p ks c ≡ t → length (cond t (ks ++ c ∷ []) ks) ≤ rule.r) [
      | true ↦ λ e. (let room = ltb-true (length ks) rule.r (and_parts _ _ e).0 in let size = length_push ks c in omega arith)
      | false ↦ λ e. l
    ] refl)

-- Kept is a subset of its candidates.
pub kept_inside : (rule : Rule) (apart : ℕ → ℕ → ℕ) (p : ℕ) (cs : List ℕ) → Inside (has cs) (kept rule apart p cs)
kept_inside rule apart p cs r h =
    keep_inside (has cs) rule apart p [] (in_order (apart p) cs) (λ z k. absurd (false≢true k)) (λ z k. sym (has_in_order (apart p) z cs) ∙ k) r
    (sym (has_ascending r (keep rule apart p [] (in_order (apart p) cs))) ∙ h)

-- It has at most R members.
pub kept_few : (rule : Rule) (apart : ℕ → ℕ → ℕ) (p : ℕ) (cs : List ℕ) → length (kept rule apart p cs) ≤ rule.r
kept_few rule apart p cs =
    let few = keep_few rule apart p [] (in_order (apart p) cs) (omega arith) in
    let short = length_ascending (keep rule apart p [] (in_order (apart p) cs)) in
    omega arith

-- It is listed in ascending order.
pub kept_rises : (rule : Rule) (apart : ℕ → ℕ → ℕ) (p : ℕ) (cs : List ℕ) → Rises (kept rule apart p cs)
kept_rises rule apart p cs = rises_ascending (keep rule apart p [] (in_order (apart p) cs))

-- The same of a set that is pruned only where it has more than R members.
pub within_inside : (rule : Rule) (apart : ℕ → ℕ → ℕ) (p : ℕ) (set : List ℕ) → Inside (has set) (within rule apart p set)
within_inside rule apart p set =
    elim (ltb rule.r (length set)) as (λ t. Inside (has set) (cond t (kept rule apart p set) set)) [ true ↦ kept_inside rule apart p set | false ↦ λ r h. h ]

pub within_few : (rule : Rule) (apart : ℕ → ℕ → ℕ) (p : ℕ) (set : List ℕ) → length (within rule apart p set) ≤ rule.r
within_few rule apart p set =
    elim (ltb rule.r (length set)) as (λ t. ltb rule.r (length set) ≡ t → length (cond t (kept rule apart p set) set) ≤ rule.r) [
      | true ↦ λ e. kept_few rule apart p set
      | false ↦ λ e. ltb-false rule.r (length set) e
    ] refl

pub within_rises : (rule : Rule) (apart : ℕ → ℕ → ℕ) (p : ℕ) (set : List ℕ) → Rises set → Rises (within rule apart p set)
within_rises rule apart p set r =
    elim (ltb rule.r (length set)) as (λ t. Rises (cond t (kept rule apart p set) set)) [ true ↦ kept_rises rule apart p set | false ↦ r ]
