-- Lemmas and laws on walks: a visited point isn't visited again, and what has left the least points met
-- never comes back.
use Rattle.std.proofs.Common.{◌≡◌, ℕ, zero, suc, ◌+◌, ◌≤◌, Bool, true, false, cond, eqb, not, List, [], ◌∷◌, ◌++◌, refl, sym, ap, ◌∙◌, subst, arith, take, length, ◌⊎◌, inl, inr, eqb-true, eq-eqb}
use Rattle.std.specs.Prelude.{Option, Some, None, flat_map, find, filter, option_to_list}
use Rattle.std.specs.List.{IsDistinct}
use Rattle.std.specs.Cmp.{nat_eq_equiv}
use Rattle.std.proofs.lemmas.List.{length_push}
use Rattle.std.proofs.lemmas.Bool.{false≢true, or_cases, not-true}
use Rattle.std.proofs.lemmas.Map.Keys.{IsDistinct-push}
use Rattle.std.proofs.lemmas.Map.Made.{length-le_from_is_member}
use Rattle.ann_types.specs.Order.{all_placed, in_order, top, has}
use Rattle.ann_types.specs.Walk.{Ground, met, near, next, walk_on, visited_of}
use Rattle.ann_types.specs.Rounds.{rounds_on}
use Rattle.ann_types.proofs.Ordered.{all_placed-append, has_append, has_here, has_later, has_cases, top_inside, top_stays}
use Rattle.ann_types.proofs.Options.{none_some, some_is}
use Rattle.std.proofs.lemmas.Grind.{flat_map-append}
use Rattle.ann_types.proofs.Each.{flat_map_push}

-- what is met in order, after one more visit
pub met_more : (g : Ground) (v : List ℕ) (p : ℕ) → in_order g.far (met g (v ++ p ∷ [])) ≡ all_placed g.far (in_order g.far (met g v)) (g.links p)
met_more g v p =
    ap (λ t. in_order g.far (g.entry ∷ t)) (flat_map_push g.links v p)
    ∙ all_placed-append g.far [] (g.entry ∷ flat_map g.links v) (g.links p)

pub walk_more : (g : Ground) (width n m : ℕ) (v : List ℕ) (p : ℕ) → m ≡ n + 1 → next g width v ≡ Some p → walk_on g width m v ≡ walk_on g width n (v ++ p ∷ [])
walk_more g width n m v p e h =
    ap (λ k. walk_on g width k v) (let s : m ≡ suc n = omega arith in s)
    ∙ ap (λ (o : Option ℕ). elim o as (λ _. List ℕ) [ None ↦ v | Some q ↦ walk_on g width n (v ++ q ∷ []) ]) h

pub walk_stops : (g : Ground) (width n : ℕ) (v : List ℕ) → next g width v ≡ None → walk_on g width n v ≡ v
walk_stops g width zero v h = refl
walk_stops g width (suc n) v h = ap (λ (o : Option ℕ). elim o as (λ _. List ℕ) [ None ↦ v | Some q ↦ walk_on g width n (v ++ q ∷ []) ]) h

-- ---- What has left the least points met never comes back

-- Met only grows.
pub met_grows : (g : Ground) (v w : List ℕ) → met g (v ++ w) ≡ met g v ++ flat_map g.links w
met_grows g v w = ap (λ t. g.entry ∷ t) (flat_map-append g.links v w)

-- A point that was met and isn't near isn't near after further visits.
pub near_stays : (g : Ground) (width p : ℕ) (v w : List ℕ) → has (met g v) p ≡ true → has (near g width (v ++ w)) p ≡ true → has (near g width v) p ≡ true
near_stays g width p v w there h = top_stays g.far width p (met g v) (flat_map g.links w) there (subst (λ (t : List ℕ). has (top g.far width t) p ≡ true) (met_grows g v w) h)

-- ---- The members of a walk

pub none_distinct : IsDistinct eqb []
unfolding IsDistinct
none_distinct = tt

pub find_has : (q : ℕ → Bool) (p : ℕ) (s : List ℕ) → find q s ≡ Some p → has s p ≡ true
find_has q p [] h = absurd (none_some p h)
find_has q p (x ∷ s) h =
    let cases : find q (x ∷ s) ≡ Some p → has (x ∷ s) p ≡ true =
    elim (q x) as (λ t. cond t (Some x) (find q s) ≡ Some p → has (x ∷ s) p ≡ true) [
      | true ↦ λ k. has_here x p s (eq-eqb p x (sym (some_is x p k)))
      | false ↦ λ k. has_later x p s (find_has q p s k)
    ] in
    cases h

pub find_test : (q : ℕ → Bool) (p : ℕ) (s : List ℕ) → find q s ≡ Some p → q p ≡ true
find_test q p [] h = absurd (none_some p h)
find_test q p (x ∷ s) h =
    let cases : find q (x ∷ s) ≡ Some p → q p ≡ true =
    elim (q x) as (λ t. q x ≡ t → cond t (Some x) (find q s) ≡ Some p → q p ≡ true) [
      | true ↦ λ e k. subst (λ (t : ℕ). q t ≡ true) (some_is x p k) e
      | false ↦ λ e k. find_test q p s k
    ] refl in
    cases h

-- the next point is among the points met, and new
pub next_met : (g : Ground) (width p : ℕ) (v : List ℕ) → next g width v ≡ Some p → has (met g v) p ≡ true
next_met g width p v h = top_inside g.far width p (met g v) (find_has (λ r. not (has v r)) p (near g width v) h)

pub next_new : (g : Ground) (width p : ℕ) (v : List ℕ) → next g width v ≡ Some p → has v p ≡ false
next_new g width p v h = not-true (has v p) (find_test (λ r. not (has v r)) p (near g width v) h)

-- every number of a list passes a test
abbrev pub Inside : (ℕ → Bool) → List ℕ → Type 0
Inside q xs = (p : ℕ) → has xs p ≡ true → q p ≡ true

pub inside_append : (q : ℕ → Bool) (xs ys : List ℕ) → Inside q xs → Inside q ys → Inside q (xs ++ ys)
inside_append q xs ys a b p h = elim (or_cases (has xs p) (has ys p) (sym (has_append xs ys p) ∙ h)) [ inl k ↦ a p k | inr k ↦ b p k ]

pub inside_one : (q : ℕ → Bool) (x : ℕ) → q x ≡ true → Inside q (x ∷ [])
inside_one q x h p k = elim (has_cases x p [] k) [ inl e ↦ subst (λ (t : ℕ). q t ≡ true) (sym (eqb-true p x e)) h | inr m ↦ absurd (false≢true m) ]

pub inside_flat_map : (q : ℕ → Bool) (f : ℕ → List ℕ) (v : List ℕ) → ((r : ℕ) → q r ≡ true → Inside q (f r)) → Inside q v → Inside q (flat_map f v)
inside_flat_map q f [] closed a p h = absurd (false≢true h)
inside_flat_map q f (x ∷ v) closed a p h = inside_append q (f x) (flat_map f v) (closed x (a x (has_here x x v (eq-eqb x x refl)))) (inside_flat_map q f v closed (λ r k. a r (has_later x r v k))) p h

-- a walk doesn't leave a set that holds the entry and the neighbours of its members
pub record Closed (q : ℕ → Bool) (g : Ground) : Type 0 where
  pub entry : q g.entry ≡ true
  pub links : (r : ℕ) → q r ≡ true → Inside q (g.links r)

pub met_inside : (q : ℕ → Bool) (g : Ground) (v : List ℕ) → Closed q g → Inside q v → Inside q (met g v)
met_inside q g v c a p h = elim (has_cases g.entry p (flat_map g.links v) h) [ inl e ↦ subst (λ (t : ℕ). q t ≡ true) (sym (eqb-true p g.entry e)) c.entry | inr k ↦ inside_flat_map q g.links v c.links a p k ]

-- the walk from a list of points on, by what its next point is
walk_cases : (g : Ground) (width n : ℕ) (v : List ℕ) (P : List ℕ → Type 0) → (next g width v ≡ None → P v) → ((p : ℕ) → next g width v ≡ Some p → P (walk_on g width n (v ++ p ∷ []))) → P (walk_on g width (suc n) v)
walk_cases g width n v P stop go =
    elim (next g width v) as (λ o. next g width v ≡ o → P (elim o as (λ _. List ℕ) [ None ↦ v | Some p ↦ walk_on g width n (v ++ p ∷ []) ])) [
      | None ↦ λ e. stop e
      | Some p ↦ λ e. go p e
    ] refl

pub walk_inside : (q : ℕ → Bool) (g : Ground) (width n : ℕ) (v : List ℕ) → Closed q g → Inside q v → Inside q (walk_on g width n v)
walk_inside q g width zero v c a = a
walk_inside q g width (suc n) v c a =
    walk_cases g width n v (Inside q) (λ e. a) (λ p e.
    walk_inside q g width n (v ++ p ∷ []) c (inside_append q v (p ∷ []) a (inside_one q p (met_inside q g v c a p (next_met g width p v e)))))

-- The members of a walk differ.
pub walk_distinct : (g : Ground) (width n : ℕ) (v : List ℕ) → IsDistinct eqb v → IsDistinct eqb (walk_on g width n v)
walk_distinct g width zero v d = d
walk_distinct g width (suc n) v d =
    walk_cases g width n v (IsDistinct eqb) (λ e. d) (λ p e.
    walk_distinct g width n (v ++ p ∷ []) (IsDistinct-push nat_eq_equiv v p d (next_new g width p v e)))

-- They are at most as many as the visits that it has to go.
pub walk_short : (g : Ground) (width n : ℕ) (v : List ℕ) → length (walk_on g width n v) ≤ length v + n
walk_short g width zero v = omega arith
walk_short g width (suc n) v =
    walk_cases g width n v (λ w. length w ≤ length v + suc n) (λ e. omega arith) (λ p e.
    let size = length_push v p in let more = walk_short g width n (v ++ p ∷ []) in omega arith)

-- A walk ends where there is no next point, or has made all its visits.
pub walk_ends : (g : Ground) (width n : ℕ) (v : List ℕ) → (next g width (walk_on g width n v) ≡ None) ⊎ (length (walk_on g width n v) ≡ length v + n)
walk_ends g width zero v = inr (omega arith)
walk_ends g width (suc n) v =
    walk_cases g width n v (λ w. (next g width w ≡ None) ⊎ (length w ≡ length v + suc n)) (λ e. inl e) (λ p e.
    elim (walk_ends g width n (v ++ p ∷ [])) [ inl none ↦ inl none | inr many ↦ inr (let size = length_push v p in omega arith) ])

-- A walk in a set of so many points ends where there is no next point: it visits no fewer than a walk with
-- more visits to go.
pub walk_whole : (g : Ground) (width count : ℕ) (all : List ℕ) → Closed (has all) g → length all ≤ count → next g width (visited_of g width count) ≡ None
walk_whole g width count all c few =
    let v : List ℕ = visited_of g width count in
    let distinct : IsDistinct eqb v = walk_distinct g width count [] none_distinct in
    let inside : Inside (has all) v = walk_inside (has all) g width count [] c (λ p h. absurd (false≢true h)) in
    elim (walk_ends g width count []) [
      | inl none ↦ none
      | inr many ↦ elim (next g width v) as (λ o. next g width v ≡ o → o ≡ None) [
        | None ↦ λ e. refl
        | Some p ↦ λ e.
            let more : IsDistinct eqb (v ++ p ∷ []) = IsDistinct-push nat_eq_equiv v p distinct (next_new g width p v e) in
            let there : Inside (has all) (v ++ p ∷ []) = inside_append (has all) v (p ∷ []) inside (inside_one (has all) p (met_inside (has all) g v c inside p (next_met g width p v e))) in
            let size = length_push v p in
            let fits : length (v ++ p ∷ []) ≤ length all = length-le_from_is_member nat_eq_equiv (v ++ p ∷ []) all more there in
            absurd (omega arith)
      ] refl
    ]

-- ---- Rounds

first_one : (q : ℕ → Bool) (s : List ℕ) → take 1 (filter q s) ≡ option_to_list (find q s)
first_one q [] = refl
first_one q (x ∷ s) = elim (q x) as (λ t. take 1 (cond t (x ∷ filter q s) (filter q s)) ≡ option_to_list (cond t (Some x) (find q s))) [ true ↦ refl | false ↦ first_one q s ]

-- Rounds of one point are the walk.
pub one_at_a_time : (g : Ground) (width n : ℕ) (visited : List ℕ) → rounds_on g width 1 n visited ≡ walk_on g width n visited
one_at_a_time g width zero v = refl
one_at_a_time g width (suc n) v =
    ap (λ (r : List ℕ). elim r as (λ _. List ℕ) [ [] ↦ v | p ∷ ps ↦ rounds_on g width 1 n (v ++ p ∷ ps) ]) (first_one (λ p. not (has v p)) (near g width v))
    ∙ elim (next g width v) as (λ o. (elim (option_to_list o) as (λ _. List ℕ) [ [] ↦ v | p ∷ ps ↦ rounds_on g width 1 n (v ++ p ∷ ps) ]) ≡ (elim o as (λ _. List ℕ) [ None ↦ v | Some p ↦ walk_on g width n (v ++ p ∷ []) ])) [
      | None ↦ refl
      | Some p ↦ one_at_a_time g width n (v ++ p ∷ [])
    ]
