-- A pool of at most n items with marks shows the n least rows met, and which of them were visited.
use Rattle.std.proofs.Common.{◌≡◌, ℕ, zero, suc, ◌≤◌, Bool, true, false, cond, eqb, not, List, [], ◌∷◌, ◌++◌, ◌||◌, refl, sym, ap, subst, ◌∙◌, arith, take, map, length, eq-eqb}
use Rattle.std.specs.Prelude.{Option, Some, None, find, option_map}
use Rattle.std.specs.List.{AllByRecursion}
use Rattle.std.proofs.lemmas.List.{take-map, take_all, length-map, length-take}
use Rattle.std.proofs.lemmas.Bool.{both_ways, ne_eqb, or_right}
use Rattle.ann_pool.specs.declared.item.Item.{Item}
use Rattle.ann_pool.specs.Pool.{offered, pooled, fresh, unvisited, marked, IsSameWhereThere}
use Rattle.ann_types.specs.Order.{before, placed, has}
use Rattle.ann_types.proofs.Ordered.{cut_placed, IsAfter, IsRising, before-irreflexive, placed_there, has_append}
use Rattle.ann_greedy.specs.Shows.{item, seen, AreFar}
use Rattle.ann_types.proofs.Booleans.{or_false}
use Rattle.ann_types.proofs.Options.{none_some, some_is}

offered_item : (far : ℕ → ℕ) (v : List ℕ) (x : ℕ) (s : List ℕ) → offered (item far v x) (map (item far v) s) ≡ map (item far v) (placed far x s)
offered_item far v x [] = refl
offered_item far v x (y ∷ s) =
    elim (before far x y) as (λ t. cond t (item far v x ∷ item far v y ∷ map (item far v) s) (cond (eqb x y) (item far v y ∷ map (item far v) s) (item far v y ∷ offered (item far v x) (map (item far v) s))) ≡ map (item far v) (cond t (x ∷ y ∷ s) (cond (eqb x y) (y ∷ s) (y ∷ placed far x s)))) [
      | true ↦ refl
      | false ↦ elim (eqb x y) as (λ t. cond t (item far v y ∷ map (item far v) s) (item far v y ∷ offered (item far v x) (map (item far v) s)) ≡ map (item far v) (cond t (y ∷ s) (y ∷ placed far x s))) [
        | true ↦ refl
        | false ↦ ap (λ t. item far v y ∷ t) (offered_item far v x s)
      ]
    ]

head_is : (x y : ℕ) (s t : List ℕ) → x ∷ s ≡ y ∷ t → x ≡ y
head_is x y s t e = cc

cons_nil : (x : ℕ) (s : List ℕ) → x ∷ s ≡ [] → ⊥
cons_nil x s e = cc

tail_is : (x y : ℕ) (s t : List ℕ) → x ∷ s ≡ y ∷ t → s ≡ t
tail_is x y s t e = cc

-- A row that finds no place among the n least changes no mark of them.
offered_gone : (far : ℕ → ℕ) (v : List ℕ) (n x : ℕ) (s : List ℕ) → length s ≤ n → take n (placed far x s) ≡ s → take n (offered (fresh (far x) x) (map (item far v) s)) ≡ map (item far v) s
offered_gone far v zero x [] l e = refl
offered_gone far v (suc n) x [] l e = absurd (cons_nil x (take n []) e)
offered_gone far v zero x (y ∷ s) l e = absurd (omega arith)
offered_gone far v (suc n) x (y ∷ s) l e =
    elim (before far x y) as (λ t. before far x y ≡ t → take (suc n) (cond t (x ∷ y ∷ s) (cond (eqb x y) (y ∷ s) (y ∷ placed far x s))) ≡ y ∷ s → take (suc n) (cond t (fresh (far x) x ∷ item far v y ∷ map (item far v) s) (cond (eqb x y) (item far v y ∷ map (item far v) s) (item far v y ∷ offered (fresh (far x) x) (map (item far v) s)))) ≡ item far v y ∷ map (item far v) s) [
      | true ↦ λ b h. absurd (both_ways (before far x y) (subst (λ (z : ℕ). before far x z ≡ false) (head_is x y (take n (y ∷ s)) s h) (before-irreflexive far x)) b)
      | false ↦ λ _. elim (eqb x y) as (λ t. take (suc n) (cond t (y ∷ s) (y ∷ placed far x s)) ≡ y ∷ s → take (suc n) (cond t (item far v y ∷ map (item far v) s) (item far v y ∷ offered (fresh (far x) x) (map (item far v) s))) ≡ item far v y ∷ map (item far v) s) [
        | true ↦ λ h. take_all (suc n) (item far v y ∷ map (item far v) s) (let m = length-map s (item far v) in omega arith)
        | false ↦ λ h. ap (λ t. item far v y ∷ t) (offered_gone far v n x s (omega arith) (tail_is y y (take n (placed far x s)) s h))
      ]
    ] refl e

-- Offering to the pool is placing among all that was met.
pub pooled_is : (far : ℕ → ℕ) (v : List ℕ) (n x : ℕ) (order : List ℕ) → IsRising far order → (has v x ≡ true → has order x ≡ true) → pooled n (fresh (far x) x) (map (item far v) (take n order)) ≡ map (item far v) (take n (placed far x order))
pooled_is far v n x order r h =
    elim (has v x) as (λ t. has v x ≡ t → pooled n (fresh (far x) x) (map (item far v) (take n order)) ≡ map (item far v) (take n (placed far x order))) [
      | true ↦ λ e.
          let there : placed far x order ≡ order = placed_there far x order r (h e) in
          offered_gone far v n x (take n order) (let m = length-take n order in omega arith) (cut_placed far n x order ∙ ap (take n) there)
          ∙ ap (λ t. map (item far v) (take n t)) (sym there)
      | false ↦ λ e.
          let same : fresh (far x) x ≡ item far v x = ap (λ (b : Bool). record { distance = far x; number = x; visited = b }) (sym e) in
          ap (λ i. pooled n i (map (item far v) (take n order))) same
          ∙ ap (take n) (offered_item far v x (take n order))
          ∙ take-map (item far v) n (placed far x (take n order))
          ∙ ap (map (item far v)) (cut_placed far n x order)
    ] refl

pub has_push : (v : List ℕ) (p z : ℕ) → has (v ++ p ∷ []) z ≡ (has v z || eqb z p)
has_push v p z = has_append v (p ∷ []) z ∙ ap (λ t. has v z || t) (or_false (eqb z p))

pub find_item : (far : ℕ → ℕ) (v s : List ℕ) → find unvisited (map (item far v) s) ≡ option_map (item far v) (find (λ r. not (has v r)) s)
find_item far v [] = refl
find_item far v (y ∷ s) =
    elim (has v y) as (λ t. cond (not t) (Some (item far v y)) (find unvisited (map (item far v) s)) ≡ option_map (item far v) (cond (not t) (Some y) (find (λ r. not (has v r)) s))) [ true ↦ find_item far v s | false ↦ refl ]

-- the marks of rows that all stand behind p stay as they are when p is visited
same_marks : (far : ℕ → ℕ) (v : List ℕ) (p : ℕ) (s : List ℕ) → IsAfter far p s → map (item far v) s ≡ map (item far (v ++ p ∷ [])) s
same_marks far v p [] a = refl
same_marks far v p (y ∷ s) (b, a) =
    let other : eqb y p ≡ false = ne_eqb y p (λ e. both_ways (before far p y) (subst (λ (z : ℕ). before far p z ≡ false) (sym e) (before-irreflexive far p)) b) in
    let mark : has v y ≡ has (v ++ p ∷ []) y = sym (has_push v p y ∙ ap (λ t. has v y || t) other ∙ or_false (has v y)) in
    let one : item far v y ≡ item far (v ++ p ∷ []) y = ap (λ (t : Bool). record { distance = far y; number = y; visited = t }) mark in
    let rest = same_marks far v p s a in cc

-- Marking the least unvisited item is visiting the next point.
pub marked_is : (far : ℕ → ℕ) (v : List ℕ) (p : ℕ) (s : List ℕ) → IsRising far s → find (λ r. not (has v r)) s ≡ Some p → marked (map (item far v) s) ≡ map (item far (v ++ p ∷ [])) s
marked_is far v p [] r h = absurd (none_some p h)
marked_is far v p (y ∷ s) (a, r) h =
    elim (has v y) as (λ t. has v y ≡ t → cond (not t) (Some y) (find (λ q. not (has v q)) s) ≡ Some p → cond t (record { distance = far y; number = y; visited = t } ∷ marked (map (item far v) s)) (record { distance = far y; number = y; visited = true } ∷ map (item far v) s) ≡ item far (v ++ p ∷ []) y ∷ map (item far (v ++ p ∷ [])) s) [
      | true ↦ λ e k.
          let mark : has (v ++ p ∷ []) y ≡ true = has_push v p y ∙ ap (λ t. t || eqb y p) e in
          let one : record { distance = far y; number = y; visited = true } ≡ item far (v ++ p ∷ []) y = ap (λ (t : Bool). record { distance = far y; number = y; visited = t }) (sym mark) in
          let rest = marked_is far v p s r k in cc
      | false ↦ λ e k.
          let is : y ≡ p = some_is y p k in
          let mark : has (v ++ p ∷ []) y ≡ true = has_push v p y ∙ or_right (has v y) (eqb y p) (eq-eqb y p is) in
          let one : record { distance = far y; number = y; visited = true } ≡ item far (v ++ p ∷ []) y = ap (λ (t : Bool). record { distance = far y; number = y; visited = t }) (sym mark) in
          let rest = same_marks far v p s (subst (λ (z : ℕ). IsAfter far z s) is a) in cc
    ] refl h

-- where no row is left to visit, every item is marked
pub all_seen : (far : ℕ → ℕ) (v s : List ℕ) → find (λ r. not (has v r)) s ≡ None → map (item far v) s ≡ map (seen far) s
all_seen far v [] h = refl
all_seen far v (y ∷ s) h =
    elim (has v y) as (λ t. cond (not t) (Some y) (find (λ r. not (has v r)) s) ≡ None → (record { distance = far y; number = y; visited = t } ∷ map (item far v) s) ≡ (seen far y ∷ map (seen far) s)) [
      | true ↦ λ e. ap (λ t. seen far y ∷ t) (all_seen far v s e)
      | false ↦ λ e. absurd (none_some y (sym e))
    ] h

-- and a mark changes nothing
pub marked_none : (s : List Item) → find unvisited s ≡ None → marked s ≡ s
marked_none [] h = refl
marked_none (y ∷ s) h =
    elim (y.visited) as (λ t. cond (not t) (Some y) (find unvisited s) ≡ None → cond t (y ∷ marked s) ((record y { visited = true }) ∷ s) ≡ y ∷ s) [
      | true ↦ λ e. ap (λ t. y ∷ t) (marked_none s e)
      | false ↦ λ e. absurd (none_some y (sym e))
    ] h

pub some_map : {A B : Type 0} (f : A → B) (o : Option A) (x : B) → Some x ≡ option_map f o → (p : A) × (o ≡ Some p) × (x ≡ f p)
some_map f None x e = absurd (none_some x (sym e))
some_map f (Some p) x e = (p, refl, some_is x (f p) e)

pub none_map : {A B : Type 0} (f : A → B) (o : Option A) → None ≡ option_map f o → o ≡ None
none_map f None e = refl
none_map f (Some p) e = absurd (none_some (f p) e)

-- ---- Items that have their row's distance, and are rows

-- a row that is there is there at its distance
pub far_there : (far : ℕ → ℕ) (x : ℕ) (s : List Item) → AreFar far s → IsSameWhereThere (fresh (far x) x) s
far_there far x [] a = tt
far_there far x (y ∷ s) a = (λ e. a.0 ∙ ap far e, far_there far x s a.1)

-- a fact of each item holds of the one that is found
pub found_item : (P : Item → Type 0) (x : Item) (s : List Item) → AllByRecursion P s → Some x ≡ find unvisited s → P x
found_item P x [] a h = absurd (none_some x (sym h))
found_item P x (y ∷ s) a h =
    elim (y.visited) as (λ t. Some x ≡ cond (not t) (Some y) (find unvisited s) → P x) [
      | true ↦ λ e. found_item P x s a.1 e
      | false ↦ λ e. subst P (sym (some_is x y e)) a.0
    ] h
