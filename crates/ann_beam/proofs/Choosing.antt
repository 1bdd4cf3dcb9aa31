-- The first unmarked rows of a pool, one by one.
use Rattle.std.proofs.Common.{◌≡◌, ℕ, zero, suc, ◌+◌, ◌<◌, true, false, cond, eqb, not, List, [], ◌∷◌, ◌++◌, ◌||◌, refl, sym, ap, ◌∙◌, subst, arith, take, filter, length, map, set, add-one, append_assoc, append-nil, inl, inr, eqb-true, eq-eqb}
use Rattle.std.specs.Prelude.{Some, None, find, All}
use Rattle.std.specs.List.{AllByRecursion}
use Rattle.std.proofs.lemmas.List.Elements.{recursion_from_All, All-from_recursion}
use Rattle.ann_types.proofs.Sets.{all_append}
use Rattle.std.proofs.lemmas.Bool.{or_cases, or_right, both_ways, ne_eqb}
use Rattle.ann_types.specs.Order.{before, has, in_order}
use Rattle.ann_types.proofs.Ordered.{IsAfter, IsRising, before-irreflexive, rising_in_order, rising_take, has_from_take}
use Rattle.ann_types.proofs.Walks.{find_has}
use Rattle.ann_types.proofs.Booleans.{or_false}
use Rattle.ann_types.proofs.Options.{none_some, some_is}
use Rattle.ann_pool.specs.declared.item.Item.{Item}
use Rattle.ann_pool.specs.Pool.{PoolView, unvisited, marked}
use Rattle.ann_greedy.specs.Shows.{item, Shows}
use Rattle.ann_greedy.proofs.Pooled.{has_push, find_item, marked_is, marked_none, some_map, none_map}
use Rattle.ann_beam.specs.Candidates.{Chooses}
use Rattle.ann_greedy.proofs.Pooling.{rising_from}

-- the unmarked rows
abbrev pub left_of : List ℕ → List ℕ → List ℕ
left_of visited s = filter (λ row. not (has visited row)) s

-- rows that all stand behind p are as unmarked as before when p is visited
left_after : (far : ℕ → ℕ) (v : List ℕ) (p : ℕ) (s : List ℕ) → IsAfter far p s → left_of v s ≡ left_of (v ++ p ∷ []) s
left_after far v p [] a = refl
left_after far v p (y ∷ s) (b, a) =
    let other : eqb y p ≡ false = ne_eqb y p (λ e. both_ways (before far p y) (subst (λ (z : ℕ). before far p z ≡ false) (sym e) (before-irreflexive far p)) b) in
    let mark : has v y ≡ has (v ++ p ∷ []) y = sym (has_push v p y ∙ ap (λ t. has v y || t) other ∙ or_false (has v y)) in
    ap (λ t. cond (not t) (y ∷ left_of v s) (left_of v s)) mark ∙ ap (λ t. cond (not (has (v ++ p ∷ []) y)) (y ∷ t) t) (left_after far v p s a)

-- the next row is the first unmarked one
pub left_next : (far : ℕ → ℕ) (v : List ℕ) (p : ℕ) (s : List ℕ) → IsRising far s → find (λ r. not (has v r)) s ≡ Some p → left_of v s ≡ p ∷ left_of (v ++ p ∷ []) s
left_next far v p [] r h = absurd (none_some p h)
left_next far v p (y ∷ s) (a, r) h =
    elim (has v y) as (λ t. has v y ≡ t → cond (not t) (Some y) (find (λ q. not (has v q)) s) ≡ Some p → cond (not t) (y ∷ left_of v s) (left_of v s) ≡ p ∷ left_of (v ++ p ∷ []) (y ∷ s)) [
      | true ↦ λ e k.
          let mark : has (v ++ p ∷ []) y ≡ true = has_push v p y ∙ ap (λ t. t || eqb y p) e in
          left_next far v p s r k ∙ ap (λ t. p ∷ cond (not t) (y ∷ left_of (v ++ p ∷ []) s) (left_of (v ++ p ∷ []) s)) (sym mark)
      | false ↦ λ e k.
          let is : y ≡ p = some_is y p k in
          let mark : has (v ++ p ∷ []) y ≡ true = has_push v p y ∙ or_right (has v y) (eqb y p) (eq-eqb y p is) in
          ap (λ t. t ∷ left_of v s) is
          ∙ ap (λ t. p ∷ t) (left_after far v p s (subst (λ (z : ℕ). IsAfter far z s) is a))
          ∙ ap (λ t. p ∷ cond (not t) (y ∷ left_of (v ++ p ∷ []) s) (left_of (v ++ p ∷ []) s)) (sym mark)
    ] refl h

left_none : (v s : List ℕ) → find (λ r. not (has v r)) s ≡ None → left_of v s ≡ []
left_none v [] h = refl
left_none v (y ∷ s) h =
    elim (has v y) as (λ t. cond (not t) (Some y) (find (λ q. not (has v q)) s) ≡ None → cond (not t) (y ∷ left_of v s) (left_of v s) ≡ []) [
      | true ↦ λ e. left_none v s e
      | false ↦ λ e. absurd (none_some y (sym e))
    ] h

-- some rows of a round were chosen, and so many may follow
pub record Choosing (w left : ℕ) (rows : List ℕ) (old new : PoolView) (far : ℕ → ℕ) (visited order : List ℕ) : Type 0 where
  pub rest : take w (left_of visited (take old.limit order)) ≡ rows ++ take left (left_of (visited ++ rows) (take old.limit order))
  pub shows : Shows far (visited ++ rows) order new

pub choosing_none : (w left : ℕ) (rows : List ℕ) (old : PoolView) (far : ℕ → ℕ) (visited order : List ℕ) → rows ≡ [] → left ≡ w → Shows far visited order old → Choosing w left rows old old far visited order
choosing_none w left rows old far visited order none all shows =
    let same : visited ≡ visited ++ rows = sym (append-nil visited) ∙ ap (λ t. visited ++ t) (sym none) in
    record {
      rest =
          ap (λ (n : ℕ). take n (left_of visited (take old.limit order))) (sym all)
          ∙ ap (λ (v : List ℕ). take left (left_of v (take old.limit order))) same
          ∙ ap (λ (t : List ℕ). t ++ take left (left_of (visited ++ rows) (take old.limit order))) (sym none);
      shows = subst (λ (v : List ℕ). Shows far v order old) same shows;
    }

-- A row is marked.
shows_marked : (far : ℕ → ℕ) (visited order : List ℕ) (p : ℕ) (old new : PoolView) → IsRising far order → Shows far visited order old → find (λ r. not (has visited r)) (take old.limit order) ≡ Some p → new.limit ≡ old.limit → new.items ≡ marked old.items → new.met ≡ old.met → Shows far (visited ++ p ∷ []) order new
shows_marked far visited order p old new rising w is limit marks met =
    let nearest : List ℕ = take old.limit order in
    let there : has order p ≡ true = has_from_take old.limit p order (find_has (λ r. not (has visited r)) p nearest is) in
    record {
      rising = w.rising;
      marks = λ z h. elim (or_cases (has visited z) (eqb z p) (sym (has_push visited p z) ∙ h)) [
        | inl k ↦ w.marks z k
        | inr e ↦ subst (λ (t : ℕ). has order t ≡ true) (sym (eqb-true z p e)) there
      ];
      items = marks ∙ ap marked w.items ∙ marked_is far visited p nearest (rising_take far old.limit order rising) is ∙ ap (λ n. map (item far (visited ++ p ∷ [])) (take n order)) (sym limit);
      met = λ z h. w.met z (subst (λ (t : List ℕ). has t z ≡ true) met h);
    }

-- the row of the next unmarked item
next_row : (far : ℕ → ℕ) (visited order : List ℕ) (x : Item) (pool : PoolView) → Shows far visited order pool → Some x ≡ find unvisited pool.items → find (λ r. not (has visited r)) (take pool.limit order) ≡ Some x.number
next_row far visited order x pool w f =
    let nearest : List ℕ = take pool.limit order in
    let got = some_map (item far visited) (find (λ r. not (has visited r)) nearest) x (f ∙ ap (find unvisited) w.items ∙ find_item far visited nearest) in
    got.1 ∙ ap Some (sym (ap (λ (i : Item). i.number) got.2))

pub choosing_more : (w left left' : ℕ) (rows rows' : List ℕ) (x : Item) (old middle new : PoolView) (far : ℕ → ℕ) (visited order : List ℕ) → Choosing w left rows old middle far visited order → middle.limit ≡ old.limit → left ≡ suc left' → rows' ≡ rows ++ x.number ∷ [] → Some x ≡ find unvisited middle.items → new.limit ≡ middle.limit → new.items ≡ marked middle.items → new.met ≡ middle.met → Choosing w left' rows' old new far visited order
choosing_more w left left' rows rows' x old middle new far visited order c same l more f limit marks met =
    let p : ℕ = x.number in
    let nearest : List ℕ = take old.limit order in
    let rising = rising_from far order c.shows.rising in
    let is : find (λ r. not (has (visited ++ rows) r)) (take middle.limit order) ≡ Some p = next_row far (visited ++ rows) order x middle c.shows f in
    let here : find (λ r. not (has (visited ++ rows) r)) nearest ≡ Some p = ap (λ (n : ℕ). find (λ r. not (has (visited ++ rows) r)) (take n order)) (sym same) ∙ is in
    let join : (visited ++ rows) ++ p ∷ [] ≡ visited ++ rows' = append_assoc visited rows (p ∷ []) ∙ ap (λ t. visited ++ t) (sym more) in
    record {
      rest =
          c.rest
          ∙ ap (λ (n : ℕ). rows ++ take n (left_of (visited ++ rows) nearest)) l
          ∙ ap (λ (t : List ℕ). rows ++ take (suc left') t) (left_next far (visited ++ rows) p nearest (rising_take far old.limit order rising) here)
          ∙ sym (append_assoc rows (p ∷ []) (take left' (left_of ((visited ++ rows) ++ p ∷ []) nearest)))
          ∙ ap (λ (t : List ℕ). t ++ take left' (left_of ((visited ++ rows) ++ p ∷ []) nearest)) (sym more)
          ∙ ap (λ (v : List ℕ). rows' ++ take left' (left_of v nearest)) join;
      shows = subst (λ (v : List ℕ). Shows far v order new) join (shows_marked far (visited ++ rows) order p middle new rising c.shows is limit marks met);
    }

take_none : (n : ℕ) → take {A = ℕ} n [] ≡ []
take_none zero = refl
take_none (suc n) = refl

-- no row is left
pub chosen_all : (w left : ℕ) (rows : List ℕ) (old middle new : PoolView) (far : ℕ → ℕ) (visited order : List ℕ) → Choosing w left rows old middle far visited order → middle.limit ≡ old.limit → None ≡ find unvisited middle.items → new.limit ≡ middle.limit → new.items ≡ marked middle.items → new.met ≡ middle.met → Chooses w rows old new far visited order
chosen_all w left rows old middle new far visited order c same none limit marks met =
    let nearest : List ℕ = take middle.limit order in
    let over : find (λ r. not (has (visited ++ rows) r)) nearest ≡ None = none_map (item far (visited ++ rows)) (find (λ r. not (has (visited ++ rows) r)) nearest) (none ∙ ap (find unvisited) c.shows.items ∙ find_item far (visited ++ rows) nearest) in
    let empty : left_of (visited ++ rows) (take old.limit order) ≡ [] = ap (λ (n : ℕ). left_of (visited ++ rows) (take n order)) (sym same) ∙ left_none (visited ++ rows) nearest over in
    record {
      first = sym (c.rest ∙ ap (λ (t : List ℕ). rows ++ take left t) empty ∙ ap (λ (t : List ℕ). rows ++ t) (take_none left) ∙ append-nil rows);
      shows = record {
        rising = c.shows.rising;
        marks = c.shows.marks;
        items = marks ∙ marked_none middle.items (sym none) ∙ c.shows.items ∙ ap (λ (n : ℕ). map (item far (visited ++ rows)) (take n order)) (sym limit);
        met = λ z h. c.shows.met z (subst (λ (t : List ℕ). has t z ≡ true) met h);
      };
    }

-- the round is full
pub chosen_full : (w left : ℕ) (rows : List ℕ) (old new : PoolView) (far : ℕ → ℕ) (visited order : List ℕ) → left ≡ 0 → Choosing w left rows old new far visited order → Chooses w rows old new far visited order
chosen_full w left rows old new far visited order none c = record {
  first = sym (c.rest ∙ ap (λ (n : ℕ). rows ++ take n (left_of (visited ++ rows) (take old.limit order))) none ∙ append-nil rows);
  shows = c.shows;
}

-- ---- rows at the front of a buffer

pub front_more : (n p : ℕ) (s : List ℕ) → n < length s → take (n + 1) (set s n p) ≡ take n s ++ p ∷ []
front_more n p s l = ap (λ (k : ℕ). take k (set s n p)) (add-one n) ∙ here n p s l
  where
    here : (n p : ℕ) (s : List ℕ) → n < length s → take (suc n) (set s n p) ≡ take n s ++ p ∷ []
    here n p [] l = absurd (omega arith)
    here zero p (x ∷ s) l = refl
    here (suc n) p (x ∷ s) l = ap (λ t. x ∷ t) (here n p s (omega arith))

pub all_more : (P : ℕ → Type 0) (xs ys : List ℕ) (p : ℕ) → ys ≡ xs ++ p ∷ [] → All P xs → P p → All P ys
all_more P xs ys p e a h = All-from_recursion P ys (subst (AllByRecursion P) (sym e) (all_append P xs (p ∷ []) (recursion_from_All P xs a) (h, tt)))
