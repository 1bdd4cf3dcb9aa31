-- Where a walk over a pool stands.
use Rattle.std.proofs.Common.{◌≡◌, ℕ, ◌+◌, ◌≤◌, ◌<◌, Bool, true, false, eqb, not, List, [], ◌∷◌, ◌++◌, ◌||◌, refl, sym, ap, subst, ◌∙◌, arith, take, map, length, get_or, add-one, ◌⊎◌, inl, inr, eqb-true, eq-eqb}
use Rattle.std.specs.Prelude.{Option, Some, None, find}
use Rattle.std.specs.List.{AllByRecursion, IsDistinct}
use Rattle.std.specs.Cmp.{nat_eq_equiv}
use Rattle.std.proofs.lemmas.Bool.{false≢true, or_cases}
use Rattle.std.proofs.lemmas.List.{take_all, length_push}
use Rattle.std.proofs.Math.Seq.{take-suc}
use Rattle.std.proofs.lemmas.Map.Keys.{IsDistinct-push}
use Rattle.std.proofs.lemmas.Map.Steps.{length-le_from_distinct_below}
use Rattle.ann_pool.specs.declared.item.Item.{Item}
use Rattle.ann_pool.specs.Pool.{pooled, fresh, unvisited, marked, PoolView}
use Rattle.ann_types.specs.Order.{placed, all_placed, in_order, has}
use Rattle.ann_types.specs.Walk.{Ground, met, near, next, walk_on, visited_of}
use Rattle.ann_types.proofs.Ordered.{IsRising, all_placed-append, rising_placed, rising_in_order, in_order_rising, rising_take, placed_there, has_placed, has_from_take}
use Rattle.ann_types.proofs.Walks.{met_more, walk_more, walk_stops, find_has, next_new}
use Rattle.ann_greedy.specs.Shows.{item, seen, Shows, ShowsWalk, IsOver, GoesOn, AreRows}
use Rattle.ann_greedy.proofs.Pooled.{pooled_is, has_push, find_item, marked_is, all_seen, marked_none, some_map, none_map}

-- what stands in order rises
pub rising_from : (far : ℕ → ℕ) (order : List ℕ) → in_order far order ≡ order → IsRising far order
rising_from far order e = subst (IsRising far) e (rising_in_order far order)

or_true : (a : Bool) → (a || true) ≡ true
or_true true = refl
or_true false = refl

kept_has : (far : ℕ → ℕ) (x z : ℕ) (order : List ℕ) → has order z ≡ true → has (placed far x order) z ≡ true
kept_has far x z order h = has_placed far x z order ∙ ap (λ t. eqb z x || t) h ∙ or_true (eqb z x)

-- a pool that was cleared shows nothing
pub shows_none : (far : ℕ → ℕ) (n : ℕ) (pool : PoolView) → pool ≡ record { limit = n; items = []; met = [] } → Shows far [] [] pool
shows_none far n pool e = subst (Shows far [] []) (sym e) (record {
  rising = refl;
  marks = λ z h. absurd (false≢true h);
  items = sym (ap (map (item far [])) (take_all n [] (omega arith)));
  met = λ z h. absurd (false≢true h);
})

-- a row that the pool knows was met, so that nothing changes
pub shows_known : (far : ℕ → ℕ) (visited order : List ℕ) (pool : PoolView) (x : ℕ) → has pool.met x ≡ true → Shows far visited order pool → Shows far visited (placed far x order) pool
shows_known far visited order pool x k w = subst (λ (t : List ℕ). Shows far visited t pool) (sym (placed_there far x order (rising_from far order w.rising) (w.met x k))) w

-- a row that is offered
pub shows_offered : (far : ℕ → ℕ) (visited order : List ℕ) (old new : PoolView) (x : ℕ) → new.limit ≡ old.limit → new.items ≡ pooled old.limit (fresh (far x) x) old.items → ((z : ℕ) → has new.met z ≡ true → (has old.met z ≡ true) ⊎ (z ≡ x)) → Shows far visited order old → Shows far visited (placed far x order) new
shows_offered far visited order old new x limit items known w =
    let rising = rising_from far order w.rising in
    record {
      rising = in_order_rising far (placed far x order) (rising_placed far x order rising);
      marks = λ z h. kept_has far x z order (w.marks z h);
      items =
          items ∙ ap (pooled old.limit (fresh (far x) x)) w.items
          ∙ pooled_is far visited old.limit x order rising (w.marks x)
          ∙ ap (λ n. map (item far visited) (take n (placed far x order))) (sym limit);
      met = λ z h. elim (known z h) [
        | inl k ↦ kept_has far x z order (w.met z k)
        | inr e ↦ has_placed far x z order ∙ ap (λ t. t || has order z) (eq-eqb z x e)
      ];
    }

-- the walk goes on: the least unvisited item is marked, and its neighbours are met
pub goes_on : (g : Ground) (visited : List ℕ) (x : Item) (old middle new : PoolView) → ShowsWalk g visited old → Some x ≡ find unvisited old.items → middle.limit ≡ old.limit → middle.items ≡ marked old.items → middle.met ≡ old.met → ((v order : List ℕ) → Shows g.far v order middle → Shows g.far v (all_placed g.far order (g.links x.number)) new) → GoesOn g visited x.number old new
goes_on g visited x old middle new w f limit marks known offers =
    let order : List ℕ = in_order g.far (met g visited) in
    let nearest : List ℕ = take old.limit order in
    let got = some_map (item g.far visited) (find (λ r. not (has visited r)) nearest) x (f ∙ ap (find unvisited) w.items ∙ find_item g.far visited nearest) in
    let number : got.0 ≡ x.number = sym (ap (λ (i : Item). i.number) got.2) in
    let is : next g old.limit visited ≡ Some x.number = got.1 ∙ ap Some number in
    let rising = rising_from g.far order w.rising in
    let there : has order x.number ≡ true = has_from_take old.limit x.number order (find_has (λ r. not (has visited r)) x.number nearest is) in
    let shown : Shows g.far (visited ++ x.number ∷ []) order middle =
    record {
      rising = w.rising;
      marks = λ z h. elim (or_cases (has visited z) (eqb z x.number) (sym (has_push visited x.number z) ∙ h)) [
        | inl k ↦ w.marks z k
        | inr e ↦ subst (λ (t : ℕ). has order t ≡ true) (sym (eqb-true z x.number e)) there
      ];
      items = marks ∙ ap marked w.items ∙ marked_is g.far visited x.number nearest (rising_take g.far old.limit order rising) is ∙ ap (λ n. map (item g.far (visited ++ x.number ∷ [])) (take n order)) (sym limit);
      met = λ z h. w.met z (subst (λ (t : List ℕ). has t z ≡ true) known h);
    } in
    record {
      next = is;
      shows = subst (λ (t : List ℕ). Shows g.far (visited ++ x.number ∷ []) t new) (sym (met_more g visited x.number)) (offers (visited ++ x.number ∷ []) order shown);
    }

-- the walk is over where no item is unmarked
pub is_over : (g : Ground) (visited : List ℕ) (old new : PoolView) → ShowsWalk g visited old → None ≡ find unvisited old.items → new.limit ≡ old.limit → new.items ≡ marked old.items → IsOver g visited new
is_over g visited old new w none limit marks =
    let nearest : List ℕ = near g old.limit visited in
    let over : next g old.limit visited ≡ None = none_map (item g.far visited) (find (λ r. not (has visited r)) nearest) (none ∙ ap (find unvisited) w.items ∙ find_item g.far visited nearest) in
    record {
      none = ap (λ n. next g n visited) limit ∙ over;
      near = marks ∙ marked_none old.items (sym none) ∙ w.items ∙ all_seen g.far visited nearest over ∙ ap (λ n. map (seen g.far) (near g n visited)) (sym limit);
    }

-- ---- The whole walk

-- all are below n
abbrev pub AreBelow : ℕ → List ℕ → Type 0
AreBelow n s = AllByRecursion (λ z. z < n) s

-- the pool shows a walk of this width with at most `left` visits to go
pub record Pooling (g : Ground) (width count left : ℕ) (visited : List ℕ) (pool : PoolView) : Type 0 where
  pub limit : pool.limit ≡ width
  pub shows : ShowsWalk g visited pool
  pub rest : walk_on g width left visited ≡ visited_of g width count
  pub below : AreBelow count visited
  pub distinct : IsDistinct eqb visited
  pub count_is : length visited + left ≡ count

distinct_nil : IsDistinct eqb []
unfolding IsDistinct
distinct_nil = tt

pub pooling_from : (g : Ground) (width count left : ℕ) (pool : PoolView) → left ≡ count → pool.limit ≡ width → ShowsWalk g [] pool → Pooling g width count left [] pool
pooling_from g width count left pool l limit w = record {
  limit = limit;
  shows = w;
  rest = ap (λ n. walk_on g width n []) l;
  below = tt;
  distinct = distinct_nil;
  count_is = omega arith;
}

below_push : (n p : ℕ) (s : List ℕ) → p < n → AreBelow n s → AreBelow n (s ++ p ∷ [])
below_push n p [] h a = (h, tt)
below_push n p (x ∷ s) h a = (a.0, below_push n p s h a.1)

below_has : (n p : ℕ) (s : List ℕ) → AreBelow n s → has s p ≡ true → p < n
below_has n p [] a h = absurd (false≢true h)
below_has n p (x ∷ s) a h = elim (or_cases (eqb p x) (has s p) h) [ inl e ↦ subst (λ (t : ℕ). t < n) (sym (eqb-true p x e)) a.0 | inr k ↦ below_has n p s a.1 k ]

pub pooling_more : (g : Ground) (width count left left' row : ℕ) (visited : List ℕ) (old new : PoolView) → Pooling g width count left visited old → left ≡ left' + 1 → row < count → new.limit ≡ old.limit → GoesOn g visited row old new → Pooling g width count left' (visited ++ row ∷ []) new
pooling_more g width count left left' row visited old new w l inside limit step =
    let got : next g width visited ≡ Some row = ap (λ n. next g n visited) (sym w.limit) ∙ step.next in
    record {
      limit = limit ∙ w.limit;
      shows = step.shows;
      rest = sym (walk_more g width left' left visited row l got) ∙ w.rest;
      below = below_push count row visited inside w.below;
      distinct = IsDistinct-push nat_eq_equiv visited row w.distinct (next_new g width row visited got);
      count_is = let size = length_push visited row in let c = w.count_is in omega arith;
    }

-- the visits are those of the walk where there is no next point
pub pooling_stops : (g : Ground) (width count left : ℕ) (visited : List ℕ) (old new : PoolView) → Pooling g width count left visited old → new.limit ≡ old.limit → IsOver g visited new → (visited ≡ visited_of g width count) × (new.items ≡ map (seen g.far) (near g width (visited_of g width count)))
pooling_stops g width count left visited old new w limit over =
    let none : next g width visited ≡ None = ap (λ n. next g n visited) (sym (limit ∙ w.limit)) ∙ over.none in
    let whole : visited ≡ visited_of g width count = sym (walk_stops g width left visited none) ∙ w.rest in
    (whole, over.near ∙ ap (λ n. map (seen g.far) (near g n visited)) (limit ∙ w.limit) ∙ ap (λ v. map (seen g.far) (near g width v)) whole)

is_none : (o : Option ℕ) → ((p : ℕ) → o ≡ Some p → ⊥) → o ≡ None
is_none None h = refl
is_none (Some p) h = absurd (h p refl)

item_row : (far : ℕ → ℕ) (count : ℕ) (v s : List ℕ) (p : ℕ) → AreRows count (map (item far v) s) → has s p ≡ true → p < count
item_row far count v [] p a h = absurd (false≢true h)
item_row far count v (x ∷ s) p a h = elim (or_cases (eqb p x) (has s p) h) [ inl e ↦ subst (λ (t : ℕ). t < count) (sym (eqb-true p x e)) a.0 | inr k ↦ item_row far count v s p a.1 k ]

-- Distinct numbers below n that are n many leave no number out.
none_left : (n : ℕ) (v : List ℕ) (p : ℕ) → IsDistinct eqb v → AreBelow n v → length v ≡ n → p < n → has v p ≡ false → ⊥
none_left n v p d b l h new =
    let more : IsDistinct eqb (v ++ p ∷ []) = IsDistinct-push nat_eq_equiv v p d new in
    let few : length (v ++ p ∷ []) ≤ n = length-le_from_distinct_below (v ++ p ∷ []) n more (λ q k. below_has n q (v ++ p ∷ []) (below_push n p v h b) k) in
    let size = length_push v p in omega arith

-- and so they are where as many points were visited as there are
pub pooling_out : (g : Ground) (width count left : ℕ) (visited : List ℕ) (pool : PoolView) → Pooling g width count left visited pool → left ≡ 0 → AreRows count pool.items → (visited ≡ visited_of g width count) × (pool.items ≡ map (seen g.far) (near g width (visited_of g width count)))
pooling_out g width count left visited pool w e rows =
    let nearest : List ℕ = near g pool.limit visited in
    let c = w.count_is in
    let size : length visited ≡ count = omega arith in
    let none : next g pool.limit visited ≡ None = is_none (next g pool.limit visited) (λ p h.
    none_left count visited p w.distinct w.below size
    (item_row g.far count visited nearest p (subst (AreRows count) w.shows.items rows) (find_has (λ r. not (has visited r)) p nearest h))
    (next_new g pool.limit p visited h)) in
    pooling_stops g width count left visited pool pool w refl (record { none = none; near = w.shows.items ∙ all_seen g.far visited nearest none })

-- the steps of a walk over links that the code read
pub goes_on_along : (g : Ground) (visited : List ℕ) (x : Item) (old middle new : PoolView) (links : List ℕ) → links ≡ g.links x.number → ShowsWalk g visited old → Some x ≡ find unvisited old.items → middle.limit ≡ old.limit → middle.items ≡ marked old.items → middle.met ≡ old.met → ((v order : List ℕ) → Shows g.far v order middle → Shows g.far v (all_placed g.far order links) new) → GoesOn g visited x.number old new
goes_on_along g visited x old middle new links is w f limit marks known offers =
    goes_on g visited x old middle new w f limit marks known (λ v order shown. subst (λ (t : List ℕ). Shows g.far v (all_placed g.far order t) new) is (offers v order shown))

-- one more row was offered
pub all_placed_one : (far : ℕ → ℕ) (s xs : List ℕ) (i d : ℕ) → i < length xs → all_placed far s (take (i + 1) xs) ≡ placed far (get_or xs i d) (all_placed far s (take i xs))
all_placed_one far s xs i d within = ap (all_placed far s) (ap (λ n. take n xs) (add-one i) ∙ take-suc xs i d within) ∙ all_placed-append far s (take i xs) (get_or xs i d ∷ [])

-- the same visits
pub pooling_same : (g : Ground) (width count left : ℕ) (v v' : List ℕ) (pool : PoolView) → v' ≡ v → Pooling g width count left v pool → Pooling g width count left v' pool
pooling_same g width count left v v' pool e w = subst (λ (t : List ℕ). Pooling g width count left t pool) (sym e) w
