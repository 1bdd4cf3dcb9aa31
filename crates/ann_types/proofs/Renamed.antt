-- A walk, rounds or a prune by rows is the one by Pids, where the Pids rise with the rows.
use Rattle.std.proofs.Common.{◌≡◌, ℕ, zero, suc, ◌<◌, ◌*◌, Bool, true, false, cond, eqb, ltb, leb, length, not, List, [], ◌∷◌, ◌++◌, ◌||◌, ◌&&◌, refl, sym, ap, subst, ◌∙◌, arith, take, map, filter, inl, inr, eq-eqb, lt-ltb, le-ltb}
use Rattle.std.specs.Prelude.{Option, Some, None, find, option_map, flat_map}
use Rattle.std.specs.List.{AllByRecursion}
use Rattle.std.proofs.lemmas.List.{take-map, map-append, length-map}
use Rattle.std.proofs.lemmas.Bool.{cases_order, ne_eqb}
use Rattle.ann_types.specs.Order.{before, placed, all_placed, in_order, top, has, ascending}
use Rattle.ann_types.specs.Kept.{Rule, covered, takes, keep, kept, within}
use Rattle.ann_types.specs.Walk.{Ground, met, near, next, walk_on, visited_of}
use Rattle.ann_types.specs.Rounds.{round, rounds_on, rounds_of}
use Rattle.ann_types.proofs.Options.{none_some, some_is}

-- each number is below n
abbrev pub Below : ℕ → List ℕ → Type 0
Below n xs = AllByRecursion (λ r. r < n) xs

pub below_append : (n : ℕ) (xs ys : List ℕ) → Below n xs → Below n ys → Below n (xs ++ ys)
below_append n [] ys a b = b
below_append n (x ∷ xs) ys (a, c) b = (a, below_append n xs ys c b)

pub below_take : (n k : ℕ) (xs : List ℕ) → Below n xs → Below n (take k xs)
below_take n zero xs a = tt
below_take n (suc k) [] a = tt
below_take n (suc k) (x ∷ xs) (a, c) = (a, below_take n k xs c)

pub below_filter : (n : ℕ) (q : ℕ → Bool) (xs : List ℕ) → Below n xs → Below n (filter q xs)
below_filter n q [] a = tt
below_filter n q (x ∷ xs) (a, c) = elim (q x) as (λ t. Below n (cond t (x ∷ filter q xs) (filter q xs))) [ true ↦ (a, below_filter n q xs c) | false ↦ below_filter n q xs c ]

below_flat_map : (n : ℕ) (f : ℕ → List ℕ) (v : List ℕ) → ((r : ℕ) → r < n → Below n (f r)) → Below n v → Below n (flat_map f v)
below_flat_map n f [] each a = tt
below_flat_map n f (x ∷ v) each (a, c) = below_append n (f x) (flat_map f v) (each x a) (below_flat_map n f v each c)

pub below_placed : (n : ℕ) (far : ℕ → ℕ) (x : ℕ) (s : List ℕ) → x < n → Below n s → Below n (placed far x s)
below_placed n far x [] a b = (a, tt)
below_placed n far x (y ∷ s) a (b, c) =
    elim (before far x y) as (λ t. Below n (cond t (x ∷ y ∷ s) (cond (eqb x y) (y ∷ s) (y ∷ placed far x s)))) [
      | true ↦ (a, (b, c))
      | false ↦ elim (eqb x y) as (λ t. Below n (cond t (y ∷ s) (y ∷ placed far x s))) [ true ↦ (b, c) | false ↦ (b, below_placed n far x s a c) ]
    ]

pub below_all_placed : (n : ℕ) (far : ℕ → ℕ) (xs s : List ℕ) → Below n xs → Below n s → Below n (all_placed far s xs)
below_all_placed n far [] s a b = b
below_all_placed n far (x ∷ xs) s (a, c) b = below_all_placed n far xs (placed far x s) c (below_placed n far x s a b)

pub below_in_order : (n : ℕ) (far : ℕ → ℕ) (xs : List ℕ) → Below n xs → Below n (in_order far xs)
below_in_order n far xs a = below_all_placed n far xs [] a tt

-- ---- names that rise with the rows below n

abbrev pub IsRise : (ℕ → ℕ) → ℕ → Type 0
IsRise f n = (r s : ℕ) → r < s → s < n → f r < f s

module _ (f : ℕ → ℕ) (n : ℕ) (rise : IsRise f n) where
  pub same_lt : (r s : ℕ) → r < n → s < n → ltb (f r) (f s) ≡ ltb r s
  same_lt r s a b = elim (cases_order r s) [
    | inl e ↦ ap (λ t. ltb (f t) (f s)) e ∙ le-ltb (f s) (f s) (omega arith) ∙ sym (le-ltb r s (omega arith))
    | inr c ↦ elim c [
      | inl l ↦ lt-ltb (f r) (f s) (rise r s l b) ∙ sym (lt-ltb r s l)
      | inr l ↦ le-ltb (f r) (f s) (let k = rise s r l a in omega arith) ∙ sym (le-ltb r s (omega arith))
    ]
  ]

  pub same_eq : (r s : ℕ) → r < n → s < n → eqb (f r) (f s) ≡ eqb r s
  same_eq r s a b = elim (cases_order r s) [
    | inl e ↦ eq-eqb (f r) (f s) (ap f e) ∙ sym (eq-eqb r s e)
    | inr c ↦ elim c [
      | inl l ↦ ne_eqb (f r) (f s) (λ e. let k = rise r s l b in omega arith) ∙ sym (ne_eqb r s (λ e. omega arith))
      | inr l ↦ ne_eqb (f r) (f s) (λ e. let k = rise s r l a in omega arith) ∙ sym (ne_eqb r s (λ e. omega arith))
    ]
  ]

  pub has_map : (v : List ℕ) (r : ℕ) → Below n v → r < n → has (map f v) (f r) ≡ has v r
  has_map [] r a b = refl
  has_map (y ∷ v) r (a, c) b = ap (λ t. t || has (map f v) (f r)) (same_eq r y b a) ∙ ap (λ t. eqb r y || t) (has_map v r c b)

  -- ---- order

  module _ (far far' : ℕ → ℕ) (same : (r : ℕ) → r < n → far' (f r) ≡ far r) where
    same_before : (r s : ℕ) → r < n → s < n → before far' (f r) (f s) ≡ before far r s
    same_before r s a b =
        let x = same r a in let y = same s b in let l = same_lt r s a b in
        ap (λ t. ltb t (far' (f s)) || (eqb t (far' (f s)) && ltb (f r) (f s))) x
        ∙ ap (λ t. ltb (far r) t || (eqb (far r) t && ltb (f r) (f s))) y
        ∙ ap (λ t. ltb (far r) (far s) || (eqb (far r) (far s) && t)) l

    pub placed_map : (x : ℕ) (s : List ℕ) → x < n → Below n s → placed far' (f x) (map f s) ≡ map f (placed far x s)
    placed_map x [] a b = refl
    placed_map x (y ∷ s) a (b, c) =
        ap (λ t. cond t (f x ∷ f y ∷ map f s) (cond (eqb (f x) (f y)) (f y ∷ map f s) (f y ∷ placed far' (f x) (map f s)))) (same_before x y a b)
        ∙ ap (λ t. cond (before far x y) (f x ∷ f y ∷ map f s) (cond t (f y ∷ map f s) (f y ∷ placed far' (f x) (map f s)))) (same_eq x y a b)
        ∙ ap (λ t. cond (before far x y) (f x ∷ f y ∷ map f s) (cond (eqb x y) (f y ∷ map f s) (f y ∷ t))) (placed_map x s a c)
        ∙ elim (before far x y) as (λ t. cond t (f x ∷ f y ∷ map f s) (cond (eqb x y) (f y ∷ map f s) (f y ∷ map f (placed far x s))) ≡ map f (cond t (x ∷ y ∷ s) (cond (eqb x y) (y ∷ s) (y ∷ placed far x s)))) [
          | true ↦ refl
          | false ↦ elim (eqb x y) as (λ t. cond t (f y ∷ map f s) (f y ∷ map f (placed far x s)) ≡ map f (cond t (y ∷ s) (y ∷ placed far x s))) [ true ↦ refl | false ↦ refl ]
        ]

    pub all_placed_map : (xs s : List ℕ) → Below n xs → Below n s → all_placed far' (map f s) (map f xs) ≡ map f (all_placed far s xs)
    all_placed_map [] s a b = refl
    all_placed_map (x ∷ xs) s (a, c) b = ap (λ t. all_placed far' t (map f xs)) (placed_map x s a b) ∙ all_placed_map xs (placed far x s) c (below_placed n far x s a b)

    pub in_order_map : (xs : List ℕ) → Below n xs → in_order far' (map f xs) ≡ map f (in_order far xs)
    in_order_map xs a = all_placed_map xs [] a tt

    pub top_map : (k : ℕ) (xs : List ℕ) → Below n xs → top far' k (map f xs) ≡ map f (top far k xs)
    top_map k xs a = ap (take k) (in_order_map xs a) ∙ take-map f k (in_order far xs)

  -- A set of rows is the set of their Pids.
  pub ascending_map : (xs : List ℕ) → Below n xs → ascending (map f xs) ≡ map f (ascending xs)
  ascending_map xs a = in_order_map (λ _. 0) (λ _. 0) (λ r b. refl) xs a

  -- ---- prunes, where distances between rows are those between Pids

  module _ (rule : Rule) (apart apart' : ℕ → ℕ → ℕ) (same : (r s : ℕ) → r < n → s < n → apart' (f r) (f s) ≡ apart r s) where
    covered_map : (p c : ℕ) (ks : List ℕ) → p < n → c < n → Below n ks → covered rule apart' (f p) (map f ks) (f c) ≡ covered rule apart p ks c
    covered_map p c [] a b k = refl
    covered_map p c (x ∷ ks) a b (h, k) =
        ap (λ t. leb (rule.a * rule.a * t) (rule.b * rule.b * apart' (f p) (f c)) || covered rule apart' (f p) (map f ks) (f c)) (same x c h b)
        ∙ ap (λ t. leb (rule.a * rule.a * apart x c) (rule.b * rule.b * t) || covered rule apart' (f p) (map f ks) (f c)) (same p c a b)
        ∙ ap (λ t. leb (rule.a * rule.a * apart x c) (rule.b * rule.b * apart p c) || t) (covered_map p c ks a b k)

    pub keep_map : (p : ℕ) (ks cs : List ℕ) → p < n → Below n ks → Below n cs → keep rule apart' (f p) (map f ks) (map f cs) ≡ map f (keep rule apart p ks cs)
    keep_map p ks [] a k b = refl
    keep_map p ks (c ∷ cs) a k (h, b) =
        ap (λ t. keep rule apart' (f p) (cond (ltb t rule.r && not (covered rule apart' (f p) (map f ks) (f c))) (map f ks ++ f c ∷ []) (map f ks)) (map f cs)) (length-map ks f)
        ∙ ap (λ t. keep rule apart' (f p) (cond (ltb (length ks) rule.r && not t) (map f ks ++ f c ∷ []) (map f ks)) (map f cs)) (covered_map p c ks a h k)
        ∙ elim (takes rule apart p ks c) as (λ t. keep rule apart' (f p) (cond t (map f ks ++ f c ∷ []) (map f ks)) (map f cs) ≡ map f (keep rule apart p (cond t (ks ++ c ∷ []) ks) cs)) [
          | true ↦ ap (λ t. keep rule apart' (f p) t (map f cs)) (sym (map-append f ks (c ∷ []))) ∙ keep_map p (ks ++ c ∷ []) cs a (below_append n ks (c ∷ []) k (h, tt)) b
          | false ↦ keep_map p ks cs a k b
        ]

    below_keep : (p : ℕ) (ks cs : List ℕ) → Below n ks → Below n cs → Below n (keep rule apart p ks cs)
    below_keep p ks [] k b = k
    below_keep p ks (c ∷ cs) k (h, b) = below_keep p (cond (takes rule apart p ks c) (ks ++ c ∷ []) ks) cs (elim (takes rule apart p ks c) as (λ t. Below n (cond t (ks ++ c ∷ []) ks)) [ true ↦ below_append n ks (c ∷ []) k (h, tt) | false ↦ k ]) b

    pub below_kept : (p : ℕ) (cs : List ℕ) → Below n cs → Below n (kept rule apart p cs)
    below_kept p cs b = below_in_order n (λ _. 0) (keep rule apart p [] (in_order (apart p) cs)) (below_keep p [] (in_order (apart p) cs) tt (below_in_order n (apart p) cs b))

    -- What a row keeps of rows is what its Pid keeps of their Pids.
    pub kept_map : (p : ℕ) (cs : List ℕ) → p < n → Below n cs → kept rule apart' (f p) (map f cs) ≡ map f (kept rule apart p cs)
    kept_map p cs a b =
        ap (λ t. ascending (keep rule apart' (f p) [] t)) (in_order_map (apart p) (apart' (f p)) (λ r l. same p r a l) cs b)
        ∙ ap ascending (keep_map p [] (in_order (apart p) cs) a tt (below_in_order n (apart p) cs b))
        ∙ ascending_map (keep rule apart p [] (in_order (apart p) cs)) (below_keep p [] (in_order (apart p) cs) tt (below_in_order n (apart p) cs b))

    pub within_map : (p : ℕ) (set : List ℕ) → p < n → Below n set → within rule apart' (f p) (map f set) ≡ map f (within rule apart p set)
    within_map p set a b =
        ap (λ t. cond (ltb rule.r t) (kept rule apart' (f p) (map f set)) (map f set)) (length-map set f)
        ∙ elim (ltb rule.r (length set)) as (λ t. cond t (kept rule apart' (f p) (map f set)) (map f set) ≡ map f (cond t (kept rule apart p set) set)) [ true ↦ kept_map p set a b | false ↦ refl ]

-- ---- walks

-- h is g with the name f r for each row r below n
pub record Renames (f : ℕ → ℕ) (n : ℕ) (g h : Ground) : Type 0 where
  pub rise : IsRise f n
  pub entry : h.entry ≡ f g.entry
  pub links : (r : ℕ) → r < n → h.links (f r) ≡ map f (g.links r)
  pub far : (r : ℕ) → r < n → h.far (f r) ≡ g.far r
  pub entry_in : g.entry < n
  pub links_in : (r : ℕ) → r < n → Below n (g.links r)

module _ (f : ℕ → ℕ) (n : ℕ) (g h : Ground) (w : Renames f n g h) where
  links_map : (v : List ℕ) → Below n v → flat_map h.links (map f v) ≡ map f (flat_map g.links v)
  links_map [] a = refl
  links_map (x ∷ v) (a, c) = ap (λ t. t ++ flat_map h.links (map f v)) (w.links x a) ∙ ap (λ t. map f (g.links x) ++ t) (links_map v c) ∙ sym (map-append f (g.links x) (flat_map g.links v))

  below_met : (v : List ℕ) → Below n v → Below n (met g v)
  below_met v a = (w.entry_in, below_flat_map n g.links v w.links_in a)

  -- The points near by Pids are those near by rows.
  pub near_map : (width : ℕ) (v : List ℕ) → Below n v → near h width (map f v) ≡ map f (near g width v)
  near_map width v a =
      ap (λ t. take width (all_placed h.far [] t)) (ap (λ t. t ∷ flat_map h.links (map f v)) w.entry ∙ ap (λ t. f g.entry ∷ t) (links_map v a))
      ∙ top_map f n w.rise g.far h.far w.far width (met g v) (below_met v a)

  pub below_near : (width : ℕ) (v : List ℕ) → Below n v → Below n (near g width v)
  below_near width v a = below_take n width (in_order g.far (met g v)) (below_in_order n g.far (met g v) (below_met v a))

  find_map : (v s : List ℕ) → Below n v → Below n s → find (λ p. not (has (map f v) p)) (map f s) ≡ option_map f (find (λ r. not (has v r)) s)
  find_map v [] a b = refl
  find_map v (y ∷ s) a (b, c) =
      ap (λ t. cond (not t) (Some (f y)) (find (λ p. not (has (map f v) p)) (map f s))) (has_map f n w.rise v y a b)
      ∙ ap (λ t. cond (not (has v y)) (Some (f y)) t) (find_map v s a c)
      ∙ elim (has v y) as (λ t. cond (not t) (Some (f y)) (option_map f (find (λ r. not (has v r)) s)) ≡ option_map f (cond (not t) (Some y) (find (λ r. not (has v r)) s))) [ true ↦ refl | false ↦ refl ]

  next_map : (width : ℕ) (v : List ℕ) → Below n v → next h width (map f v) ≡ option_map f (next g width v)
  next_map width v a = ap (find (λ p. not (has (map f v) p))) (near_map width v a) ∙ find_map v (near g width v) a (below_near width v a)

  found_in : (s v : List ℕ) (p : ℕ) → Below n s → find (λ r. not (has v r)) s ≡ Some p → p < n
  found_in [] v p a e = absurd (none_some p e)
  found_in (y ∷ s) v p (a, c) e =
      elim (has v y) as (λ t. cond (not t) (Some y) (find (λ r. not (has v r)) s) ≡ Some p → p < n) [
        | true ↦ λ e. found_in s v p c e
        | false ↦ λ e. subst (λ (t : ℕ). t < n) (some_is y p e) a
      ] e

  walk_map : (width k : ℕ) (v : List ℕ) → Below n v → walk_on h width k (map f v) ≡ map f (walk_on g width k v)
  walk_map width zero v a = refl
  walk_map width (suc k) v a =
      ap (λ (o : Option ℕ). elim o as (λ _. List ℕ) [ None ↦ map f v | Some q ↦ walk_on h width k (map f v ++ q ∷ []) ]) (next_map width v a)
      ∙ elim (next g width v) as (λ o. next g width v ≡ o → (elim (option_map f o) as (λ _. List ℕ) [ None ↦ map f v | Some q ↦ walk_on h width k (map f v ++ q ∷ []) ]) ≡ map f (elim o as (λ _. List ℕ) [ None ↦ v | Some p ↦ walk_on g width k (v ++ p ∷ []) ])) [
        | None ↦ λ e. refl
        | Some p ↦ λ e. ap (walk_on h width k) (sym (map-append f v (p ∷ []))) ∙ walk_map width k (v ++ p ∷ []) (below_append n v (p ∷ []) a (found_in (near g width v) v p (below_near width v a) e, tt))
      ] refl

  -- The Pids that a walk visits are those of the rows that it visits.
  pub visited_map : (width count : ℕ) → visited_of h width count ≡ map f (visited_of g width count)
  visited_map width count = walk_map width count [] tt

  below_walk : (width k : ℕ) (v : List ℕ) → Below n v → Below n (walk_on g width k v)
  below_walk width zero v a = a
  below_walk width (suc k) v a =
      elim (next g width v) as (λ o. next g width v ≡ o → Below n (elim o as (λ _. List ℕ) [ None ↦ v | Some p ↦ walk_on g width k (v ++ p ∷ []) ])) [
        | None ↦ λ e. a
        | Some p ↦ λ e. below_walk width k (v ++ p ∷ []) (below_append n v (p ∷ []) a (found_in (near g width v) v p (below_near width v a) e, tt))
      ] refl

  pub below_visited : (width count : ℕ) → Below n (visited_of g width count)
  below_visited width count = below_walk width count [] tt

  -- The points near at the end are those near by rows.
  pub near_visited_map : (width count : ℕ) → near h width (visited_of h width count) ≡ map f (near g width (visited_of g width count))
  near_visited_map width count = ap (near h width) (visited_map width count) ∙ near_map width (visited_of g width count) (below_visited width count)

  -- ---- rounds

  filter_map : (v s : List ℕ) → Below n v → Below n s → filter (λ p. not (has (map f v) p)) (map f s) ≡ map f (filter (λ r. not (has v r)) s)
  filter_map v [] a b = refl
  filter_map v (y ∷ s) a (b, c) =
      ap (λ t. cond (not t) (f y ∷ filter (λ p. not (has (map f v) p)) (map f s)) (filter (λ p. not (has (map f v) p)) (map f s))) (has_map f n w.rise v y a b)
      ∙ ap (λ t. cond (not (has v y)) (f y ∷ t) t) (filter_map v s a c)
      ∙ elim (has v y) as (λ t. cond (not t) (f y ∷ map f (filter (λ r. not (has v r)) s)) (map f (filter (λ r. not (has v r)) s)) ≡ map f (cond (not t) (y ∷ filter (λ r. not (has v r)) s) (filter (λ r. not (has v r)) s))) [ true ↦ refl | false ↦ refl ]

  round_map : (width b : ℕ) (v : List ℕ) → Below n v → round h width b (map f v) ≡ map f (round g width b v)
  round_map width b v a =
      ap (λ t. take b (filter (λ p. not (has (map f v) p)) t)) (near_map width v a)
      ∙ ap (take b) (filter_map v (near g width v) a (below_near width v a))
      ∙ take-map f b (filter (λ r. not (has v r)) (near g width v))

  below_round : (width b : ℕ) (v : List ℕ) → Below n v → Below n (round g width b v)
  below_round width b v a = below_take n b (filter (λ r. not (has v r)) (near g width v)) (below_filter n (λ r. not (has v r)) (near g width v) (below_near width v a))

  rounds_on_map : (width b k : ℕ) (v : List ℕ) → Below n v → rounds_on h width b k (map f v) ≡ map f (rounds_on g width b k v)
  rounds_on_map width b zero v a = refl
  rounds_on_map width b (suc k) v a =
      ap (λ (o : List ℕ). elim o as (λ _. List ℕ) [ [] ↦ map f v | q ∷ qs ↦ rounds_on h width b k (map f v ++ q ∷ qs) ]) (round_map width b v a)
      ∙ elim (round g width b v) as (λ o. round g width b v ≡ o → (elim (map f o) as (λ _. List ℕ) [ [] ↦ map f v | q ∷ qs ↦ rounds_on h width b k (map f v ++ q ∷ qs) ]) ≡ map f (elim o as (λ _. List ℕ) [ [] ↦ v | p ∷ ps ↦ rounds_on g width b k (v ++ p ∷ ps) ])) [
        | [] ↦ λ e. refl
        | p ∷ ps ↦ λ e. ap (rounds_on h width b k) (sym (map-append f v (p ∷ ps))) ∙ rounds_on_map width b k (v ++ p ∷ ps) (below_append n v (p ∷ ps) a (subst (Below n) e (below_round width b v a)))
      ] refl

  -- The Pids that rounds visit are those of the rows that they visit.
  pub rounds_map : (width b count : ℕ) → rounds_of h width b count ≡ map f (rounds_of g width b count)
  rounds_map width b count = rounds_on_map width b count [] tt
