-- The links turned round are the new points that are linked to each point of the base, by their rows.
use Rattle.std.proofs.Common.{◌≡◌, ℕ, zero, suc, ◌+◌, ◌-◌, ◌≤◌, ◌<◌, Bool, true, false, cond, List, [], ◌∷◌, ◌++◌, refl, sym, ap, ap₂, subst, ◌∙◌, arith, map, filter, length, get_or, length-append}
use Rattle.std.specs.Prelude.{All}
use Rattle.std.specs.List.{AllByRecursion, range_with_len}
use Rattle.std.specs.List.Sorted.{IsStrictlyIncreasing}
use Rattle.std.proofs.lemmas.List.{get_or-map, length-map, map-append, get_or_append_left, get_or-append-add}
use Rattle.std.proofs.lemmas.List.Elements.{All-from_recursion, recursion_from_All}
use Rattle.std.proofs.lemmas.List.FromFn.{fill_by_all, get_or-map-range_with_len, length-map-range_with_len}
use Rattle.ann_types.specs.Order.{has}
use Rattle.ann_types.specs.Graph.{Point, pids_of}
use Rattle.ann_types.specs.Merge.{delta}
use Rattle.ann_types.specs.Rows.{pid_at}
use Rattle.ann_types.proofs.Renamed.{Below, has_map}
use Rattle.ann_types.proofs.Rowed.{pids_rise_at, pid_of_at}
use Rattle.ann_types.proofs.Sets.{Rises, all_filter, all_map, increasing_from_rises, rises_filter}
use Rattle.ann_mdelete.proofs.Points.{below_range, each_below, filter_below, filter_of, map_twice, point_in}
use Rattle.ann_mplan.specs.Back.{AreInto, deltas_of, linking}
use Rattle.ann_mplan.proofs.Rising.{rises_range}

-- ---- the rows of the base are the first ones

pub pid_front : (base new : List Point) (row : ℕ) → row < length base → pid_at (base ++ new) row ≡ pid_at base row
pid_front base new row h =
    let size = length-map base (λ (x : Point). x.pid) in
    ap (λ (t : List ℕ). get_or t row 0) (map-append (λ (x : Point). x.pid) base new)
    ∙ get_or_append_left (pids_of base) (pids_of new) 0 row (omega arith)

pub named_front : (base new : List Point) (rows : List ℕ) → Below (length base) rows → map (pid_at (base ++ new)) rows ≡ map (pid_at base) rows
named_front base new rows below = each_below (pid_at (base ++ new)) (pid_at base) (length base) (pid_front base new) rows below

pid_behind : (base new : List Point) (i : ℕ) → pid_at (base ++ new) (length base + i) ≡ pid_at new i
pid_behind base new i =
    ap (λ (t : List ℕ). get_or t (length base + i) 0) (map-append (λ (x : Point). x.pid) base new)
    ∙ ap (λ (n : ℕ). get_or (pids_of base ++ pids_of new) (n + i) 0) (sym (length-map base (λ (x : Point). x.pid)))
    ∙ get_or-append-add (pids_of base) (pids_of new) i 0

-- ---- by the Pids

module _ (base new : List Point) (links : List (List ℕ)) (rises : Rises (pids_of (base ++ new))) (same : map (λ (x : Point). x.links) new ≡ map (map (pid_at (base ++ new))) links) (into : AreInto (length base) links) where
  count_links : length links ≡ length new
  count_links = sym (length-map links (map (pid_at (base ++ new)))) ∙ ap length (sym same) ∙ length-map new (λ (x : Point). x.links)

  -- the neighbours of a new point are those of its row
  links_at : (i : ℕ) → i < length new → (point_in new i).links ≡ map (pid_at (base ++ new)) (get_or links i [])
  links_at i h =
      let count = count_links in
      sym (get_or-map (λ (x : Point). x.links) new i (record { pid = 0; tag = 0; vector = []; links = [] }) [] h)
      ∙ ap (λ (t : List (List ℕ)). get_or t i []) same
      ∙ get_or-map (map (pid_at (base ++ new))) links i [] [] (omega arith)

  -- a new point has a point of the base where its row has the row
  linked_at : (row i : ℕ) → row < length base → i < length new → has (point_in new i).links (pid_at (base ++ new) row) ≡ has (get_or links i []) row
  linked_at row i b h =
      let count = count_links in
      let all = length-append base new in
      ap (λ (t : List ℕ). has t (pid_at (base ++ new) row)) (links_at i h)
      ∙ has_map (pid_at (base ++ new)) (length base) (λ r s l m. pids_rise_at (base ++ new) rises r s l (omega arith)) (get_or links i []) row
      (recursion_from_All (λ r. r < length base) (get_or links i []) (into.inside i (omega arith))) b

  delta_at : (row : ℕ) → row < length base → delta new (pid_at (base ++ new) row) ≡ map (pid_at (base ++ new)) (linking (length base) links (length links) row)
  delta_at row b =
      let pid : ℕ → ℕ = pid_at (base ++ new) in
      let m : ℕ = length new in
      let q : ℕ → Bool = λ i. has (get_or links i []) row in
      let points : new ≡ map (point_in new) (range_with_len 0 m) = fill_by_all (point_in new) new m (record { pid = 0; tag = 0; vector = []; links = [] }) refl (λ k h. refl) in
      ap (λ (t : List Point). pids_of (filter (λ (x : Point). has x.links (pid row)) t)) points
      ∙ ap pids_of (filter_of (point_in new) (λ (x : Point). has x.links (pid row)) (range_with_len 0 m)
      ∙ ap (map (point_in new)) (filter_below q (λ i. has (point_in new i).links (pid row)) m (λ i h. linked_at row i b h) (range_with_len 0 m) (below_range 0 m m (omega arith))))
      ∙ map_twice (point_in new) (λ (x : Point). x.pid) (filter q (range_with_len 0 m))
      ∙ each_below (λ i. (point_in new i).pid) (λ i. pid (length base + i)) m
      (λ i h. sym (pid_behind base new i ∙ pid_of_at new i (record { pid = 0; tag = 0; vector = []; links = [] }) h))
      (filter q (range_with_len 0 m)) (all_filter (λ r. r < m) q (range_with_len 0 m) (below_range 0 m m (omega arith)))
      ∙ sym (map_twice (λ i. length base + i) pid (filter q (range_with_len 0 m)))
      ∙ ap (λ (n : ℕ). map pid (map (λ i. length base + i) (filter q (range_with_len 0 n)))) (sym count_links)

  -- The lists turned round are Delta of each point of the base.
  pub deltas_by_pids : map (λ (x : Point). delta new x.pid) base ≡ map (map (pid_at (base ++ new))) (deltas_of (length base) links)
  deltas_by_pids =
      let n : ℕ = length base in
      let points : base ≡ map (point_in base) (range_with_len 0 n) = fill_by_all (point_in base) base n (record { pid = 0; tag = 0; vector = []; links = [] }) refl (λ k h. refl) in
      ap (map (λ (x : Point). delta new x.pid)) points
      ∙ map_twice (point_in base) (λ (x : Point). delta new x.pid) (range_with_len 0 n)
      ∙ each_below (λ row. delta new (point_in base row).pid) (λ row. map (pid_at (base ++ new)) (linking n links (length links) row)) n
      (λ row b. ap (delta new) (sym (pid_front base new row b ∙ pid_of_at base row (record { pid = 0; tag = 0; vector = []; links = [] }) b)) ∙ delta_at row b)
      (range_with_len 0 n) (below_range 0 n n (omega arith))
      ∙ sym (map_twice (linking n links (length links)) (map (pid_at (base ++ new))) (range_with_len 0 n))

-- ---- what they are

-- later rows in ascending order
pub record AreLater (low high : ℕ) (list : List ℕ) : Type 0 where
  pub rising : IsStrictlyIncreasing list
  pub inside : All (λ row. (low ≤ row) × (row < high)) list

rises_moved : (n : ℕ) (xs : List ℕ) → Rises xs → Rises (map (λ i. n + i) xs)
rises_moved n [] w = tt
rises_moved n (x ∷ xs) (above, w) = (all_moved xs above, rises_moved n xs w)
  where
    all_moved : (ys : List ℕ) → AllByRecursion (λ y. x < y) ys → AllByRecursion (λ y. n + x < y) (map (λ i. n + i) ys)
    all_moved [] a = tt
    all_moved (y ∷ ys) (k, a) = (omega arith, all_moved ys a)

pub linking_later : (base : ℕ) (links : List (List ℕ)) (count row : ℕ) → AreLater base (base + count) (linking base links count row)
linking_later base links count row =
    let q : ℕ → Bool = λ i. has (get_or links i []) row in
    let some : List ℕ = filter q (range_with_len 0 count) in
    record {
      rising = increasing_from_rises (linking base links count row) (rises_moved base some (rises_filter q (range_with_len 0 count) (rises_range 0 count)));
      inside = All-from_recursion (λ r. (base ≤ r) × (r < base + count)) (linking base links count row)
          (all_map (λ r. (base ≤ r) × (r < base + count)) (λ i. base + i) some (each some (all_filter (λ r. r < count) q (range_with_len 0 count) (below_range 0 count count (omega arith)))));
    }
  where
    each : (xs : List ℕ) → AllByRecursion (λ r. r < count) xs → AllByRecursion (λ i. (base ≤ base + i) × (base + i < base + count)) xs
    each [] a = tt
    each (x ∷ xs) (k, a) = ((omega arith, omega arith), each xs a)

-- so the lists turned round may be the new neighbours of the base
pub deltas_later : (base : ℕ) (links : List (List ℕ)) → All (AreLater base (base + length links)) (deltas_of base links)
deltas_later base links =
    All-from_recursion (AreLater base (base + length links)) (deltas_of base links) (all_map (AreLater base (base + length links)) (linking base links (length links)) (range_with_len 0 base) (each (range_with_len 0 base)))
  where
    each : (xs : List ℕ) → AllByRecursion (λ row. AreLater base (base + length links) (linking base links (length links) row)) xs
    each [] = tt
    each (x ∷ xs) = (linking_later base links (length links) x, each xs)
