-- The Pids of a merge: those that stay ascend as all do.
use Rattle.std.proofs.Common.{◌≡◌, ℕ, ◌<◌, Bool, false, List, [], ◌∷◌, ◌++◌, refl, sym, ap, subst, ◌∙◌, arith, not, map, filter, length}
use Rattle.std.specs.Prelude.{All}
use Rattle.std.specs.List.{AllByRecursion, range_with_len}
use Rattle.std.specs.List.Sorted.{IsStrictlyIncreasing}
use Rattle.std.proofs.lemmas.List.{length-map, get_or-map}
use Rattle.std.proofs.lemmas.List.Elements.{All-from_recursion, recursion_from_All}
use Rattle.std.proofs.lemmas.List.FromFn.{fill_by_all}
use Rattle.ann_types.specs.Fold.{new_point}
use Rattle.ann_types.specs.Graph.{Point, pids_of}
use Rattle.ann_types.specs.Merge.{survivors, without}
use Rattle.ann_types.specs.Order.{has}
use Rattle.ann_types.specs.declared.new_point.NewPoint.{NewPoint}
use Rattle.ann_types.proofs.Sets.{Rises, all_filter, increasing_from_rises, rises_filter, rises_from_increasing}
use Rattle.ann_frozen.specs.Frozen.{FrozenView}
use Rattle.ann_segment.specs.Directory.{Item, item_of}
use Rattle.ann_mdelete.specs.Rows.{gone_rows, left_rows}
use Rattle.ann_mdelete.proofs.Gone.{gone_is}
use Rattle.ann_mdelete.proofs.Points.{below_range, filter_below, filter_of, map_twice}
use Rattle.ann_mplan.specs.Old.{gone_in}
use Rattle.ann_merge.specs.Gathered.{frozen_points, new_of}

-- ---- parts of ascending Pids

all_part : (P : ℕ → Type 0) (q : ℕ → Bool) (xs ys : List ℕ) → AllByRecursion P (xs ++ ys) → AllByRecursion P (xs ++ filter q ys)
all_part P q [] ys a = all_filter P q ys a
all_part P q (x ∷ xs) ys (h, a) = (h, all_part P q xs ys a)

rises_part : (q : ℕ → Bool) (xs ys : List ℕ) → Rises (xs ++ ys) → Rises (xs ++ filter q ys)
rises_part q [] ys r = rises_filter q ys r
rises_part q (x ∷ xs) ys (a, r) = (all_part (λ y. x < y) q xs ys a, rises_part q xs ys r)

all_front : (P : ℕ → Type 0) (xs ys : List ℕ) → AllByRecursion P (xs ++ ys) → AllByRecursion P xs
all_front P [] ys a = tt
all_front P (x ∷ xs) ys (h, a) = (h, all_front P xs ys a)

all_behind : (P : ℕ → Type 0) (xs ys : List ℕ) → AllByRecursion P (xs ++ ys) → AllByRecursion P ys
all_behind P [] ys a = a
all_behind P (x ∷ xs) ys (h, a) = all_behind P xs ys a

all_back : {A B : Type 0} (P : B → Type 0) (f : A → B) (xs : List A) → AllByRecursion P (map f xs) → AllByRecursion (λ x. P (f x)) xs
all_back P f [] a = tt
all_back P f (x ∷ xs) (h, a) = (h, all_back P f xs a)

-- ---- new points

pub new_pids : (gone : List ℕ) (frozen : List FrozenView) → map (λ (x : NewPoint). x.pid) (new_of gone frozen) ≡ without gone (pids_of (frozen_points frozen))
new_pids gone frozen =
    map_twice new_point (λ (x : NewPoint). x.pid) (survivors gone (frozen_points frozen))
    ∙ sym (filter_of (λ (x : Point). x.pid) (λ p. not (has gone p)) (frozen_points frozen))

module _ (items : List Item) (frozen : List FrozenView) where
  abbrev pid : Item → ℕ
  pid item = item.0

  pub rising_with_new : (gone : List ℕ) → IsStrictlyIncreasing (map pid items ++ pids_of (frozen_points frozen)) → IsStrictlyIncreasing (map pid items ++ map (λ (x : NewPoint). x.pid) (new_of gone frozen))
  rising_with_new gone rising =
      let all : List ℕ = map pid items ++ pids_of (frozen_points frozen) in
      let part : List ℕ = map pid items ++ without gone (pids_of (frozen_points frozen)) in
      subst (λ (ps : List ℕ). IsStrictlyIncreasing (map pid items ++ ps)) (sym (new_pids gone frozen))
      (increasing_from_rises part (rises_part (λ p. not (has gone p)) (map pid items) (pids_of (frozen_points frozen)) (rises_from_increasing all rising)))

  pub old_all : (P : ℕ → Type 0) → All P (map pid items ++ pids_of (frozen_points frozen)) → All (λ (item : Item). P item.0) items
  old_all P small =
      All-from_recursion (λ (item : Item). P item.0) items
      (all_back P pid items (all_front P (map pid items) (pids_of (frozen_points frozen)) (recursion_from_All P (map pid items ++ pids_of (frozen_points frozen)) small)))

  pub new_all : (P : ℕ → Type 0) (gone : List ℕ) → All P (map pid items ++ pids_of (frozen_points frozen)) → All (λ (x : NewPoint). P x.pid) (new_of gone frozen)
  new_all P gone small =
      All-from_recursion (λ (x : NewPoint). P x.pid) (new_of gone frozen)
      (all_back P (λ (x : NewPoint). x.pid) (new_of gone frozen)
      (subst (AllByRecursion P) (sym (new_pids gone frozen))
      (all_filter P (λ p. not (has gone p)) (pids_of (frozen_points frozen))
      (all_behind P (map pid items) (pids_of (frozen_points frozen)) (recursion_from_All P (map pid items ++ pids_of (frozen_points frozen)) small)))))

-- ---- what stays

-- the items of the rows that survive have the Pids that aren't deleted
pub kept_pids : (dead : List ℕ) (items : List Item) → map (λ (item : Item). item.0) (map (item_of items) (left_rows (gone_in dead items) 0 (length (gone_in dead items)))) ≡ without dead (map (λ (item : Item). item.0) items)
kept_pids dead items =
    let gone : List Bool = gone_in dead items in
    let n : ℕ = length items in
    let size : length gone ≡ n = length-map items (λ (item : Item). has dead item.0) in
    let q : ℕ → Bool = λ r. not (has dead (item_of items r).0) in
    let at : (r : ℕ) → r < n → not (has dead (item_of items r).0) ≡ not (has (gone_rows gone) r) =
    λ r h. ap not (sym (gone_is gone r (omega arith) ∙ get_or-map (λ (item : Item). has dead item.0) items r (0, []) false h)) in
    let whole : items ≡ map (item_of items) (range_with_len 0 n) = fill_by_all (item_of items) items n (0, []) refl (λ k h. refl) in
    ap (λ (k : ℕ). map (λ (item : Item). item.0) (map (item_of items) (left_rows gone 0 k))) size
    ∙ ap (λ (rs : List ℕ). map (λ (item : Item). item.0) (map (item_of items) rs)) (sym (filter_below (λ r. not (has (gone_rows gone) r)) q n at (range_with_len 0 n) (below_range 0 n n (omega arith))))
    ∙ ap (map (λ (item : Item). item.0)) (sym (filter_of (item_of items) (λ (item : Item). not (has dead item.0)) (range_with_len 0 n)))
    ∙ ap (λ (xs : List Item). map (λ (item : Item). item.0) (filter (λ (item : Item). not (has dead item.0)) xs)) (sym whole)
    ∙ sym (filter_of (λ (item : Item). item.0) (λ p. not (has dead p)) items)
