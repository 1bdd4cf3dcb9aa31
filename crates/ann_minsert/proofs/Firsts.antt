-- The first row that is nearest to the mean is the entry that the definition chooses.
use Rattle.std.proofs.Common.{◌≡◌, ◌⊎◌, ℕ, zero, suc, ◌<◌, ◌/◌, true, List, [], ◌∷◌, refl, sym, ap, subst, ◌∙◌, arith, length, get_or, take, replicate, inl, inr, eqb-true, eq-eqb}
use Rattle.std.specs.Prelude.{Option, Some, option_map}
use Rattle.std.specs.List.{All, slice_get}
use Rattle.std.proofs.lemmas.Bool.{false≢true, cases_lt, cases_eq}
use Rattle.std.proofs.lemmas.List.{length-map}
use Rattle.std.proofs.lemmas.List.FromFn.{fill_by_all}
use Rattle.std.proofs.Math.ListN.{get_or-map}
use Rattle.ann_types.specs.Distance.{distance}
use Rattle.ann_types.specs.Order.{has, before, top, in_order}
use Rattle.ann_types.specs.Graph.{Point, pids_of, far_from}
use Rattle.ann_types.specs.Merge.{mean, central}
use Rattle.ann_types.specs.Put.{alone}
use Rattle.ann_types.specs.Rows.{pid_at}
use Rattle.ann_types.proofs.Ordered.{IsRising, before_from, before-asymmetric, rising_in_order, has_in_order, has_cases, has_here, after_has}
use Rattle.ann_types.proofs.Sets.{Rises, rises_from_increasing}
use Rattle.ann_types.proofs.Rowed.{pids_rise_at, has_pid_at, far_at, row_of}
use Rattle.ann_mdelete.specs.Decoded.{width_of}
use Rattle.ann_minsert.specs.Mean.{AreRowsOf, IsCentral, sum_at, IsFirst, far_of}

-- ---- sums

pub zeros_at : (n i : ℕ) → get_or {A = ℕ} (replicate n 0) i 0 ≡ 0
zeros_at zero i = refl
zeros_at (suc n) zero = refl
zeros_at (suc n) (suc i) = zeros_at n i

pub mean_is : (vectors : List (List ℕ)) (d : ℕ) (middle : List ℕ) → length middle ≡ d → ((i : ℕ) → i < d → get_or middle i 0 ≡ sum_at vectors i / length vectors) → middle ≡ mean d vectors
mean_is vectors d middle long each = fill_by_all (λ i. sum_at vectors i / length vectors) middle d 0 long each

-- ---- the least comes first

head_is : (far : ℕ → ℕ) (p : ℕ) (s : List ℕ) → IsRising far s → has s p ≡ true → ((q : ℕ) → has s q ≡ true → (q ≡ p) ⊎ (before far p q ≡ true)) → slice_get (take 1 s) 0 ≡ Some p
head_is far p [] r h least = absurd (false≢true h)
head_is far p (y ∷ ys) r h least =
    let here : has (y ∷ ys) y ≡ true = has_here y y ys (eq-eqb y y refl) in
    elim (least y here) [
      | inl is ↦ ap Some is
      | inr b ↦ elim (has_cases y p ys h) [
        | inl e ↦ ap Some (sym (eqb-true p y e))
        | inr m ↦ absurd (false≢true (sym (before-asymmetric far p y b) ∙ after_has far y p ys r.0 m))
      ]
    ]

pub top_one : (far : ℕ → ℕ) (p : ℕ) (xs : List ℕ) → has xs p ≡ true → ((q : ℕ) → has xs q ≡ true → (q ≡ p) ⊎ (before far p q ≡ true)) → slice_get (top far 1 xs) 0 ≡ Some p
top_one far p xs h least =
    head_is far p (in_order far xs) (rising_in_order far xs) (has_in_order far p xs ∙ h) (λ q k. least q (sym (has_in_order far q xs) ∙ k))

-- ---- by Pids

module _ (points : List Point) (vectors : List (List ℕ)) (are : AreRowsOf points vectors) where
  abbrev nowhere : Point
  nowhere = alone 0 0 []

  pub count_is : length points ≡ length vectors
  count_is = sym (length-map points (λ (x : Point). x.vector)) ∙ ap length are.same

  pub rises : Rises (pids_of points)
  rises = rises_from_increasing (pids_of points) are.rising

  pub vector_is : (row : ℕ) → (get_or points row nowhere).vector ≡ get_or vectors row []
  vector_is row = sym (get_or-map (λ (x : Point). x.vector) points row nowhere) ∙ ap (λ t. get_or t row []) are.same

  pub far_is : (query : List ℕ) (row : ℕ) → row < length points → far_from points query (pid_at points row) ≡ far_of vectors query row
  far_is query row l = far_at points query row nowhere rises l ∙ ap (distance query) (vector_is row)

  -- The least row's Pid stands before all others.
  least_before : (query : List ℕ) (row : ℕ) → IsFirst (far_of vectors query) (length vectors) row → (q : ℕ) → has (pids_of points) q ≡ true → (q ≡ pid_at points row) ⊎ (before (far_from points query) (pid_at points row) q ≡ true)
  least_before query row is q h =
      let count = count_is in
      let at = row_of points q h in
      let there : at.0 < length points = at.1 in
      let within : row < length points = (let i = is.inside in omega arith) in
      let far_row = far_is query row within in
      let far_other = far_is query at.0 there in
      elim (cases_eq at.0 row) [
        | inl e ↦ inl (sym at.2 ∙ ap (pid_at points) e)
        | inr other ↦ inr (subst (λ (p : ℕ). before (far_from points query) (pid_at points row) p ≡ true) at.2
            (before_from (far_from points query) (pid_at points row) (pid_at points at.0)
            (elim (cases_lt at.0 row) [
              | inl low ↦ inl (let less = is.first at.0 low in omega arith)
              | inr high ↦ elim (cases_lt (far_of vectors query row) (far_of vectors query at.0)) [
                | inl less ↦ inl (omega arith)
                | inr same ↦ inr (let most = is.least at.0 (omega arith) in (omega arith, pids_rise_at points rises row at.0 (omega arith) there))
              ]
            ])))
      ]

  -- The first row that is nearest to the mean is the entry.
  pub central_is : (d : ℕ) (middle : List ℕ) (row : ℕ) → middle ≡ mean d vectors → IsFirst (far_of vectors middle) (length vectors) row → central d points ≡ Some (pid_at points row)
  central_is d middle row are_mean is =
      let count = count_is in
      ap (λ m. slice_get (top (far_from points m) 1 (pids_of points)) 0) (ap (mean d) are.same ∙ sym are_mean)
      ∙ top_one (far_from points middle) (pid_at points row) (pids_of points) (has_pid_at points row (let i = is.inside in omega arith)) (least_before middle row is)

-- The width that the vectors have is the number of their components, where there are any.
pub central_wide : (d : ℕ) (vectors : List (List ℕ)) (row : Option ℕ) → All (λ vector. length vector ≡ d) vectors → IsCentral (width_of vectors) vectors row → IsCentral d vectors row
central_wide d [] row wide is [] are = is [] are
central_wide d [] row wide is (x ∷ points) are = absurd (let count = count_is (x ∷ points) [] are in omega arith)
central_wide d (v ∷ vectors) row wide is points are = subst (λ (n : ℕ). central n points ≡ option_map (pid_at points) row) (wide 0 [] (omega arith)) (is points are)
