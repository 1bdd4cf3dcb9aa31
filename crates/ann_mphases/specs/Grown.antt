-- What the Insert phase makes of the survivors and the new points.
use Rattle.std.specs.Prelude.{◌≡◌, ◌≢◌, ◌≤◌, ◌<◌, ◌+◌, ◌++◌, ℕ, List, [], All, drop, length, map, take}
use Rattle.std.specs.List.Sorted.{IsStrictlyIncreasing}
use Rattle.ann_types.specs.Codes.{decoded}
use Rattle.ann_types.specs.Index.{Index}
use Rattle.ann_types.specs.Legal.{pid_end}
use Rattle.ann_types.specs.Merge.{base_size}
use Rattle.ann_types.specs.declared.new_point.NewPoint.{NewPoint}
use Rattle.ann_minsert.specs.Added.{linked_all}
use Rattle.ann_minsert.specs.Base.{AreListsOf, BaseView, IsBase, IsBaseOf}
use Rattle.ann_minsert.specs.Made.{IsMade}
use Rattle.ann_mplan.specs.Back.{deltas_of}
use Rattle.ann_mphases.specs.declared.grown.Grown.{Grown}

-- the lists and the decoded vectors of the survivors, and the new points, belong together
pub record MayGrow (d : ℕ) (lists vectors : List (List ℕ)) (points : List NewPoint) : Type 0 where
  pub graph : AreListsOf (length vectors) lists
  pub wide : All (λ vector. length vector ≡ d) vectors
  pub rising : IsStrictlyIncreasing (map (λ (x : NewPoint). x.pid) points)
  pub small : All (λ (x : NewPoint). x.pid < pid_end) points
  pub new_wide : All (λ (x : NewPoint). length x.vector ≡ d) points
  pub few : length vectors + length points ≤ pid_end

-- the base, and the new points outside it
pub record IsChosen (index : Index) (lists vectors : List (List ℕ)) (points : List NewPoint) (base : BaseView) (outside : List NewPoint) : Type 0 where
  pub sound : IsBase base
  pub left : vectors ≢ [] → IsBaseOf lists vectors base × (outside ≡ points)
  pub first : vectors ≡ [] → IsMade index.params index.book (take base_size points) base × (outside ≡ drop base_size points)
  pub wide : All (λ vector. length vector ≡ index.params.d) base.vectors
  pub new_wide : All (λ (x : NewPoint). length x.vector ≡ index.params.d) outside
  pub few : length base.vectors + length outside ≤ pid_end

-- the lists of the base, the links of the points outside and the same turned round, and all decoded vectors
pub record IsLinkedOn (index : Index) (base : BaseView) (outside : List NewPoint) (grown : Grown) : Type 0 where
  pub own : grown.lists ≡ base.lists
  pub linked : grown.links ≡ linked_all index.params index.book base outside
  pub added : grown.delta ≡ deltas_of (length base.lists) grown.links
  pub vectors : grown.decoded ≡ base.vectors ++ map (λ (x : NewPoint). decoded index.book x.vector) outside
  pub wide : All (λ vector. length vector ≡ index.params.d) grown.decoded

-- all of it
pub record IsGrown (index : Index) (lists vectors : List (List ℕ)) (points : List NewPoint) (grown : Grown) : Type 0 where
  pub base : BaseView
  pub outside : List NewPoint
  pub chosen : IsChosen index lists vectors points base outside
  pub on_base : IsLinkedOn index base outside grown
