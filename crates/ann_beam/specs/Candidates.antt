-- The rows that a beam may visit next, in a pool of rows at their guided distances.
use Rattle.std.specs.Prelude.{◌≡◌, ◌<◌, ℕ, All, List, ◌++◌, filter, not, take, length}
use Rattle.ann_types.specs.Order.{has, all_placed}
use Rattle.ann_pool.specs.Pool.{PoolView}
use Rattle.ann_greedy.specs.Shows.{AreFar, AreRows, Shows}
use Rattle.ann_pq.specs.Tables.{looked_up}
use Rattle.ann_segment.specs.Directory.{Item, item_of}

-- how far a row is by its code and the tables of a query
abbrev pub far_row : List (List ℕ) → List Item → ℕ → ℕ
far_row tables items row = looked_up tables (item_of items row).1

-- each candidate is a row at its guided distance
pub record AreCandidates (tables : List (List ℕ)) (items : List Item) (pool : PoolView) : Type 0 where
  pub far : AreFar (far_row tables items) pool.items
  pub rows : AreRows (length items) pool.items

-- these rows were met
pub record HasMet (tables : List (List ℕ)) (items : List Item) (met : List ℕ) (old new : PoolView) : Type 0 where
  pub limit : new.limit ≡ old.limit
  pub candidates : AreCandidates tables items new
  pub shows : (visited order : List ℕ) → Shows (far_row tables items) visited order old → Shows (far_row tables items) visited (all_placed (far_row tables items) order met) new

-- the rows chosen for a round of this width: the first of those that the pool shows and that aren't marked yet
pub record Chooses (w : ℕ) (rows : List ℕ) (old new : PoolView) (far : ℕ → ℕ) (visited order : List ℕ) : Type 0 where
  pub first : rows ≡ take w (filter (λ row. not (has visited row)) (take old.limit order))
  pub shows : Shows far (visited ++ rows) order new

-- these rows were chosen, and the others stay as they were
pub record HasChosen (w : ℕ) (rows : List ℕ) (old new : PoolView) : Type 0 where
  pub limit : new.limit ≡ old.limit
  pub far : (far : ℕ → ℕ) → AreFar far old.items → AreFar far new.items
  pub among : (count : ℕ) → AreRows count old.items → AreRows count new.items
  pub inside : (count : ℕ) → AreRows count old.items → All (λ row. row < count) rows
  pub chosen : (far : ℕ → ℕ) (visited order : List ℕ) → Shows far visited order old → Chooses w rows old new far visited order
