-- What a pool shows of a walk.
use Rattle.std.specs.Prelude.{◌≡◌, ℕ, ◌<◌, true, List, [], ◌∷◌, ◌++◌, Option, Some, None, Result, OnOk, take, map}
use Rattle.std.specs.List.{AllByRecursion}
use Rattle.ann_types.specs.Order.{has, in_order, all_placed}
use Rattle.ann_types.specs.Walk.{Ground, met, near, next}
use Rattle.ann_pool.specs.declared.item.Item.{Item}
use Rattle.ann_pool.specs.Pool.{PoolView}
use Rattle.ann_greedy.specs.Rows.{Rows, far_row, ground_at, near_rows, visited_rows}

-- a row that was met, with its mark
abbrev pub item : (ℕ → ℕ) → List ℕ → ℕ → Item
item far visited row = record { distance = far row; number = row; visited = has visited row }

-- a row that was visited
abbrev pub seen : (ℕ → ℕ) → ℕ → Item
seen far row = record { distance = far row; number = row; visited = true }

-- each item has its row's distance
abbrev pub AreFar : (ℕ → ℕ) → List Item → Type 0
AreFar far items = AllByRecursion (λ i. i.distance ≡ far i.number) items

-- each item is a row
abbrev pub AreRows : ℕ → List Item → Type 0
AreRows count items = AllByRecursion (λ i. i.number < count) items

-- a pool shows the least of the rows met, which stand in order, and marks those visited; it knows no others
pub record Shows (far : ℕ → ℕ) (visited order : List ℕ) (pool : PoolView) : Type 0 where
  pub rising : in_order far order ≡ order
  pub marks : (z : ℕ) → has visited z ≡ true → has order z ≡ true
  pub items : pool.items ≡ map (item far visited) (take pool.limit order)
  pub met : (z : ℕ) → has pool.met z ≡ true → has order z ≡ true

-- each item of a pool is a row of the graph, at its distance from the query
pub record IsOf (graph : Rows) (query : List ℕ) (pool : PoolView) : Type 0 where
  pub far : AreFar (far_row graph query) pool.items
  pub rows : AreRows graph.count pool.items

-- the limit stays, and each item is a row of the graph, at its distance from the query
pub record IsKept (graph : Rows) (query : List ℕ) (old new : PoolView) : Type 0 where
  pub limit : new.limit ≡ old.limit
  pub far : AreFar (far_row graph query) new.items
  pub rows : AreRows graph.count new.items

-- rows were met: whatever rows a pool showed, it shows those and these
abbrev pub Meets : Rows → List ℕ → List ℕ → PoolView → PoolView → Type 0
Meets graph query rows old new =
    (visited order : List ℕ) → Shows (far_row graph query) visited order old → Shows (far_row graph query) visited (all_placed (far_row graph query) order rows) new

-- a pool shows a walk after these visits
abbrev pub ShowsWalk : Ground → List ℕ → PoolView → Type 0
ShowsWalk g visited pool = Shows g.far visited (in_order g.far (met g visited)) pool

-- the walk is over: no point is left to visit, and the pool shows what is near, every item marked
pub record IsOver (g : Ground) (visited : List ℕ) (pool : PoolView) : Type 0 where
  pub none : next g pool.limit visited ≡ None
  pub near : pool.items ≡ map (seen g.far) (near g pool.limit visited)

-- one visit more
pub record GoesOn (g : Ground) (visited : List ℕ) (row : ℕ) (old new : PoolView) : Type 0 where
  pub next : next g old.limit visited ≡ Some row
  pub shows : ShowsWalk g (visited ++ row ∷ []) new

-- a step of a walk: it goes on to the next point, or is over
abbrev pub Steps : Ground → PoolView → PoolView → Option ℕ → Type 0
Steps g old new None = (visited : List ℕ) → ShowsWalk g visited old → IsOver g visited new
Steps g old new (Some row) = (visited : List ℕ) → ShowsWalk g visited old → GoesOn g visited row old new

-- a step of a walk for a query, from any entry
abbrev pub StepsOn : Rows → List ℕ → PoolView → PoolView → Option ℕ → Type 0
StepsOn graph query old new row = (entry : ℕ) → Steps (ground_at graph query entry) old new row

-- a walk was made: the pool has what is near the query, in order and all of it marked, as far as its limit goes
pub record IsWalked (graph : Rows) (query : List ℕ) (start : Option ℕ) (old new : PoolView) : Type 0 where
  pub limit : new.limit ≡ old.limit
  pub near : new.items ≡ map (seen (far_row graph query)) (near_rows graph query old.limit start)

-- a walk was made and its visits noted, in order; or it was broken off, with some rows in the pool and among the visits
pub record IsNoted {T E : Type 0} (graph : Rows) (query : List ℕ) (start : Option ℕ) (result : Result T E) (old new : PoolView) (noted : List ℕ) : Type 0 where
  pub limit : new.limit ≡ old.limit
  pub near : OnOk result (new.items ≡ map (seen (far_row graph query)) (near_rows graph query old.limit start))
  pub visited : OnOk result (noted ≡ visited_rows graph query old.limit start)
  pub rows : AllByRecursion (λ row. row < graph.count) noted
  pub pool : AreRows graph.count new.items
