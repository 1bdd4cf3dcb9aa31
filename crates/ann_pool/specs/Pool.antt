-- A pool of items in order of distance and number.
use Rattle.std.specs.Prelude.{◌≡◌, ◌≤◌, ℕ, Bool, true, false, List, [], ◌∷◌, ◌||◌, ◌&&◌, ◌==◌, nat_lt, length, take, not, if◌then◌else◌}
use Rattle.std.specs.List.{AllByRecursion}
use Rattle.std.specs.List.Sorted.{IsPartitionPoint}
use Rattle.ann_pool.specs.declared.item.Item.{Item}

-- x stands before y
abbrev pub item_before : Item → Item → Bool
item_before x y = nat_lt x.distance y.distance || ((x.distance == y.distance) && nat_lt x.number y.number)

-- x stands before all of these
abbrev pub IsBehind : Item → List Item → Type 0
IsBehind x ys = AllByRecursion (λ y. item_before x y ≡ true) ys

-- each item stands before all that follow it
abbrev pub IsInOrder : List Item → Type 0
IsInOrder [] = Unit {0}
IsInOrder (x ∷ xs) = IsBehind x xs × IsInOrder xs

-- the items with x in its place, where no item has its number
abbrev pub offered : Item → List Item → List Item
offered x [] = x ∷ []
offered x (y ∷ ys) = if item_before x y then x ∷ y ∷ ys else (if x.number == y.number then y ∷ ys else y ∷ offered x ys)

-- the least of them, up to a limit
abbrev pub pooled : ℕ → Item → List Item → List Item
pooled limit x items = take limit (offered x items)

abbrev pub unvisited : Item → Bool
unvisited x = not x.visited

-- the items with the least unvisited one marked
abbrev pub marked : List Item → List Item
marked [] = []
marked (y ∷ ys) = if y.visited then y ∷ marked ys else (record y { visited = true }) ∷ ys

-- a place in order: the items before it stand before x, and no other does
pub record IsPlaceOf (x : Item) (items : List Item) (place : ℕ) : Type 0 where
  pub inside : place ≤ length items
  pub parts : IsPartitionPoint (λ y. item_before y x ≡ true) (λ y. item_before y x ≡ false) items place

-- where an item has x's number, it has x's distance too
abbrev pub IsSameWhereThere : Item → List Item → Type 0
IsSameWhereThere x items = AllByRecursion (λ y. y.number ≡ x.number → y.distance ≡ x.distance) items

-- a pool, as its limit, its items, and some of the numbers that were offered since it was cleared
pub record PoolView : Type 0 where
  pub limit : ℕ
  pub items : List Item
  pub met : List ℕ

-- an item that is offered
abbrev pub fresh : ℕ → ℕ → Item
fresh distance number = record { distance = distance; number = number; visited = false }
