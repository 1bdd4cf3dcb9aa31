-- Marks at the front of a pool's items.
use Rattle.std.specs.Prelude.{◌≡◌, ℕ, ◌<◌, true, false, List, length, take, get_or}
use Rattle.std.specs.List.{AllByRecursion}
use Rattle.ann_pool.specs.declared.item.Item.{Item}

-- the items before a place are marked
abbrev pub AreMarked : ℕ → List Item → Type 0
AreMarked place items = AllByRecursion (λ y. y.visited ≡ true) (take place items)

-- the place of the first item that isn't marked, or a place behind all
pub record IsFirst (items : List Item) (place : ℕ) : Type 0 where
  pub before : AreMarked place items
  pub here : (d : Item) → place < length items → (get_or items place d).visited ≡ false
