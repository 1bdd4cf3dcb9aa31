-- A fact of each item holds after an offer, and after a mark.
use Rattle.std.proofs.Common.{ℕ, zero, suc, true, false, cond, eqb, List, [], ◌∷◌, take}
use Rattle.std.specs.List.{AllByRecursion}
use Rattle.ann_pool.specs.declared.item.Item.{Item}
use Rattle.ann_pool.specs.Pool.{item_before, offered, marked}

pub all_offered : (P : Item → Type 0) (x : Item) (s : List Item) → P x → AllByRecursion P s → AllByRecursion P (offered x s)
all_offered P x [] h a = (h, tt)
all_offered P x (y ∷ s) h a =
    elim (item_before x y) as (λ t. AllByRecursion P (cond t (x ∷ y ∷ s) (cond (eqb x.number y.number) (y ∷ s) (y ∷ offered x s)))) [
      | true ↦ (h, a)
      | false ↦ elim (eqb x.number y.number) as (λ t. AllByRecursion P (cond t (y ∷ s) (y ∷ offered x s))) [
        | true ↦ a
        | false ↦ (a.0, all_offered P x s h a.1)
      ]
    ]

pub all_take : (P : Item → Type 0) (n : ℕ) (s : List Item) → AllByRecursion P s → AllByRecursion P (take n s)
all_take P zero s a = tt
all_take P (suc n) [] a = tt
all_take P (suc n) (y ∷ s) a = (a.0, all_take P n s a.1)

pub all_marked : (P : Item → Type 0) → ((y : Item) → P y → P (record y { visited = true })) → (s : List Item) → AllByRecursion P s → AllByRecursion P (marked s)
all_marked P keeps [] a = tt
all_marked P keeps (y ∷ s) a =
    elim (y.visited) as (λ t. AllByRecursion P (cond t (y ∷ marked s) ((record y { visited = true }) ∷ s))) [
      | true ↦ (a.0, all_marked P keeps s a.1)
      | false ↦ (keeps y a.0, a.1)
    ]
