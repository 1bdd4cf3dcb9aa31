-- Items that are marked up to a place: the next one to mark is looked for from there on.
use Rattle.std.proofs.Common.{◌≡◌, ℕ, zero, suc, ◌+◌, ◌≤◌, ◌<◌, true, false, cond, not, List, [], ◌∷◌, ◌++◌, refl, sym, ap, ◌∙◌, subst, arith, length, take, drop, get_or}
use Rattle.std.specs.Prelude.{Some, None, find}
use Rattle.std.specs.List.{AllByRecursion}
use Rattle.std.proofs.lemmas.List.{drop_more, take_more}
use Rattle.ann_types.proofs.Sets.{all_append}
use Rattle.ann_pool.specs.declared.item.Item.{Item}
use Rattle.ann_pool.specs.Pool.{marked, unvisited}
use Rattle.ann_pool.specs.Marks.{AreMarked}

pub marked_split : (n : ℕ) (s : List Item) → AreMarked n s → marked s ≡ take n s ++ marked (drop n s)
marked_split zero s a = refl
marked_split (suc n) [] a = refl
marked_split (suc n) (y ∷ s) (h, a) = ap (λ t. cond t (y ∷ marked s) ((record y { visited = true }) ∷ s)) h ∙ ap (λ t. y ∷ t) (marked_split n s a)

find_split : (n : ℕ) (s : List Item) → AreMarked n s → find unvisited s ≡ find unvisited (drop n s)
find_split zero s a = refl
find_split (suc n) [] a = refl
find_split (suc n) (y ∷ s) (h, a) = ap (λ t. cond (not t) (Some y) (find unvisited s)) h ∙ find_split n s a

-- the item at the place is the first that isn't marked
pub find_at : (n : ℕ) (s : List Item) (d : Item) → n < length s → AreMarked n s → (get_or s n d).visited ≡ false → find unvisited s ≡ Some (get_or s n d)
find_at n s d l a h =
    find_split n s a
    ∙ ap (find unvisited) (drop_more s n d l)
    ∙ ap (λ t. cond (not t) (Some (get_or s n d)) (find unvisited (drop (n + 1) s))) h

-- all items are marked
pub find_past : (n : ℕ) (s : List Item) → length s ≤ n → AreMarked n s → find unvisited s ≡ None
find_past n [] l a = refl
find_past zero (y ∷ s) l a = absurd (omega arith)
find_past (suc n) (y ∷ s) l (h, a) = ap (λ t. cond (not t) (Some y) (find unvisited s)) h ∙ find_past n s (omega arith) a

pub marked_past : (n : ℕ) (s : List Item) → length s ≤ n → AreMarked n s → s ≡ marked s
marked_past n [] l a = refl
marked_past zero (y ∷ s) l a = absurd (omega arith)
marked_past (suc n) (y ∷ s) l (h, a) = ap (λ t. y ∷ t) (marked_past n s (omega arith) a) ∙ sym (ap (λ t. cond t (y ∷ marked s) ((record y { visited = true }) ∷ s)) h)

pub marked_more : (n : ℕ) (s : List Item) (d : Item) → n < length s → AreMarked n s → (get_or s n d).visited ≡ true → AreMarked (n + 1) s
marked_more n s d l a h = subst (AllByRecursion (λ (y : Item). y.visited ≡ true)) (sym (take_more s n d l)) (all_append (λ (y : Item). y.visited ≡ true) (take n s) (get_or s n d ∷ []) a (h, tt))

-- fewer items are marked too
pub marked_fewer : (m n : ℕ) (s : List Item) → m ≤ n → AreMarked n s → AreMarked m s
marked_fewer zero n s l a = tt
marked_fewer (suc m) zero s l a = absurd (omega arith)
marked_fewer (suc m) (suc n) [] l a = tt
marked_fewer (suc m) (suc n) (y ∷ s) l (h, a) = (h, marked_fewer m n s (omega arith) a)
