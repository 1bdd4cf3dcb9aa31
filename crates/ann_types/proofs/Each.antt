-- What holds of each item of a list, as lists are joined and cut.
use Rattle.std.proofs.Common.{◌≡◌, ℕ, List, [], ◌∷◌, ◌++◌, sym, ap, ◌∙◌, subst, take}
use Rattle.std.specs.Prelude.{flat_map, drop}
use Rattle.std.specs.List.{AllByRecursion}
use Rattle.std.proofs.lemmas.List.{append-nil, take-append-drop}
use Rattle.std.proofs.lemmas.Grind.{flat_map-append}
use Rattle.ann_types.proofs.Sets.{all_left, all_right}

pub all_take : {A : Type 0} (P : A → Type 0) (n : ℕ) (xs : List A) → AllByRecursion P xs → AllByRecursion P (take n xs)
all_take P n xs a = all_left P (take n xs) (drop n xs) (subst (AllByRecursion P) (sym (take-append-drop n xs)) a)

pub all_drop : {A : Type 0} (P : A → Type 0) (n : ℕ) (xs : List A) → AllByRecursion P xs → AllByRecursion P (drop n xs)
all_drop P n xs a = all_right P (take n xs) (drop n xs) (subst (AllByRecursion P) (sym (take-append-drop n xs)) a)

pub flat_map_push : {A B : Type 0} (f : A → List B) (v : List A) (x : A) → flat_map f (v ++ x ∷ []) ≡ flat_map f v ++ f x
flat_map_push f v x = flat_map-append f v (x ∷ []) ∙ ap (λ t. flat_map f v ++ t) (append-nil (f x))
