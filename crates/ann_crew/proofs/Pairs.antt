-- Two lists side by side, taken from either end.
use Rattle.std.proofs.Common.{◌≡◌, ℕ, zero, suc, ◌<◌, List, [], ◌∷◌, ◌++◌, refl, sym, ap, subst, ◌∙◌, arith, map, length, get_or, reverse, take, replicate, append_assoc}
use Rattle.std.specs.List.{All, AllByRecursion}
use Rattle.std.proofs.Math.Seq.{get_or-append_seam}
use Rattle.std.proofs.lemmas.List.{map-append, reverse-append, reverse-reverse, length-append, get_or_append_left}

-- the items of each place are in a relation, and the lists have one length
abbrev pub Pairs : {A B : Type 0} → (A → B → Type 0) → List A → List B → Type 0
Pairs R [] [] = Unit {0}
Pairs R [] (y ∷ ys) = ⊥
Pairs R (x ∷ xs) [] = ⊥
Pairs R (x ∷ xs) (y ∷ ys) = R x y × Pairs R xs ys

module _ {A B : Type 0} (R : A → B → Type 0) where
  pub pairs_length : (xs : List A) (ys : List B) → Pairs R xs ys → length ys ≡ length xs
  pairs_length [] [] p = refl
  pairs_length [] (y ∷ ys) p = absurd p
  pairs_length (x ∷ xs) [] p = absurd p
  pairs_length (x ∷ xs) (y ∷ ys) (r, p) = ap suc (pairs_length xs ys p)

  pub pairs_at : (xs : List A) (ys : List B) (i : ℕ) (d : A) (e : B) → Pairs R xs ys → i < length xs → R (get_or xs i d) (get_or ys i e)
  pairs_at [] ys i d e p l = absurd (omega arith)
  pairs_at (x ∷ xs) [] i d e p l = absurd p
  pairs_at (x ∷ xs) (y ∷ ys) zero d e (r, p) l = r
  pairs_at (x ∷ xs) (y ∷ ys) (suc i) d e (r, p) l = pairs_at xs ys i d e p (omega arith)

  pub pairs_join : (xs xs' : List A) (ys ys' : List B) → Pairs R xs ys → Pairs R xs' ys' → Pairs R (xs ++ xs') (ys ++ ys')
  pairs_join [] xs' [] ys' p q = q
  pairs_join [] xs' (y ∷ ys) ys' p q = absurd p
  pairs_join (x ∷ xs) xs' [] ys' p q = absurd p
  pairs_join (x ∷ xs) xs' (y ∷ ys) ys' (r, p) q = (r, pairs_join xs xs' ys ys' p q)

  pub pairs_reverse : (xs : List A) (ys : List B) → Pairs R xs ys → Pairs R (reverse xs) (reverse ys)
  pairs_reverse [] [] p = tt
  pairs_reverse [] (y ∷ ys) p = absurd p
  pairs_reverse (x ∷ xs) [] p = absurd p
  pairs_reverse (x ∷ xs) (y ∷ ys) (r, p) =
      subst (λ s. Pairs R s (reverse (y ∷ ys))) (sym (reverse-append (x ∷ []) xs))
      (subst (Pairs R (reverse xs ++ x ∷ [])) (sym (reverse-append (y ∷ []) ys))
      (pairs_join (reverse xs) (x ∷ []) (reverse ys) (y ∷ []) (pairs_reverse xs ys p) (r, tt)))

  pub pairs_right : (P : B → Type 0) (xs : List A) (ys : List B) → ((x : A) (y : B) → R x y → P y) → Pairs R xs ys → AllByRecursion P ys
  pairs_right P [] [] f p = tt
  pairs_right P [] (y ∷ ys) f p = absurd p
  pairs_right P (x ∷ xs) [] f p = absurd p
  pairs_right P (x ∷ xs) (y ∷ ys) f (r, p) = (f x y r, pairs_right P xs ys f p)

pub pairs_by_index : {A : Type 0} (R : A → A → Type 0) (xs ys : List A) → length ys ≡ length xs → ((i : ℕ) (d : A) → i < length xs → R (get_or xs i d) (get_or ys i d)) → Pairs R xs ys
pairs_by_index R [] [] l f = tt
pairs_by_index R [] (y ∷ ys) l f = absurd (omega arith)
pairs_by_index R (x ∷ xs) [] l f = absurd (omega arith)
pairs_by_index R (x ∷ xs) (y ∷ ys) l f = (f 0 x (omega arith), pairs_by_index R xs ys (omega arith) (λ i d h. f (suc i) d (omega arith)))

pub pairs_map : {A B C D : Type 0} (R : A → B → Type 0) (S : C → D → Type 0) (f : A → C) (g : B → D) (xs : List A) (ys : List B) → ((x : A) (y : B) → R x y → S (f x) (g y)) → Pairs R xs ys → Pairs S (map f xs) (map g ys)
pairs_map R S f g [] [] h p = tt
pairs_map R S f g [] (y ∷ ys) h p = absurd p
pairs_map R S f g (x ∷ xs) [] h p = absurd p
pairs_map R S f g (x ∷ xs) (y ∷ ys) h (r, p) = (h x y r, pairs_map R S f g xs ys h p)

-- ---- one item from the back of a list to the back of another

pub map_reverse : {A B : Type 0} (f : A → B) (xs : List A) → reverse (map f xs) ≡ map f (reverse xs)
map_reverse f [] = refl
map_reverse f (x ∷ xs) =
    reverse-append (f x ∷ []) (map f xs) ∙ ap (λ t. t ++ f x ∷ []) (map_reverse f xs)
    ∙ sym (map-append f (reverse xs) (x ∷ [])) ∙ ap (map f) (sym (reverse-append (x ∷ []) xs))

-- a list whose last item goes to others that stand the other way round
pub taken_back : {A B : Type 0} (f : B → A) (whole all left : List A) (others others' : List B) (a : A) (b : B) → all ++ reverse (map f others) ≡ whole → all ≡ left ++ a ∷ [] → others' ≡ others ++ b ∷ [] → f b ≡ a → left ++ reverse (map f others') ≡ whole
taken_back f whole all left others others' a b was from to same =
    ap (λ t. left ++ reverse (map f t)) to
    ∙ ap (λ t. left ++ reverse t) (map-append f others (b ∷ []))
    ∙ ap (λ t. left ++ t) (reverse-append (map f others) (f b ∷ []))
    ∙ ap (λ (t : _). left ++ (t ∷ reverse (map f others))) same
    ∙ sym (append_assoc left (a ∷ []) (reverse (map f others)))
    ∙ ap (λ t. t ++ reverse (map f others)) (sym from)
    ∙ was

-- what was taken from the back, and what is left
pub taken_more : {A : Type 0} (whole taken all left : List A) (a : A) → taken ++ reverse all ≡ reverse whole → all ≡ left ++ a ∷ [] → (taken ++ a ∷ []) ++ reverse left ≡ reverse whole
taken_more whole taken all left a was from =
    append_assoc taken (a ∷ []) (reverse left)
    ∙ ap (λ t. taken ++ t) (sym (reverse-append left (a ∷ [])))
    ∙ ap (λ t. taken ++ reverse t) (sym from)
    ∙ was

-- the item that was taken last stands in the whole
pub stands_at : {A : Type 0} (whole taken all left : List A) (a : A) → taken ++ reverse all ≡ reverse whole → all ≡ left ++ a ∷ [] → (length left < length whole) × ((d : A) → get_or whole (length left) d ≡ a)
stands_at whole taken all left a was from =
    let is : whole ≡ left ++ (a ∷ reverse taken) =
    sym (reverse-reverse whole) ∙ ap reverse (sym was) ∙ reverse-append taken (reverse all)
    ∙ ap (λ t. t ++ reverse taken) (reverse-reverse all ∙ from) ∙ append_assoc left (a ∷ []) (reverse taken) in
    let size : length whole ≡ length (left ++ (a ∷ reverse taken)) = ap length is in
    let long = length-append left (a ∷ reverse taken) in
    (omega arith, λ d. ap (λ t. get_or t (length left) d) is ∙ get_or-append_seam left a (reverse taken) d)

-- the others, and the last
pub popped : {A : Type 0} (P : A → Type 0) (all left : List A) (a : A) → all ≡ left ++ a ∷ [] → All P all → All P left × P a
popped P all left a from h =
    let parts = subst (All P) from h in (
      λ k d l. subst P (get_or_append_left left (a ∷ []) d k l) (parts k d (let long = length-append left (a ∷ []) in omega arith)),
      subst P (get_or-append_seam left a [] a) (parts (length left) a (let long = length-append left (a ∷ []) in omega arith)),
    )

take_front : {A : Type 0} (xs ys : List A) → take (length xs) (xs ++ ys) ≡ xs
take_front [] ys = refl
take_front (x ∷ xs) ys = ap (λ t. x ∷ t) (take_front xs ys)

-- a list that was lent whole comes back whole
pub take_whole : {A : Type 0} (xs ys : List A) (n : ℕ) → n ≡ length xs → take n (xs ++ ys) ≡ xs
take_whole xs ys n e = ap (λ k. take k (xs ++ ys)) e ∙ take_front xs ys

pub all_same : {A : Type 0} (P : A → Type 0) (n : ℕ) (a : A) → P a → All P (replicate n a)
all_same P zero a p k d l = absurd (omega arith)
all_same P (suc n) a p zero d l = p
all_same P (suc n) a p (suc k) d l = all_same P n a p k d (omega arith)
