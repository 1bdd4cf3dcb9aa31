-- The first graphs of a list, one at a time.
use Rattle.std.proofs.Common.{◌≡◌, ℕ, zero, suc, ◌+◌, ◌<◌, List, [], ◌∷◌, ◌++◌, refl, sym, ap, ◌∙◌, arith, map, take, drop, length, get_or}
use Rattle.std.proofs.lemmas.List.{length-map, get_or-map, map-append, take_more, take-map}
use Rattle.std.proofs.Math.Seq.{take-length}

pub shared_more : {A B : Type 0} (f : A → B) (xs done done' : List A) (i : ℕ) (x a : A) → i < length xs → a ≡ get_or xs i a → f x ≡ f a → done' ≡ done ++ x ∷ [] → map f done ≡ take i (map f xs) → map f done' ≡ take (i + 1) (map f xs)
shared_more f xs done done' i x a l at same more e =
    ap (map f) more
    ∙ map-append f done (x ∷ [])
    ∙ ap (λ t. t ++ f x ∷ []) e
    ∙ ap (λ y. take i (map f xs) ++ y ∷ []) (same ∙ ap f at ∙ sym (get_or-map f xs i a (f a) l))
    ∙ sym (take_more (map f xs) i (f a) (let size = length-map xs f in omega arith))

pub shared_all : {A B : Type 0} (f : A → B) (xs done : List A) (n i : ℕ) → i ≡ length (take n xs) → map f done ≡ take i (map f (take n xs)) → map f done ≡ take n (map f xs)
shared_all f xs done n i at e =
    e
    ∙ ap (λ k. take k (map f (take n xs))) (at ∙ sym (length-map (take n xs) f))
    ∙ take-length (map f (take n xs))
    ∙ sym (take-map f n xs)

-- without the first one
pub removed_first : {A : Type 0} (xs : List A) (n : ℕ) → n < length xs → drop 1 (drop n xs) ≡ drop (n + 1) xs
removed_first [] n l = absurd (omega arith)
removed_first (x ∷ xs) zero l = refl
removed_first (x ∷ xs) (suc n) l = removed_first xs n (omega arith) ∙ ap (λ k. drop k (x ∷ xs)) (let e : suc (n + 1) ≡ suc n + 1 = omega arith in e)
