-- Lists that use all of their places, as vectors of one width do.
use Rattle.std.proofs.Common.{◌≡◌, ℕ, ◌+◌, ◌-◌, ◌*◌, ◌≤◌, ◌<◌, List, [], ◌∷◌, ◌++◌, sym, ap, ◌∙◌, arith, take, drop, length, get_or, replicate}
use Rattle.std.proofs.lemmas.List.{length-replicate, get_or-replicate, append-nil}
use Rattle.ann_table.specs.Lists.{Lists, lists_in}
use Rattle.ann_table.proofs.Listed.{shown, seen_lists, used_replicate, get_ends, get_is, push_is, length_lists, replicate_more}

module _ (p s n : ℕ) (xs : List ℕ) (v : Lists) (is : shown p s (lists_in p (replicate n p) xs) ≡ v) where
  pub filled_count : length v.lists ≡ n
  filled_count = ap length (sym (seen_lists p s (replicate n p) xs v is)) ∙ length_lists p (replicate n p) xs ∙ length-replicate n p

  module _ (whole : length xs ≡ n * p) where
    filled_whole : length xs ≡ length (replicate n p) * p
    filled_whole = whole ∙ ap (λ m. m * p) (sym (length-replicate n p))

    filled_at : (i q : ℕ) → i < length v.lists → q ≡ p → q ≡ get_or (replicate n p) i 0
    filled_at i q l e =
        let count : length v.lists ≡ n = filled_count in
        e ∙ sym (get_or-replicate n i p 0 (omega arith))

    pub filled_ends : (i q : ℕ) → i < length v.lists → q ≡ p → i * q + q ≤ length xs
    filled_ends i q l e = get_ends p s (replicate n p) xs v is (used_replicate n p) filled_whole i q q 0 l e (filled_at i q l e)

    pub filled_is : (i q : ℕ) → i < length v.lists → q ≡ p → take (i * q + q - i * q) (drop (i * q) xs) ≡ get_or v.lists i []
    filled_is i q l e = get_is p s (replicate n p) xs v is (used_replicate n p) filled_whole i q q 0 l e (filled_at i q l e)

    pub filled_push : (xs' ys : List ℕ) → xs' ≡ xs ++ ys → length ys ≡ p → lists_in p (replicate (n + 1) p) xs' ≡ v.lists ++ ys ∷ []
    filled_push xs' ys f k = push_is p s (replicate n p) xs v is (used_replicate n p) filled_whole (replicate (n + 1) p) xs' p ys [] (replicate_more n p) (f ∙ sym (append-nil (xs ++ ys))) (sym k)
