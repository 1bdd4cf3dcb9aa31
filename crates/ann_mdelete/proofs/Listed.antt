-- Lists known by their ends: a list is read and added.
use Rattle.std.proofs.Common.{◌≡◌, ℕ, zero, suc, ◌-◌, ◌<◌, List, [], ◌∷◌, ◌++◌, refl, sym, ap, ◌∙◌, arith, take, drop, map, length, get_or}
use Rattle.std.specs.List.{range_with_len}
use Rattle.std.proofs.lemmas.List.{drop_at, take_all, length-append, length_push, get_or_append_left, get_or_push}
use Rattle.std.proofs.lemmas.List.FromFn.{length-map-range_with_len, get_or-map-range_with_len, map-range_with_len_more}
use Rattle.ann_mdelete.specs.Lists.{start_of, list_at, lists_in, AreEnds}
use Rattle.ann_mdelete.proofs.Parts.{same_from, part_front}

pub count_lists : (ends xs : List ℕ) (v : List (List ℕ)) → lists_in ends xs ≡ v → length v ≡ length ends
count_lists ends xs v is = ap length (sym is) ∙ length-map-range_with_len (list_at ends xs) 0 (length ends)

pub at_lists : (ends xs : List ℕ) (v : List (List ℕ)) (i s e : ℕ) → lists_in ends xs ≡ v → i < length v → s ≡ start_of ends i → e ≡ get_or ends i 0 → take (e - s) (drop s xs) ≡ get_or v i []
at_lists ends xs v i s e is h p q =
    let count = count_lists ends xs v is in
    ap (λ t. take (e - t) (drop t xs)) p ∙ ap (λ t. take (t - start_of ends i) (drop (start_of ends i) xs)) q
    ∙ sym (get_or-map-range_with_len (list_at ends xs) 0 (length ends) i i [] (omega arith) (omega arith))
    ∙ ap (λ t. get_or t i []) is

start_before : (ends : List ℕ) (e i : ℕ) → i < length ends → start_of (ends ++ e ∷ []) i ≡ start_of ends i
start_before ends e zero h = refl
start_before ends e (suc i) h = get_or_append_left ends (e ∷ []) 0 i (omega arith)

start_last : (ends : List ℕ) (e n : ℕ) → n ≡ length ends → start_of (ends ++ e ∷ []) n ≡ start_of ends n
start_last [] e zero h = refl
start_last [] e (suc n) h = absurd (omega arith)
start_last (x ∷ ends) e zero h = absurd (omega arith)
start_last (x ∷ ends) e (suc n) h = get_or_append_left (x ∷ ends) (e ∷ []) 0 n (omega arith)

pub push_lists : (ends xs ys ends' xs' : List ℕ) (e : ℕ) → AreEnds ends (length xs) → e ≡ length (xs ++ ys) → ends' ≡ ends ++ e ∷ [] → xs' ≡ xs ++ ys → lists_in ends' xs' ≡ lists_in ends xs ++ ys ∷ []
push_lists ends xs ys ends' xs' e are long p q =
    let n : ℕ = length ends in
    let more : List ℕ = ends ++ e ∷ [] in
    let all : List ℕ = xs ++ ys in
    let before : (i : ℕ) → i < n → list_at more all i ≡ list_at ends xs i =
    λ i h. ap (λ s. take (get_or more i 0 - s) (drop s all)) (start_before ends e i h)
    ∙ ap (λ t. take (t - start_of ends i) (drop (start_of ends i) all)) (get_or_append_left ends (e ∷ []) 0 i h)
    ∙ part_front (start_of ends i) (get_or ends i 0) xs ys (are.rising i h) (are.inside i h) in
    let last : list_at more all n ≡ ys =
    ap (λ s. take (get_or more n 0 - s) (drop s all)) (start_last ends e n refl ∙ are.last)
    ∙ ap (λ t. take (t - length xs) (drop (length xs) all)) (get_or_push ends e 0 n refl)
    ∙ ap (take (e - length xs)) (drop_at xs ys (length xs) refl)
    ∙ take_all (e - length xs) ys (let l = length-append xs ys in omega arith) in
    ap (λ t. lists_in t xs') p ∙ ap (lists_in more) q
    ∙ ap (λ t. map (list_at more all) (range_with_len 0 t)) (length_push ends e)
    ∙ map-range_with_len_more (list_at more all) 0 n n (omega arith)
    ∙ ap (λ t. t ++ list_at more all n ∷ []) (same_from (list_at more all) (list_at ends xs) n [] before)
    ∙ ap (λ t. lists_in ends xs ++ t ∷ []) last
