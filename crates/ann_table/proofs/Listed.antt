-- Lists side by side in one list: a list is read, added and replaced.
use Rattle.std.proofs.Common.{◌≡◌, add-one, ℕ, zero, suc, ◌+◌, ◌-◌, ◌*◌, ◌≤◌, ◌<◌, List, [], ◌∷◌, ◌++◌, refl, sym, ap, subst, ◌∙◌, arith, take, drop, set, length, get_or, replicate, append_assoc}
use Rattle.std.specs.List.{AllByRecursion}
use Rattle.std.proofs.Math.Nat.{zero-mul, suc-mul, mul-le-mul_right}
use Rattle.std.proofs.Math.Seq.{take-append_seam}
use Rattle.std.proofs.lemmas.List.{take-append-le, drop-append-le, drop-drop, length-drop, length-take, length-take-le, take-take, length-append, length-set, drop-take, drop-set-lt, drop-set-add, take-set-le, take_more_set, replicate-append-replicate}
use Rattle.std.proofs.lemmas.Slice.{drop-append-drop}
use Rattle.ann_table.specs.Lists.{Lists, lists_in, put_in, HasPlaces}

-- each list uses no more places than it has
abbrev pub AreUsed : ℕ → List ℕ → Type 0
AreUsed places counts = AllByRecursion (λ count. count ≤ places) counts

pub used_at : (p : ℕ) (cs : List ℕ) (i : ℕ) (d : ℕ) → AreUsed p cs → i < length cs → get_or cs i d ≤ p
used_at p [] i d a l = absurd (omega arith)
used_at p (c ∷ cs) zero d (h, a) l = h
used_at p (c ∷ cs) (suc i) d (h, a) l = used_at p cs i d a (omega arith)

pub used_set : (p : ℕ) (cs : List ℕ) (i c : ℕ) → AreUsed p cs → c ≤ p → AreUsed p (set cs i c)
used_set p [] i c a l = tt
used_set p (k ∷ cs) zero c (h, a) l = (l, a)
used_set p (k ∷ cs) (suc i) c (h, a) l = (h, used_set p cs i c a l)

pub used_push : (p : ℕ) (cs : List ℕ) (c : ℕ) → AreUsed p cs → c ≤ p → AreUsed p (cs ++ c ∷ [])
used_push p [] c a l = (l, tt)
used_push p (k ∷ cs) c (h, a) l = (h, used_push p cs c a l)

pub used_replicate : (n p : ℕ) → AreUsed p (replicate n p)
used_replicate zero p = tt
used_replicate (suc n) p = (omega arith, used_replicate n p)

-- ---- places

-- a list ends within the numbers
pub place_ends : (i n p c m : ℕ) → i < n → c ≤ p → m ≡ n * p → i * p + c ≤ m
place_ends i n p c m l h e =
    let next : suc i * p ≡ i * p + p = suc-mul i p in
    let within : suc i * p ≤ n * p = mul-le-mul_right {m = suc i} {n = n} p (omega arith) in omega arith

-- the places of one list more
pub more_places : (n p : ℕ) → (n + 1) * p ≡ n * p + p
more_places n p = ap (λ m. m * p) (add-one n) ∙ suc-mul n p

rest_whole : (p : ℕ) (c : ℕ) (cs xs : List ℕ) → length xs ≡ length (c ∷ cs) * p → length (drop p xs) ≡ length cs * p
rest_whole p c cs xs e = let next = suc-mul (length cs) p in let rest = length-drop p xs in omega arith

first_whole : (p : ℕ) (c : ℕ) (cs xs : List ℕ) → length xs ≡ length (c ∷ cs) * p → p ≤ length xs
first_whole p c cs xs e = let next = suc-mul (length cs) p in omega arith

-- ---- what is read

pub length_lists : (p : ℕ) (cs xs : List ℕ) → length (lists_in p cs xs) ≡ length cs
length_lists p [] xs = refl
length_lists p (c ∷ cs) xs = let rest = length_lists p cs (drop p xs) in omega arith

pub get_lists : (p : ℕ) (cs xs : List ℕ) (i : ℕ) → i < length cs → get_or (lists_in p cs xs) i [] ≡ take (get_or cs i 0) (drop (i * p) xs)
get_lists p [] xs i l = absurd (omega arith)
get_lists p (c ∷ cs) xs zero l = ap (λ n. take c (drop n xs)) (sym (zero-mul p))
get_lists p (c ∷ cs) xs (suc i) l =
    let next : p + i * p ≡ suc i * p = (let more = suc-mul i p in omega arith) in
    get_lists p cs (drop p xs) i (omega arith) ∙ ap (take (get_or cs i 0)) (drop-drop (i * p) p xs ∙ ap (λ n. drop n xs) next)

pub length_get : (p : ℕ) (cs xs : List ℕ) (i : ℕ) → AreUsed p cs → length xs ≡ length cs * p → i < length cs → length (get_or (lists_in p cs xs) i []) ≡ get_or cs i 0
length_get p cs xs i a e l =
    let used = used_at p cs i 0 a l in
    let ends = place_ends i (length cs) p (get_or cs i 0) (length xs) l used e in
    let rest = length-drop (i * p) xs in
    ap length (get_lists p cs xs i l) ∙ length-take-le (get_or cs i 0) (drop (i * p) xs) (omega arith)

-- ---- a list more

pub push_lists : (p : ℕ) (cs xs : List ℕ) (c : ℕ) (ys : List ℕ) → AreUsed p cs → length xs ≡ length cs * p → lists_in p (cs ++ c ∷ []) (xs ++ ys) ≡ lists_in p cs xs ++ take c ys ∷ []
push_lists p [] [] c ys a e = refl
push_lists p [] (x ∷ xs) c ys a e = absurd (let none = zero-mul p in omega arith)
push_lists p (k ∷ cs) xs c ys (h, a) e =
    let fits : p ≤ length xs = first_whole p k cs xs e in
    ap (λ t. t ∷ lists_in p (cs ++ c ∷ []) (drop p (xs ++ ys))) (take-append-le k xs ys (omega arith))
    ∙ ap (λ t. take k xs ∷ lists_in p (cs ++ c ∷ []) t) (drop-append-le p xs ys fits)
    ∙ ap (λ t. take k xs ∷ t) (push_lists p cs (drop p xs) c ys a (rest_whole p k cs xs e))

-- ---- a list replaced

length-take-both : (p a : ℕ) (xs : List ℕ) → p ≤ length xs → p ≤ length (take (p + a) xs)
length-take-both p a xs l = let size = length-take (p + a) xs in omega arith

take_front : (k n : ℕ) (xs : List ℕ) → k ≤ n → take k (take n xs) ≡ take k xs
take_front k n xs l = take-take k n xs l

-- numbers written behind the first places
drop_put : (p a : ℕ) (ys xs : List ℕ) → p ≤ length xs → drop p (put_in (p + a) ys xs) ≡ put_in a ys (drop p xs)
drop_put p a ys xs l =
    let enough : p ≤ length (take (p + a) xs) = (let size = length-take-both p a xs l in size) in
    drop-append-le p (take (p + a) xs) (ys ++ drop (p + a + length ys) xs) enough
    ∙ ap (λ t. t ++ (ys ++ drop (p + a + length ys) xs)) (drop-take p a xs)
    ∙ ap (λ t. take a (drop p xs) ++ (ys ++ t)) (ap (λ n. drop n xs) (omega arith) ∙ sym (drop-drop (a + length ys) p xs))

take_put : (k p a : ℕ) (ys xs : List ℕ) → k ≤ p → p ≤ length xs → take k (put_in (p + a) ys xs) ≡ take k xs
take_put k p a ys xs h l =
    let enough : p ≤ length (take (p + a) xs) = length-take-both p a xs l in
    take-append-le k (take (p + a) xs) (ys ++ drop (p + a + length ys) xs) (omega arith)
    ∙ take_front k (p + a) xs (omega arith)

pub set_lists : (p : ℕ) (cs xs : List ℕ) (i : ℕ) (ys : List ℕ) → i < length cs → length ys ≤ p → length xs ≡ length cs * p → AreUsed p cs → lists_in p (set cs i (length ys)) (put_in (i * p) ys xs) ≡ set (lists_in p cs xs) i ys
set_lists p [] xs i ys l h e a = absurd (omega arith)
set_lists p (c ∷ cs) xs zero ys l h e a =
    ap (λ n. lists_in p (length ys ∷ cs) (take n xs ++ (ys ++ drop (n + length ys) xs))) (zero-mul p)
    ∙ ap (λ n. lists_in p (length ys ∷ cs) (ys ++ drop n xs)) (omega arith)
    ∙ ap (λ t. t ∷ lists_in p cs (drop p (ys ++ drop (length ys) xs))) (take-append_seam ys (drop (length ys) xs))
    ∙ ap (λ t. ys ∷ lists_in p cs t) (drop-append-drop (length ys) xs ys p h refl)
set_lists p (c ∷ cs) xs (suc i) ys l h e (k, a) =
    let fits : p ≤ length xs = first_whole p c cs xs e in
    let next : suc i * p ≡ p + i * p = (let more = suc-mul i p in omega arith) in
    ap (λ n. lists_in p (c ∷ set cs i (length ys)) (put_in n ys xs)) next
    ∙ ap (λ t. t ∷ lists_in p (set cs i (length ys)) (drop p (put_in (p + i * p) ys xs))) (take_put c p (i * p) ys xs k fits)
    ∙ ap (λ t. take c xs ∷ lists_in p (set cs i (length ys)) t) (drop_put p (i * p) ys xs fits)
    ∙ ap (λ t. take c xs ∷ t) (set_lists p cs (drop p xs) i ys (omega arith) h (rest_whole p c cs xs e) a)

-- ---- a number added to a list

pub append_lists : (p : ℕ) (cs xs : List ℕ) (i y : ℕ) → i < length cs → get_or cs i 0 < p → length xs ≡ length cs * p → AreUsed p cs → lists_in p (set cs i (get_or cs i 0 + 1)) (set xs (i * p + get_or cs i 0) y) ≡ set (lists_in p cs xs) i (get_or (lists_in p cs xs) i [] ++ y ∷ [])
append_lists p [] xs i y l h e a = absurd (omega arith)
append_lists p (c ∷ cs) xs zero y l h e a =
    let fits : p ≤ length xs = first_whole p c cs xs e in
    ap (λ n. lists_in p ((c + 1) ∷ cs) (set xs n y)) (let none = zero-mul p in omega arith)
    ∙ ap (λ t. t ∷ lists_in p cs (drop p (set xs c y))) (take_more_set xs c y (omega arith))
    ∙ ap (λ t. (take c xs ++ y ∷ []) ∷ lists_in p cs t) (drop-set-lt p xs c y h)
append_lists p (c ∷ cs) xs (suc i) y l h e (k, a) =
    let fits : p ≤ length xs = first_whole p c cs xs e in
    let n : ℕ = get_or cs i 0 in
    let next : suc i * p + n ≡ p + (i * p + n) = (let more = suc-mul i p in omega arith) in
    ap (λ m. lists_in p (c ∷ set cs i (n + 1)) (set xs m y)) next
    ∙ ap (λ t. t ∷ lists_in p (set cs i (n + 1)) (drop p (set xs (p + (i * p + n)) y))) (take-set-le c xs (p + (i * p + n)) y (omega arith))
    ∙ ap (λ t. take c xs ∷ lists_in p (set cs i (n + 1)) t) (drop-set-add p xs (i * p + n) y)
    ∙ ap (λ t. take c xs ∷ t) (append_lists p cs (drop p xs) i y (omega arith) h (rest_whole p c cs xs e) a)

-- ---- vectors, which use all of their places

pub replicate_more : (n p : ℕ) → replicate (n + 1) p ≡ replicate n p ++ p ∷ []
replicate_more n p = sym (replicate-append-replicate n 1 p)

-- ---- what is seen of such lists

abbrev pub shown : ℕ → ℕ → List (List ℕ) → Lists
shown places spare lists = record { places = places; lists = lists; spare = spare }

-- another element in place of the one that is missing
default_apart : (cs : List ℕ) (i c d : ℕ) → i < length cs → get_or cs i c ≡ get_or cs i d
default_apart [] i c d l = absurd (omega arith)
default_apart (k ∷ cs) zero c d l = refl
default_apart (k ∷ cs) (suc i) c d l = default_apart cs i c d (omega arith)

module _ (p s : ℕ) (cs xs : List ℕ) (v : Lists) (is : shown p s (lists_in p cs xs) ≡ v) where
  pub seen_places : p ≡ v.places
  seen_places = ap (λ (w : Lists). w.places) is

  pub seen_lists : lists_in p cs xs ≡ v.lists
  seen_lists = ap (λ (w : Lists). w.lists) is

  pub seen_spare : s ≡ v.spare
  seen_spare = ap (λ (w : Lists). w.spare) is

  -- a list that is seen has a count
  pub seen_row : (i : ℕ) → i < length v.lists → i < length cs
  seen_row i l =
      let size : length (lists_in p cs xs) ≡ length v.lists = ap length seen_lists in
      let count = length_lists p cs xs in omega arith

  module _ (used : AreUsed p cs) (whole : length xs ≡ length cs * p) where
    -- where a list ends, and what it is
    pub get_ends : (i q c d : ℕ) → i < length v.lists → q ≡ p → c ≡ get_or cs i d → i * q + c ≤ length xs
    get_ends i q c d l e k =
        let row : i < length cs = seen_row i l in
        let few : get_or cs i d ≤ p = used_at p cs i d used row in
        let ends : i * p + c ≤ length xs = place_ends i (length cs) p c (length xs) row (omega arith) whole in
        subst (λ (n : ℕ). i * n + c ≤ length xs) (sym e) ends

    pub get_few : (i c d : ℕ) → i < length v.lists → c ≡ get_or cs i d → c ≤ v.places
    get_few i c d l k =
        let few : get_or cs i d ≤ p = used_at p cs i d used (seen_row i l) in
        let places : p ≡ v.places = seen_places in omega arith

    pub get_is : (i q c d : ℕ) → i < length v.lists → q ≡ p → c ≡ get_or cs i d → take (i * q + c - i * q) (drop (i * q) xs) ≡ get_or v.lists i []
    get_is i q c d l e k =
        let row : i < length cs = seen_row i l in
        ap (λ (n : ℕ). take n (drop (i * q) xs)) (omega arith)
        ∙ ap (λ (n : ℕ). take n (drop (i * q) xs)) (k ∙ default_apart cs i d 0 row)
        ∙ ap (λ (n : ℕ). take (get_or cs i 0) (drop (i * n) xs)) e
        ∙ sym (get_lists p cs xs i row)
        ∙ ap (λ (t : List (List ℕ)). get_or t i []) seen_lists

    pub get_length : (i : ℕ) → i < length v.lists → length (get_or v.lists i []) ≡ get_or cs i 0
    get_length i l =
        ap (λ (t : List (List ℕ)). length (get_or t i [])) (sym seen_lists) ∙ length_get p cs xs i used whole (seen_row i l)

    -- what is seen with a list more, with one replaced, and with a number added to one
    pub push_is : (cs' xs' : List ℕ) (c : ℕ) (ys zs : List ℕ) → cs' ≡ cs ++ c ∷ [] → xs' ≡ xs ++ ys ++ zs → c ≡ length ys → lists_in p cs' xs' ≡ v.lists ++ ys ∷ []
    push_is cs' xs' c ys zs e f k =
        ap (λ t. lists_in p t xs') e ∙ ap (lists_in p (cs ++ c ∷ [])) (f ∙ append_assoc xs ys zs)
        ∙ push_lists p cs xs c (ys ++ zs) used whole
        ∙ ap (λ t. lists_in p cs xs ++ t ∷ []) (ap (λ n. take n (ys ++ zs)) k ∙ take-append_seam ys zs)
        ∙ ap (λ t. t ++ ys ∷ []) seen_lists

    pub set_is : (xs' : List ℕ) (i q : ℕ) (ys : List ℕ) → i < length v.lists → q ≡ p → length ys ≤ v.places → xs' ≡ put_in (i * q) ys xs → lists_in p (set cs i (length ys)) xs' ≡ set v.lists i ys
    set_is xs' i q ys l e h f =
        let places : p ≡ v.places = seen_places in
        ap (lists_in p (set cs i (length ys))) (f ∙ ap (λ n. put_in (i * n) ys xs) e)
        ∙ set_lists p cs xs i ys (seen_row i l) (omega arith) whole used
        ∙ ap (λ t. set t i ys) seen_lists

    pub append_is : (i q c d y : ℕ) → i < length v.lists → q ≡ p → c ≡ get_or cs i d → length (get_or v.lists i []) < v.places → lists_in p (set cs i (c + 1)) (set xs (i * q + c) y) ≡ set v.lists i (get_or v.lists i [] ++ y ∷ [])
    append_is i q c d y l e k h =
        let row : i < length cs = seen_row i l in
        let places : p ≡ v.places = seen_places in
        let count : c ≡ get_or cs i 0 = k ∙ default_apart cs i d 0 row in
        let size : length (get_or v.lists i []) ≡ get_or cs i 0 = get_length i l in
        ap (λ (n : ℕ). lists_in p (set cs i (c + 1)) (set xs (i * n + c) y)) e
        ∙ ap (λ (n : ℕ). lists_in p (set cs i (n + 1)) (set xs (i * p + n) y)) count
        ∙ append_lists p cs xs i y row (omega arith) whole used
        ∙ ap (λ (t : List (List ℕ)). set t i (get_or t i [] ++ y ∷ [])) seen_lists

    pub append_fits : (i q c d : ℕ) → i < length v.lists → q ≡ p → c ≡ get_or cs i d → length (get_or v.lists i []) < v.places → i * q + c < length xs
    append_fits i q c d l e k h =
        let row : i < length cs = seen_row i l in
        let places : p ≡ v.places = seen_places in
        let count : c ≡ get_or cs i 0 = k ∙ default_apart cs i d 0 row in
        let size : length (get_or v.lists i []) ≡ get_or cs i 0 = get_length i l in
        let ends : i * p + (c + 1) ≤ length xs = place_ends i (length cs) p (c + 1) (length xs) row (omega arith) whole in
        let at : i * q ≡ i * p = ap (λ n. i * n) e in
        omega arith

    pub append_few : (i c d : ℕ) → i < length v.lists → c ≡ get_or cs i d → length (get_or v.lists i []) < v.places → c < p
    append_few i c d l k h =
        let row : i < length cs = seen_row i l in
        let places : p ≡ v.places = seen_places in
        let count : c ≡ get_or cs i 0 = k ∙ default_apart cs i d 0 row in
        let size : length (get_or v.lists i []) ≡ get_or cs i 0 = get_length i l in
        omega arith

-- ---- places and room

-- room for a list more
pub room_one : (s p a b : ℕ) → a + s * p ≤ b → 1 ≤ s → a + p ≤ b
room_one zero p a b h l = absurd (omega arith)
room_one (suc s) p a b h l = let more = suc-mul s p in omega arith

pub room_left : (s p a b b' : ℕ) → a + s * p ≤ b → 1 ≤ s → b ≤ b' → a + p + (s - 1) * p ≤ b'
room_left zero p a b b' h l m = absurd (omega arith)
room_left (suc s) p a b b' h l m =
    let more = suc-mul s p in
    let less : (suc s - 1) * p ≡ s * p = ap (λ n. n * p) (omega arith) in omega arith

pub places_push : (p s : ℕ) (cs xs : List ℕ) (a b : ℕ) (cs' xs' : List ℕ) (a' b' c : ℕ) (ys zs : List ℕ) → HasPlaces p s cs xs a b → 1 ≤ s → cs' ≡ cs ++ c ∷ [] → xs' ≡ xs ++ ys ++ zs → length ys + length zs ≡ p → c ≤ p → a ≤ a' → b ≤ b' → HasPlaces p (s - 1) cs' xs' a' b'
places_push p s cs xs a b cs' xs' a' b' c ys zs w l e f k h m n =
    let count : length cs' ≡ length cs + 1 = ap length e ∙ length-append cs (c ∷ []) in
    let size : length xs' ≡ length xs + p = ap length f ∙ length-append (xs ++ ys) zs ∙ (let one = length-append xs ys in omega arith) in
    let more : (length cs + 1) * p ≡ length cs * p + p = more_places (length cs) p in
    let all : length cs' * p ≡ (length cs + 1) * p = ap (λ (i : ℕ). i * p) count in
    let left : length xs + p + (s - 1) * p ≤ b' = room_left s p (length xs) b b' w.numbers_fit l n in
    let enough : length cs + s ≤ a = w.counts_fit in
    let now : length xs ≡ length cs * p = w.whole in
    record {
      few = w.few;
      whole = omega arith;
      used = subst (AreUsed p) (sym e) (used_push p cs c w.used h);
      counts_fit = omega arith;
      numbers_fit = omega arith;
    }

pub places_set : (p s : ℕ) (cs xs : List ℕ) (a b : ℕ) (xs' : List ℕ) (i c : ℕ) → HasPlaces p s cs xs a b → length xs' ≡ length xs → c ≤ p → HasPlaces p s (set cs i c) xs' a b
places_set p s cs xs a b xs' i c w e h =
    let count : length (set cs i c) ≡ length cs = length-set cs i c in
    let all : length (set cs i c) * p ≡ length cs * p = ap (λ (n : ℕ). n * p) count in
    let now : length xs ≡ length cs * p = w.whole in
    let fits : length xs + s * p ≤ b = w.numbers_fit in
    let enough : length cs + s ≤ a = w.counts_fit in
    record {
      few = w.few;
      whole = omega arith;
      used = used_set p cs i c w.used h;
      counts_fit = omega arith;
      numbers_fit = omega arith;
    }
