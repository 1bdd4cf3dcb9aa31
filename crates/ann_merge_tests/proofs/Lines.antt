-- Rows in a line, and vectors of one component.
use Rattle.std.proofs.Common.{◌≡◌, ◌≢◌, ℕ, zero, suc, ◌+◌, ◌-◌, ◌<◌, ◌≤◌, true, false, List, [], ◌∷◌, ◌++◌, refl, sym, ap, subst, ◌∙◌, arith, map, length, take, get_or, ltb-true, lt-ltb, le-ltb}
use Rattle.std.specs.List.{All, AllByRecursion, range_with_len}
use Rattle.std.proofs.lemmas.List.{length-map, append-nil}
use Rattle.std.proofs.lemmas.List.Elements.{All-from_recursion}
use Rattle.std.proofs.lemmas.List.FromFn.{length-map-range_with_len, get_or-map-range_with_len, map-range_with_len_more}
use Rattle.std.specs.Prelude.{Bool, nat_lt, if◌then◌else◌}
use Rattle.ann_types.specs.Rows.{AreNeighbours}
use Rattle.ann_types.specs.declared.params.Params.{Params}
use Rattle.ann_types.proofs.Sets.{Rises, increasing_from_rises}
use Rattle.ann_mdelete.specs.Rows.{AreLists}
use Rattle.ann_minsert.specs.Base.{AreListsOf}
use Rattle.ann_merge_tests.specs.Line.{before, behind, line_list, line_lists}

pub before_is : (row : ℕ) → 0 < row → before row ≡ (row - 1) ∷ []
before_is zero l = absurd (omega arith)
before_is (suc row) l = ap (λ r. r ∷ []) (let e : row ≡ suc row - 1 = omega arith in e)

pub singles_wide : (xs : List ℕ) → AllByRecursion (λ v. length v ≡ 1) (map (λ x. x ∷ []) xs)
singles_wide [] = tt
singles_wide (x ∷ xs) = (refl, singles_wide xs)

-- ---- a line is a graph

of : (params : Params) (count row : ℕ) (list : List ℕ) → Rises list → AllByRecursion (λ o. o < count) list → AllByRecursion (λ o. o ≢ row) list → length list ≤ params.r → AreNeighbours params count row list
of params count row list rises inside others few = record {
  rising = increasing_from_rises list rises;
  inside = All-from_recursion (λ o. o < count) list inside;
  others = All-from_recursion (λ o. o ≢ row) list others;
  few = few;
}

linked : (params : Params) (count row : ℕ) (more : Bool) → (more ≡ true → row + 1 < count) → row < count → 2 ≤ params.r → AreNeighbours params count row (before row ++ (if more then (row + 1) ∷ [] else []))
linked params count zero true f l few = let next = f refl in of params count 0 (1 ∷ []) (tt, tt) (omega arith, tt) ((λ e. omega arith), tt) (omega arith)
linked params count zero false f l few = of params count 0 [] tt tt tt (omega arith)
linked params count (suc row) true f l few =
    let next = f refl in
    of params count (suc row) (row ∷ (suc row + 1) ∷ []) ((omega arith, tt), (tt, tt)) (omega arith, (omega arith, tt)) ((λ e. omega arith), ((λ e. omega arith), tt)) (omega arith)
linked params count (suc row) false f l few = of params count (suc row) (row ∷ []) (tt, tt) (omega arith, tt) ((λ e. omega arith), tt) (omega arith)

pub line_row : (params : Params) (count row : ℕ) → row < count → 2 ≤ params.r → AreNeighbours params count row (line_list count row)
line_row params count row l few = linked params count row (nat_lt (row + 1) count) (λ e. ltb-true (row + 1) count e) l few

pub line_size : (count : ℕ) → length (line_lists count count) ≡ count
line_size count = length-map-range_with_len (line_list count) 0 count

pub line_is : (params : Params) (count : ℕ) → 2 ≤ params.r → AreLists params (line_lists count count)
line_is params count few row l =
    let size = line_size count in
    subst (λ n. AreNeighbours params n row (get_or (line_lists count count) row [])) (sym size)
    (subst (AreNeighbours params count row) (sym (get_or-map-range_with_len (line_list count) 0 count row row [] (omega arith) (omega arith))) (line_row params count row (omega arith) few))

pub line_base : (params : Params) (count : ℕ) → 2 ≤ params.r → AreListsOf count (line_lists count count)
line_base params count few = record {
  count = line_size count;
  links = λ row l. (let n = line_is params count few row l in record { rising = n.rising; inside = n.inside; others = n.others });
}

pub range_more : (a n : ℕ) → range_with_len a (n + 1) ≡ range_with_len a n ++ (a + n) ∷ []
range_more a n = sym (map_same (range_with_len a (n + 1))) ∙ map-range_with_len_more (λ i. i) a n (a + n) refl ∙ ap (λ t. t ++ (a + n) ∷ []) (map_same (range_with_len a n))
  where
    map_same : (xs : List ℕ) → map (λ i. i) xs ≡ xs
    map_same [] = refl
    map_same (x ∷ xs) = ap (λ t. x ∷ t) (map_same xs)

pub lists_more : (count row : ℕ) → line_lists count (row + 1) ≡ line_lists count row ++ line_list count row ∷ []
lists_more count row = map-range_with_len_more (line_list count) 0 row row (omega arith)

-- the last choice of a row's list
pub behind_is : (count row : ℕ) → row + 1 < count → line_list count row ≡ before row ++ (row + 1) ∷ []
behind_is count row l = ap (λ t. before row ++ (if t then (row + 1) ∷ [] else [])) (lt-ltb (row + 1) count l)

pub none_behind : (count row : ℕ) → count ≤ row + 1 → line_list count row ≡ before row
none_behind count row l = ap (λ t. before row ++ (if t then (row + 1) ∷ [] else [])) (le-ltb (row + 1) count l) ∙ append-nil (before row)
