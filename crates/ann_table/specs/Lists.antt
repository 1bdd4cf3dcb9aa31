-- Short lists of numbers side by side in one long list.
use Rattle.std.specs.Prelude.{◌≡◌, ◌≤◌, ℕ, ◌+◌, ◌*◌, List, [], ◌∷◌, ◌++◌, take, drop, length}
use Rattle.std.specs.List.{AllByRecursion}

-- the lists, the places that each has, and for how many more there is room
pub record Lists : Type 0 where
  pub places : ℕ
  pub lists : List (List ℕ)
  pub spare : ℕ

-- the lists whose places follow each other, where each uses so many of its places from the first on
abbrev pub lists_in : ℕ → List ℕ → List ℕ → List (List ℕ)
lists_in places [] numbers = []
lists_in places (count ∷ counts) numbers = take count numbers ∷ lists_in places counts (drop places numbers)

-- numbers in place of those from here on
abbrev pub put_in : ℕ → List ℕ → List ℕ → List ℕ
put_in start list numbers = take start numbers ++ (list ++ drop (start + length list) numbers)

-- each list has its places, of which it uses no more than it has, and there is room for so many more lists
pub record HasPlaces (places spare : ℕ) (counts numbers : List ℕ) (counts_room numbers_room : ℕ) : Type 0 where
  pub few : places ≤ 128
  pub whole : length numbers ≡ length counts * places
  pub used : AllByRecursion (λ count. count ≤ places) counts
  pub counts_fit : length counts + spare ≤ counts_room
  pub numbers_fit : length numbers + spare * places ≤ numbers_room
