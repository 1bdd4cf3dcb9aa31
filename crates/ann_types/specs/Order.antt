-- Points are named by numbers. They stand in order by how far each is, `far`, and then by number.
use Rattle.std.specs.Prelude.{ℕ, Bool, List, [], ◌∷◌, ◌||◌, ◌&&◌, ◌==◌, nat_eq, nat_lt, take, if◌then◌else◌}
use Rattle.std.specs.List.{list_any}

-- x is one of xs
abbrev pub has : List ℕ → ℕ → Bool
has xs x = list_any (nat_eq x) xs

-- x stands before y: it is nearer, or as near and of the smaller number
abbrev pub before : (ℕ → ℕ) → ℕ → ℕ → Bool
before far x y = nat_lt (far x) (far y) || ((far x == far y) && nat_lt x y)

-- the points in order with x in its place, each once
abbrev pub placed : (ℕ → ℕ) → ℕ → List ℕ → List ℕ
placed far x [] = x ∷ []
placed far x (y ∷ ys) = if before far x y then x ∷ y ∷ ys else (if x == y then y ∷ ys else y ∷ placed far x ys)

-- the points in order with each of xs in its place
abbrev pub all_placed : (ℕ → ℕ) → List ℕ → List ℕ → List ℕ
all_placed far ys [] = ys
all_placed far ys (x ∷ xs) = all_placed far (placed far x ys) xs

-- the points of a list in order, each once
abbrev pub in_order : (ℕ → ℕ) → List ℕ → List ℕ
in_order far xs = all_placed far [] xs

-- the n least points of a list in order, or all of them
abbrev pub top : (ℕ → ℕ) → ℕ → List ℕ → List ℕ
top far n xs = take n (in_order far xs)

-- a set of numbers is the ascending list of its members
abbrev pub ascending : List ℕ → List ℕ
ascending xs = in_order (λ _. 0) xs
