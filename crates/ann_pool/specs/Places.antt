-- Places for numbers, each with the tag of the walk that noted it.
use Rattle.std.specs.Prelude.{ℕ, ◌+◌, ◌*◌, ◌≤◌, List, [], ◌∷◌, ◌==◌, ◌/◌, ◌%◌, suc, if◌then◌else◌}
use Rattle.std.specs.List.{AllByRecursion}

-- the tag of what stands in a place
abbrev pub tag_of : ℕ → ℕ
tag_of noted = noted / 1048576

-- the number that is noted in a place
abbrev pub number_at : ℕ → ℕ → ℕ
number_at place noted = (noted % 1048576) * 4096 + place

-- the numbers with a tag, in the places from one on
abbrev pub numbers_from : ℕ → ℕ → List ℕ → List ℕ
numbers_from tag place [] = []
numbers_from tag place (noted ∷ places) =
    if tag_of noted == tag then number_at place noted ∷ numbers_from tag (suc place) places else numbers_from tag (suc place) places

-- the numbers with a tag
abbrev pub numbers_in : ℕ → List ℕ → List ℕ
numbers_in tag places = numbers_from tag 0 places

-- no place has a later tag
abbrev pub AreTagged : ℕ → List ℕ → Type 0
AreTagged tag places = AllByRecursion (λ noted. tag_of noted ≤ tag) places
