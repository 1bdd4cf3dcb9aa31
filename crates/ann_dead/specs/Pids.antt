-- Sets of Pids, each an ascending list.
use Rattle.std.specs.Prelude.{ℕ, ◌<◌, ◌==◌, nat_lt, if◌then◌else◌, List, [], ◌∷◌}
pub use Rattle.ann_types.specs.Order.{has}
pub use Rattle.ann_types.specs.Merge.{without}

-- the set with one Pid more, which may be there already
abbrev pub with_pid : ℕ → List ℕ → List ℕ
with_pid pid [] = pid ∷ []
with_pid pid (x ∷ xs) = if nat_lt pid x then pid ∷ x ∷ xs else if pid == x then x ∷ xs else x ∷ with_pid pid xs

-- the Pids of both
abbrev pub union : List ℕ → List ℕ → List ℕ
union [] set = set
union (x ∷ xs) set = with_pid x (union xs set)

-- the Pids of all the sets
abbrev pub union_of : List (List ℕ) → List ℕ
union_of [] = []
union_of (set ∷ sets) = union set (union_of sets)

-- each is above the Pid
abbrev pub AreAbove : ℕ → List ℕ → Type 0
AreAbove pid [] = Unit {0}
AreAbove pid (x ∷ xs) = (pid < x) × AreAbove pid xs

-- each is below the bound
abbrev pub AreBelow : ℕ → List ℕ → Type 0
AreBelow bound [] = Unit {0}
AreBelow bound (x ∷ xs) = (x < bound) × AreBelow bound xs

-- each is below all that follow, so none stands twice
abbrev pub IsAscending : List ℕ → Type 0
IsAscending [] = Unit {0}
IsAscending (x ∷ xs) = AreAbove x xs × IsAscending xs
