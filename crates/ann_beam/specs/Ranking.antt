-- The points that a search has found so far, the nearest first.
use Rattle.std.specs.Prelude.{◌≡◌, ◌<◌, ℕ, Bool, false, List, [], ◌∷◌, ◌||◌, ◌&&◌, ◌==◌, nat_lt, length, take, insert, if◌then◌else◌}
use Rattle.std.specs.List.{AllByRecursion}
use Rattle.ann_types.specs.declared.hit.Hit.{Hit}

-- a point: its Pid, the client's name for it, and its exact distance to the query
pub record Ranked : Type 0 where
  pub pid : ℕ
  pub tag : ℕ
  pub distance : ℕ

-- how many points there may be, and the points
pub record RankingView : Type 0 where
  pub limit : ℕ
  pub points : List Ranked

-- x stands before y: it is nearer, or as near and of the smaller Pid
abbrev pub nearer : Ranked → Ranked → Bool
nearer x y = nat_lt x.distance y.distance || ((x.distance == y.distance) && nat_lt x.pid y.pid)

-- none of the points stands before an earlier one
abbrev pub IsRanked : List Ranked → Type 0
IsRanked [] = Unit {0}
IsRanked (x ∷ xs) = AllByRecursion (λ y. nearer y x ≡ false) xs × IsRanked xs

-- the points with x in its place
abbrev pub ranked : Ranked → List Ranked → List Ranked
ranked x [] = x ∷ []
ranked x (y ∷ ys) = if nearer x y then x ∷ y ∷ ys else y ∷ ranked x ys

-- its place among the points
abbrev pub IsPlaceOf : Ranked → List Ranked → ℕ → Type 0
IsPlaceOf x xs place = ranked x xs ≡ insert xs place x

-- the least of the points and x, up to a limit
abbrev pub with_ranked : ℕ → Ranked → List Ranked → List Ranked
with_ranked limit x xs = take limit (ranked x xs)

-- and each of some points in turn
abbrev pub with_all : ℕ → List Ranked → List Ranked → List Ranked
with_all limit [] xs = xs
with_all limit (x ∷ more) xs = with_all limit more (with_ranked limit x xs)

-- there are as many points as there may be, and all are nearer than this
pub record IsBeyond (distance : ℕ) (ranking : RankingView) : Type 0 where
  pub full : length ranking.points ≡ ranking.limit
  pub all : AllByRecursion (λ x. x.distance < distance) ranking.points

-- so a point this far away changes nothing
abbrev pub StaysAt : ℕ → RankingView → Type 0
StaysAt distance ranking =
    (pid tag : ℕ) → with_ranked ranking.limit (record { pid = pid; tag = tag; distance = distance }) ranking.points ≡ ranking.points

-- what is told of a point
abbrev pub hit_of : Ranked → Hit
hit_of x = record { tag = x.tag; distance = x.distance }

-- a Pid with its tag and its distance
abbrev pub rank : (ℕ → ℕ) → (ℕ → ℕ) → ℕ → Ranked
rank far tag pid = record { pid = pid; tag = tag pid; distance = far pid }

-- Pids and hits side by side
abbrev pub joined : List ℕ → List Hit → List Ranked
joined [] hits = []
joined (pid ∷ pids) [] = []
joined (pid ∷ pids) (hit ∷ hits) = record { pid = pid; tag = hit.tag; distance = hit.distance } ∷ joined pids hits
