-- A new point's decoded vector behind those of a base.
use Rattle.std.specs.Prelude.{◌≡◌, ◌≤◌, ◌<◌, ◌-◌, ◌^◌, ℕ, List, length, All}

-- a vector comes behind others of as many components, at most 1024, and its row is numbered in 32 bits
pub record ComesBehind (vectors : List (List ℕ)) (own : List ℕ) : Type 0 where
  pub same : All (λ vector. length vector ≡ length own) vectors
  pub short : length own ≤ 1024
  pub few : length vectors < 2 ^ 32 - 1
