-- The limits of an index's parameters and of an ask.
use Rattle.std.specs.Prelude.{◌≡◌, ◌≤◌, ◌%◌, ℕ}

-- components, neighbours, building width, alpha a/b, beam width, bytes of a code, points at which a graph
-- freezes
pub record IsWithinLimits (d r l_build a b w m freeze_at : ℕ) : Type 0 where
  pub code_bytes : (1 ≤ m) × (m ≤ 64)
  pub components : (1 ≤ d) × (d ≤ 1024)
  pub parts : d % m ≡ 0
  pub neighbours : (2 ≤ r) × (r ≤ 128)
  pub width : (1 ≤ l_build) × (l_build ≤ 1000)
  pub alpha : (1 ≤ b) × (b ≤ a) × (a ≤ 100)
  pub beam : (1 ≤ w) × (w ≤ 16)
  pub freeze : (1 ≤ freeze_at) × (freeze_at ≤ 100000)

-- how many points are wanted, from walks of which width
pub record IsAskWithinLimits (k l : ℕ) : Type 0 where
  pub some : 1 ≤ k
  pub wide : k ≤ l
  pub most : l ≤ 1000
