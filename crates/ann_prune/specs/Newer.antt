-- Candidates of which the older ones are known not to leave each other out.
use Rattle.std.specs.Prelude.{◌≡◌, ℕ, ◌<◌, ◌-◌, ◌*◌, Bool, true, false, List, [], ◌∷◌, ◌++◌, nat_le, All, filter, get_or, if◌then◌else◌}
use Rattle.ann_types.specs.Order.{has, before}
use Rattle.ann_types.specs.Kept.{Rule, takes}

-- k leaves c out
abbrev pub leaves_out : Rule → (ℕ → ℕ → ℕ) → ℕ → ℕ → ℕ → Bool
leaves_out rule apart p k c = nat_le (rule.a * rule.a * apart k c) (rule.b * rule.b * apart p c)

-- of the candidates below a row none leaves out a later one
pub record AreSettled (rule : Rule) (apart : ℕ → ℕ → ℕ) (p newer : ℕ) (rows : List ℕ) : Type 0 where
  pub settled : (k c : ℕ) → has rows k ≡ true → has rows c ≡ true → k < newer → c < newer → before (apart p) k c ≡ true → leaves_out rule apart p k c ≡ false

-- of these rows those at or above a row
abbrev pub fresh_of : ℕ → List ℕ → List ℕ
fresh_of newer kept = filter (λ k. nat_le newer k) kept

-- a candidate that isn't among these kept rows, of which none leaves it out where both are below a row
pub record IsNew (rule : Rule) (apart : ℕ → ℕ → ℕ) (p newer : ℕ) (kept : List ℕ) (c : ℕ) : Type 0 where
  pub other : has kept c ≡ false
  pub spared : c < newer → All (λ k. k < newer → leaves_out rule apart p k c ≡ false) kept

-- the row before this place is the same
abbrev pub IsRepeated : List ℕ → ℕ → Type 0
IsRepeated rows at = (0 < at) × (get_or rows (at - 1) 0 ≡ get_or rows at 0)

-- the answer to whether it is
abbrev pub TellsRepeated : List ℕ → ℕ → Bool → Type 0
TellsRepeated rows at told = (told ≡ true → IsRepeated rows at) × (told ≡ false → IsRepeated rows at → ⊥)

-- the kept rows after one more candidate was tried
abbrev pub with_tried : Rule → (ℕ → ℕ → ℕ) → ℕ → List ℕ → ℕ → List ℕ
with_tried rule apart p kept c = if takes rule apart p kept c then kept ++ c ∷ [] else kept

-- rows of a metric that are kept so far, and the fresh ones of them
pub record AreKept (size newer : ℕ) (kept fresh : List ℕ) : Type 0 where
  pub inside : All (λ k. k < size) kept
  pub fresh_are : fresh ≡ fresh_of newer kept

-- a candidate comes next: it is new, or it was tried just before and isn't taken
pub record IsNext (rule : Rule) (apart : ℕ → ℕ → ℕ) (p newer : ℕ) (kept : List ℕ) (c : ℕ) (repeated : Bool) : Type 0 where
  pub new : repeated ≡ false → IsNew rule apart p newer kept c
  pub tried : repeated ≡ true → takes rule apart p kept c ≡ false
