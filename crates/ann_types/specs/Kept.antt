-- Which candidates a point keeps as neighbours (RobustPrune of DiskANN, section 2.2, Algorithm 2).
use Rattle.std.specs.Prelude.{ℕ, Bool, List, [], ◌∷◌, ◌++◌, ◌*◌, ◌&&◌, not, nat_lt, nat_le, length, if◌then◌else◌}
use Rattle.std.specs.List.{list_any}
use Rattle.ann_types.specs.Order.{in_order, ascending}
use Rattle.ann_types.specs.declared.params.Params.{Params}

-- the most neighbours of a point, R, and alpha as the fraction a/b
pub record Rule : Type 0 where
  pub r : ℕ
  pub a : ℕ
  pub b : ℕ

abbrev pub rule : ℕ → ℕ → ℕ → Rule
rule r a b = record { r = r; a = a; b = b }

-- the rule by which an index prunes
abbrev pub rule_of : Params → Rule
rule_of params = rule params.r params.a params.b

-- some kept point is so much nearer to c than p is that c is left out: alpha times its distance to c is at
-- most p's, both squared
abbrev pub covered : Rule → (ℕ → ℕ → ℕ) → ℕ → List ℕ → ℕ → Bool
covered rule apart p kept c =
    list_any (λ k. nat_le (rule.a * rule.a * apart k c) (rule.b * rule.b * apart p c)) kept

-- c is kept after these: there is room, and none of them leaves it out
abbrev pub takes : Rule → (ℕ → ℕ → ℕ) → ℕ → List ℕ → ℕ → Bool
takes rule apart p kept c = nat_lt (length kept) rule.r && not (covered rule apart p kept c)

-- these kept points, and those that are kept after them of candidates in order to p
abbrev pub keep : Rule → (ℕ → ℕ → ℕ) → ℕ → List ℕ → List ℕ → List ℕ
keep rule apart p kept [] = kept
keep rule apart p kept (c ∷ cs) =
    keep rule apart p (if takes rule apart p kept c then kept ++ c ∷ [] else kept) cs

-- Kept(p, C): the set of the candidates that p keeps, gone through in the order to p; `apart` is the
-- distance of two points
abbrev pub kept : Rule → (ℕ → ℕ → ℕ) → ℕ → List ℕ → List ℕ
kept rule apart p candidates = ascending (keep rule apart p [] (in_order (apart p) candidates))

-- a point's neighbours where it may have this set: the set, or what p keeps of it where it has more than R
-- members
abbrev pub within : Rule → (ℕ → ℕ → ℕ) → ℕ → List ℕ → List ℕ
within rule apart p set = if nat_lt rule.r (length set) then kept rule apart p set else set
