-- What a point keeps of other points may be its neighbours.
use Rattle.std.proofs.Common.{◌≡◌, ◌≢◌, ℕ, suc, ◌<◌, true, List, [], ◌∷◌, arith, length}
use Rattle.std.specs.List.{All, AllByRecursion}
use Rattle.std.proofs.lemmas.List.Elements.{All-from_recursion, recursion_from_All}
use Rattle.ann_types.specs.Order.{has}
use Rattle.ann_types.specs.Kept.{Rule, rule_of, kept, within}
use Rattle.ann_types.specs.Rows.{AreNeighbours}
use Rattle.ann_types.specs.declared.params.Params.{Params}
use Rattle.ann_types.proofs.Sets.{Rises, increasing_from_rises}
use Rattle.ann_types.proofs.Keeps.{kept_inside, kept_few, kept_rises, within_inside, within_few, within_rises}
use Rattle.ann_types.proofs.Graphs.{all_from_has, has_all}

-- what holds of each holds of those that a list has
pub holds_of : (P : ℕ → Type 0) (xs : List ℕ) (z : ℕ) → All P xs → has xs z ≡ true → P z
holds_of P xs z a h = has_all P xs z (recursion_from_All P xs a) h

-- what holds of all candidates holds of those kept
pub kept_all : (P : ℕ → Type 0) (rule : Rule) (apart : ℕ → ℕ → ℕ) (p : ℕ) (others : List ℕ) → All P others → All P (kept rule apart p others)
kept_all P rule apart p others a =
    All-from_recursion P (kept rule apart p others) (all_from_has P (kept rule apart p others) (λ z h. holds_of P others z a (kept_inside rule apart p others z h)))

pub kept_may : (params : Params) (apart : ℕ → ℕ → ℕ) (count row : ℕ) (others : List ℕ) → All (λ other. other < count) others → All (λ other. other ≢ row) others → AreNeighbours params count row (kept (rule_of params) apart row others)
kept_may params apart count row others inside differ = record {
  rising = increasing_from_rises (kept (rule_of params) apart row others) (kept_rises (rule_of params) apart row others);
  inside = kept_all (λ other. other < count) (rule_of params) apart row others inside;
  others = kept_all (λ other. other ≢ row) (rule_of params) apart row others differ;
  few = kept_few (rule_of params) apart row others;
}

-- The same of a set that is pruned only where it has more than R members.
pub within_all : (P : ℕ → Type 0) (rule : Rule) (apart : ℕ → ℕ → ℕ) (p : ℕ) (set : List ℕ) → All P set → All P (within rule apart p set)
within_all P rule apart p set a =
    All-from_recursion P (within rule apart p set) (all_from_has P (within rule apart p set) (λ z h. holds_of P set z a (within_inside rule apart p set z h)))

pub within_may : (params : Params) (apart : ℕ → ℕ → ℕ) (count row : ℕ) (set : List ℕ) → Rises set → All (λ other. other < count) set → All (λ other. other ≢ row) set → AreNeighbours params count row (within (rule_of params) apart row set)
within_may params apart count row set rises inside differ = record {
  rising = increasing_from_rises (within (rule_of params) apart row set) (within_rises (rule_of params) apart row set rises);
  inside = within_all (λ other. other < count) (rule_of params) apart row set inside;
  others = within_all (λ other. other ≢ row) (rule_of params) apart row set differ;
  few = within_few (rule_of params) apart row set;
}
