-- The finite map from tag to Pid that contracts see.
use Rattle.std.specs.Prelude.{ℕ, refl}
use Rattle.std.specs.Ordering.{nat_cmp}
use Rattle.std.specs.FinMap.{FinMap, code, from_entries}
use Rattle.std.specs.Coded.{Coded, code_by, coded×, coded_ℕ}
use Rattle.ann_types.specs.Lists.{Names}

-- a finite map from tag to Pid
abbrev pub Pids : Type 0
Pids = FinMap nat_cmp ℕ

-- the Pids by tag, and for how many more tags there is room
pub record TagsView : Type 0 where
  pub pids : Pids
  pub spare : ℕ

abbrev pub shown_code : Coded TagsView
shown_code = code_by (Pids × ℕ) (coded× (code coded_ℕ coded_ℕ) coded_ℕ) (λ s. (s.pids, s.spare)) (λ p. record { pids = p.0; spare = p.1 }) (λ _. refl)

-- the map of a list of pairs, as the live tags of a list of entries are
abbrev pub map_of : Names → Pids
map_of live = from_entries live
