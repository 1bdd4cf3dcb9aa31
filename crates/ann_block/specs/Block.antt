-- What the blocks of a segment have in common.
use Rattle.std.specs.Prelude.{ℕ, Bool, List, [], ◌∷◌, ◌==◌, Option, Some, None, replicate, if◌then◌else◌}
use Rattle.std.specs.List.{list_all}
use Rattle.ann_block.specs.declared.refused.BlockRefused.{BlockRefused}

-- n bytes that are 0
unfoldable pub zeros : ℕ → List ℕ
zeros n = replicate n 0

-- each byte is 0
abbrev pub is_zeros : List ℕ → Bool
is_zeros bytes = list_all (λ byte. byte == 0) bytes

-- rules, each with the refusal of a block that breaks it: the refusal of the first rule that is broken
abbrev pub first_broken : List (Bool × BlockRefused) → Option BlockRefused
first_broken [] = None
first_broken (rule ∷ rules) = if rule.0 then first_broken rules else Some rule.1
