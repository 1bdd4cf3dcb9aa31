-- The points of a fill: what a generator makes from a seed.
use Rattle.std.specs.Prelude.{ℕ, zero, suc, ◌+◌, ◌*◌, ◌/◌, ◌%◌, ◌^◌, List, [], ◌∷◌, take, drop}
use Rattle.ann_types.specs.declared.change.Change.{Change}
use Rattle.ann_types.specs.declared.change.Change.TheVariants.{Insert}

-- a step of the generator
abbrev pub next_state : ℕ → ℕ
next_state x = (x * 1103515245 + 12345) % 2 ^ 31

-- so many steps
abbrev pub after : ℕ → ℕ → ℕ
after x zero = x
after x (suc n) = after (next_state x) n

-- the component that a state gives
abbrev pub component_of : ℕ → ℕ
component_of x = x / 65536 % 256

-- so many components, from the next step on
abbrev pub made : ℕ → ℕ → List ℕ
made x zero = []
made x (suc n) = component_of (next_state x) ∷ made (next_state x) n

-- the inserts of so many points of d components, from this state and this tag on
abbrev pub inserts : ℕ → ℕ → ℕ → ℕ → List Change
inserts d x tag zero = []
inserts d x tag (suc n) = Insert tag (made x d) ∷ inserts d (after x d) (tag + 1) n

-- of a fill of so many points the inserts behind so many updates, of 64 each
abbrev pub behind : ℕ → ℕ → ℕ → ℕ → ℕ → List Change
behind d seed count first index = drop (64 * index) (inserts d seed first count)

-- the update of this index, from 0: the next 64 of its inserts, or the last ones
abbrev pub batch_of : ℕ → ℕ → ℕ → ℕ → ℕ → List Change
batch_of d seed count first index = take 64 (behind d seed count first index)
