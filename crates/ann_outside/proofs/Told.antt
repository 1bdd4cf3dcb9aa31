-- Objects that tell their bytes, from call to call.
use Rattle.std.specs.Prelude.{ℕ, List, Option}
use Rattle.ann_outside.specs.Told.{TellsStill}

pub tells_on : (first before now : Option (List ℕ)) → TellsStill first before → TellsStill before now → TellsStill first now
tells_on first before now h k = (λ x. h.0 (k.0 x), λ x. k.1 (h.1 x))

-- nothing was called
pub tells_same : (told : Option (List ℕ)) → TellsStill told told
tells_same told = (λ x. x, λ x. x)
