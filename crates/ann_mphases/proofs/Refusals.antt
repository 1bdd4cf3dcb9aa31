-- Workers that are refused for want of memory alone.
use Rattle.std.proofs.Common.{◌≡◌, List, [], ◌∷◌, arith}
use Rattle.ann_crew.specs.Crew.{IsCaused}
use Rattle.ann_mdelete.specs.declared.refused.WorkRefused.{WorkRefused}
use Rattle.ann_mdelete.specs.declared.refused.WorkRefused.TheVariants.{Memory}

pub only_memory : {W : Type 0} (old new : List W) (why : WorkRefused) → IsCaused (λ (u v : W) (w : WorkRefused). w ≡ Memory) old new why → why ≡ Memory
only_memory [] new why caused = (let none = caused.1 in absurd (omega arith))
only_memory (w ∷ old) new why caused = caused.2 w
