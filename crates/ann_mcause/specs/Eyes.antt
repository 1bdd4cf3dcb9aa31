-- The same of several eyes, one for each worker.
use Rattle.std.specs.Prelude.{ℕ, List}
use Rattle.ann_types.specs.declared.params.Params.{Params}
use Rattle.ann_crew.specs.Crew.{AreWorked, IsCaused}
use Rattle.ann_mdelete.specs.Refusals.{Counts, counts_of}
use Rattle.ann_mdelete.specs.declared.refused.WorkRefused.{WorkRefused}
use Rattle.ann_mpatch.specs.Source.{Source}
use Rattle.ann_mcause.specs.Causes.{HasGone, IsCause}

-- `reads` and `faults` are the counts of an eye
module _ {E : Type 0} (reads faults : E → ℕ) where
  abbrev pub counts : E → Counts
  counts eye = counts_of (reads eye) (faults eye)

  -- how one eye comes out, and with which the work may be refused
  abbrev pub EyeGoes : E → E → Type 0
  EyeGoes old new = HasGone (counts old) (counts new)

  abbrev pub EyeCauses : Type 0 → Source → Params → E → E → WorkRefused → Type 0
  EyeCauses tells source params old new why = IsCause tells source params (counts old) (counts new) why

  -- the eyes stand where they stood, and no count has fallen
  abbrev pub HaveGone : List E → List E → Type 0
  HaveGone old new = AreWorked EyeGoes old new

  -- one of the eyes has the cause
  abbrev pub AreCause : Type 0 → Source → Params → List E → List E → WorkRefused → Type 0
  AreCause tells source params old new why = IsCaused (EyeCauses tells source params) old new why
