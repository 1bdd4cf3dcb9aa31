-- The same of eyes: the laws that a task of a merge needs, and those of several eyes side by side.
use Rattle.std.proofs.Common.{◌≡◌, ℕ, ◌<◌, List, length, get_or, refl, ◌∙◌, arith}
use Rattle.ann_types.specs.declared.params.Params.{Params}
use Rattle.ann_mdelete.specs.declared.refused.WorkRefused.{WorkRefused}
use Rattle.ann_mdelete.specs.declared.refused.WorkRefused.TheVariants.{Memory}
use Rattle.ann_mpatch.specs.Source.{Source}
use Rattle.ann_mcause.specs.Eyes.{AreCause, EyeCauses, EyeGoes, HaveGone, counts}
use Rattle.ann_mcause.proofs.Counted.{caused, caused_before, goes_on, memory, stays}

module _ {E : Type 0} (reads faults : E → ℕ) where
  -- ---- one eye

  pub eye_stays : (eye : E) → EyeGoes reads faults eye eye
  eye_stays eye = stays (counts reads faults eye)

  pub eye_goes_on : (u v w : E) → EyeGoes reads faults u v → EyeGoes reads faults v w → EyeGoes reads faults u w
  eye_goes_on u v w = goes_on (counts reads faults u) (counts reads faults v) (counts reads faults w)

  -- ---- several eyes

  pub eyes_stay : (eyes : List E) → HaveGone reads faults eyes eyes
  eyes_stay eyes = record { same = refl; each = λ i d below. eye_stays (get_or eyes i d) }

  pub eyes_go_on : (old now new : List E) → HaveGone reads faults old now → HaveGone reads faults now new → HaveGone reads faults old new
  eyes_go_on old now new first second = record {
    same = second.same ∙ first.same;
    each = λ i d below. eye_goes_on (get_or old i d) (get_or now i d) (get_or new i d) (first.each i d below) (second.each i d (let same = first.same in omega arith));
  }

  -- ---- causes

  module _ (tells : Type 0) (source : Source) (params : Params) where
    pub eye_caused : (u v w : E) (why : WorkRefused) → EyeGoes reads faults u v → EyeCauses reads faults tells source params v w why → EyeCauses reads faults tells source params u w why
    eye_caused u v w why = caused tells source params (counts reads faults u) (counts reads faults v) (counts reads faults w) why

    pub eye_caused_before : (u v w : E) (why : WorkRefused) → EyeCauses reads faults tells source params u v why → EyeGoes reads faults v w → EyeCauses reads faults tells source params u w why
    eye_caused_before u v w why = caused_before tells source params (counts reads faults u) (counts reads faults v) (counts reads faults w) why

    pub eye_memory : (u v : E) → EyeCauses reads faults tells source params u v Memory
    eye_memory u v = memory tells source params (counts reads faults u) (counts reads faults v)

    -- a cause of the eyes behind other work is a cause of all of it
    pub eyes_caused : (old now new : List E) (why : WorkRefused) → HaveGone reads faults old now → AreCause reads faults tells source params now new why → AreCause reads faults tells source params old new why
    eyes_caused old now new why gone cause =
        let below : cause.0 < length old = (let same = gone.same in let inside = cause.1 in omega arith) in
        (cause.0, below, λ d. eye_caused (get_or old cause.0 d) (get_or now cause.0 d) (get_or new cause.0 d) why (gone.each cause.0 d below) (cause.2 d))

    -- and so is one before other work
    pub eyes_caused_before : (old now new : List E) (why : WorkRefused) → length now ≡ length old → AreCause reads faults tells source params old now why → HaveGone reads faults now new → AreCause reads faults tells source params old new why
    eyes_caused_before old now new why size cause gone =
        let below : cause.0 < length now = (let inside = cause.1 in omega arith) in
        (cause.0, cause.1, λ d. eye_caused_before (get_or old cause.0 d) (get_or now cause.0 d) (get_or new cause.0 d) why (cause.2 d) (gone.each cause.0 d below))

    -- want of memory may come at any time
    pub eyes_memory : (old new : List E) → 0 < length old → AreCause reads faults tells source params old new Memory
    eyes_memory old new some = (0, some, λ d. eye_memory (get_or old 0 d) (get_or new 0 d))
