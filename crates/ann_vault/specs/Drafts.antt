-- Which drafts of a vault stay current.
use Rattle.std.specs.Prelude.{◌≢◌, ℕ}

module _ {V D : Type 0} (is_current : V → D → Type 0) (old new : V) where
  -- every draft that was current is so still
  abbrev pub KeepsDrafts : Type 0
  KeepsDrafts = (draft : D) → is_current old draft → is_current new draft

  -- every draft of another number that was current is so still
  abbrev pub KeepsOthers : (D → ℕ) → ℕ → Type 0
  KeepsOthers number_of number = (draft : D) → number_of draft ≢ number → is_current old draft → is_current new draft
