-- The segments that a list doesn't name.
use Rattle.std.specs.Prelude.{◌≡◌, ◌≢◌, ◌<◌, ◌+◌, ◌*◌, ℕ, Some}
use Rattle.ann_types.specs.Fold.{Begun, fold_of}
use Rattle.ann_types.specs.Index.{Index}
use Rattle.ann_types.specs.Lists.{BasedList, length_of}
use Rattle.ann_named.specs.Named.{named_in}

-- a number is neither that of a list's base nor that of its last End
pub record IsUnnamed (h : BasedList) (number : ℕ) : Type 0 where
  pub base : h.base.segment ≢ number
  pub last : named_in h ≢ number

-- Nor will a longer list name it: the merge that is open has a greater number, and so has each that is yet to begin.
pub record IsRetired (index : Index) (h : BasedList) (number : ℕ) : Type 0 where
  pub unnamed : IsUnnamed h number
  pub current : (b : Begun) → (fold_of index h).begun ≡ Some b → number < 2 * b.position + 1
  pub next : number < 2 * length_of h + 1
