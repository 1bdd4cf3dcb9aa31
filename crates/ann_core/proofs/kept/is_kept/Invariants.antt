use Rattle.std.proofs.Common.{◌≡◌, drop}
use Rattle.ann_core.specs.Kept.{texts_of, is_kept_in}
use Rattle.ann_core.proofs.kept.is_kept.Given as goal

-- the number isn't among those so far
abbrev pub invariant-loop-one : goal.invariant-loop-one
invariant-loop-one l = is_kept_in (texts_of (drop l.one-index l.kept)) l.number ≡ is_kept_in (texts_of l.kept) l.number
