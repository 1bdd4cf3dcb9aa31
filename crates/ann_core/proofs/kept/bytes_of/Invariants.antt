use Rattle.std.proofs.Common.{◌≡◌, drop}
use Rattle.ann_core.specs.Kept.{texts_of, text_in}
use Rattle.ann_core.proofs.kept.bytes_of.Given as goal

-- the number isn't among those so far
abbrev pub invariant-loop-one : goal.invariant-loop-one
invariant-loop-one l = text_in (texts_of (drop l.one-index l.kept)) l.number ≡ text_in (texts_of l.kept) l.number
