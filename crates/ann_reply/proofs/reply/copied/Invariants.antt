use Rattle.std.proofs.Common.{◌≡◌, take}
use Rattle.ann_reply.proofs.reply.copied.Given as goal

-- the hits so far
abbrev pub invariant-loop-hit : goal.invariant-loop-hit
invariant-loop-hit l = l.list ≡ take l.hit-index l.hits
