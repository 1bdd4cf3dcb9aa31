use Rattle.std.proofs.Common.{◌≡◌, ◌++◌, drop, string_bytes}
use Rattle.ann_transcript.specs.Transcript.{items_text}
use Rattle.ann_transcript.proofs.replies.write_items.Given as goal

-- the text so far, and that of the hits to come, are the whole
abbrev pub invariant-loop-hit : goal.invariant-loop-hit
invariant-loop-hit l = string_bytes l.text ++ items_text (drop l.hit-index l.hits) ≡ string_bytes l.fn.text ++ items_text l.hits
