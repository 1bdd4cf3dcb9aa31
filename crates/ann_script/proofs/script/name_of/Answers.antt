use Rattle.std.proofs.Common.{◌∙◌, ◌<◌, arith}
use Rattle.std.proofs.lemmas.List.{take_all, take_more}
use Rattle.ann_script.proofs.Names.{name_byte_at}
use Rattle.ann_script.proofs.script.name_of.Goals as goal

pub loop-byte-preserved : goal.loop-byte-preserved
loop-byte-preserved c =
    let ascii : c.from.result < 128 = omega (arith, c.from.ensures, name_byte_at c.args.word.now c.loop-byte.byte-index c.requires c.loop-byte-test.true) in
    let pushed = c.in_ok-push.ensures.bytes in
    let one = c.in_ok-push.ensures.ascii ascii in
    let more = take_more c.args.word.now c.loop-byte.byte-index 0 c.loop-byte-test.true in
    cc

pub returns : goal.returns
returns c = c.loop-byte.invariant ∙ take_all _ _ (omega arith)
