use Rattle.std.proofs.Common.{◌≡◌, ◌+◌, ◌∙◌, sym, ap, arith, length}
use Rattle.std.proofs.lemmas.List.{take_all}
use Rattle.ann_disk.specs.File.{Cut}
use Rattle.ann_log.proofs.Pairs.{resting}
use Rattle.ann_disk.proofs.Moments.{weaker}
use Rattle.ann_log.proofs.open.cut_behind.Goals as goal

pub returns-then-gate-end-clause-during : goal.returns-then-gate-end-clause-during
returns-then-gate-end-clause-during g c told =
    let D = g.F.LogFile in
    let file = c.args.file.now in
    let bytes = D.seen file in
    let end = c.requires.end told in
    let here = c.if-gate-end.true in
    weaker D.past D.unsynced file file (λ image. image ≡ bytes) (Cut (c.args.gate + 1) bytes)
    (λ image is. record { no_shorter = omega (arith, end, here, ap length is); front = take_all (length image) bytes (omega (arith, ap length is)) ∙ sym is })
    (resting D.past D.unsynced file bytes (c.requires.rest told))
