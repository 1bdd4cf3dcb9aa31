use Rattle.std.proofs.Common.{subst, arith}
use Rattle.ann_disk.specs.Image.{IsImage}
use Rattle.ann_disk.specs.File.{BeginsAnImage}
use Rattle.ann_disk.proofs.Images.{cut_begins}
use Rattle.ann_disk.proofs.Moments.{started, after_sync}
use Rattle.ann_disk.proofs.synced.cut_any.Goals as goal

pub returns-in_err-cut-clause-during : goal.returns-in_err-cut-clause-during
returns-in_err-cut-clause-during g c told =
    let D = g.F.LogFile in
    let u = D.unsynced c.args.file.now in
    let here = g.met.F.LogFile.reads_an_image c.args.file.now told in
    started D.past D.unsynced c.args.file.now c.cut.new.self (BeginsAnImage u) (c.cut.ensures.past told)
    (λ image is. cut_begins u image c.args.to (omega (arith, here.no_shorter, here.no_longer)) (subst (λ v. IsImage v image) (c.cut.ensures.images told) is))

pub returns-clause-during : goal.returns-clause-during
returns-clause-during g c told =
    let D = g.F.LogFile in
    let u = D.unsynced c.args.file.now in
    let here = g.met.F.LogFile.reads_an_image c.args.file.now told in
    let mid = started D.past D.unsynced c.args.file.now c.cut.new.self (BeginsAnImage u) (c.cut.ensures.past told)
    (λ image is. cut_begins u image c.args.to (omega (arith, here.no_shorter, here.no_longer)) (subst (λ v. IsImage v image) (c.cut.ensures.images told) is)) in
    after_sync D.past D.unsynced D.seen c.args.file.now c.cut.new.self c.sync.new.self (BeginsAnImage u) (D.seen c.cut.new.self) c.sync.result mid
    (c.sync.ensures.images told) (c.sync.ensures.past told) (c.sync.ensures.failed told)
    (mid.now (D.seen c.cut.new.self) (g.met.F.LogFile.reads_an_image c.cut.new.self told))
