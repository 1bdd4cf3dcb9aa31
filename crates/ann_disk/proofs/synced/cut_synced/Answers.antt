use Rattle.std.proofs.Common.{◌≡◌, ◌∙◌, ap, subst}
use Rattle.ann_disk.specs.Image.{IsImage, clean, after_cut}
use Rattle.ann_disk.specs.File.{Cut}
use Rattle.ann_disk.proofs.Images.{cut_short}
use Rattle.ann_disk.proofs.Moments.{started, after_sync}
use Rattle.ann_disk.proofs.synced.cut_synced.Goals as goal

pub returns-in_err-cut-clause-during : goal.returns-in_err-cut-clause-during
returns-in_err-cut-clause-during g c told =
    let D = g.F.LogFile in
    let seen = D.seen c.args.file.now in
    let images : D.unsynced c.cut.new.self ≡ after_cut c.args.to (clean seen) = c.cut.ensures.images told ∙ ap (after_cut c.args.to) (c.requires.rest told) in
    started D.past D.unsynced c.args.file.now c.cut.new.self (Cut c.args.to seen) (c.cut.ensures.past told)
    (λ image is. cut_short c.args.to seen image (c.requires.place told) (subst (λ u. IsImage u image) images is))

pub returns-clause-during : goal.returns-clause-during
returns-clause-during g c told =
    let D = g.F.LogFile in
    let seen = D.seen c.args.file.now in
    let images : D.unsynced c.cut.new.self ≡ after_cut c.args.to (clean seen) = c.cut.ensures.images told ∙ ap (after_cut c.args.to) (c.requires.rest told) in
    let mid = started D.past D.unsynced c.args.file.now c.cut.new.self (Cut c.args.to seen) (c.cut.ensures.past told)
    (λ image is. cut_short c.args.to seen image (c.requires.place told) (subst (λ u. IsImage u image) images is)) in
    after_sync D.past D.unsynced D.seen c.args.file.now c.cut.new.self c.sync.new.self (Cut c.args.to seen) (D.seen c.cut.new.self) c.sync.result mid
    (c.sync.ensures.images told) (c.sync.ensures.past told) (c.sync.ensures.failed told)
    (mid.now (D.seen c.cut.new.self) (g.met.F.LogFile.reads_an_image c.cut.new.self told))
