use Rattle.std.proofs.Common.{◌≡◌, ◌∙◌, ap, subst, length}
use Rattle.ann_disk.specs.Image.{IsImage, clean, after_write}
use Rattle.ann_disk.specs.File.{Torn}
use Rattle.ann_disk.proofs.Images.{torn}
use Rattle.ann_disk.proofs.Moments.{started, after_sync}
use Rattle.ann_disk.proofs.synced.write_synced.Goals as goal

pub returns-in_err-write_at-clause-during : goal.returns-in_err-write_at-clause-during
returns-in_err-write_at-clause-during g c told =
    let D = g.F.LogFile in
    let seen = D.seen c.args.file.now in
    let n = length c.args.bytes.now in
    let images : D.unsynced c.write_at.new.self ≡ after_write c.args.at n (clean seen) = c.write_at.ensures.images told ∙ ap (after_write c.args.at n) (c.requires.rest told) in
    started D.past D.unsynced c.args.file.now c.write_at.new.self (Torn c.args.at n seen) (c.write_at.ensures.past told)
    (λ image is. torn c.args.at n seen image (c.requires.place told) (subst (λ u. IsImage u image) images is))

pub returns-clause-during : goal.returns-clause-during
returns-clause-during g c told =
    let D = g.F.LogFile in
    let seen = D.seen c.args.file.now in
    let n = length c.args.bytes.now in
    let images : D.unsynced c.write_at.new.self ≡ after_write c.args.at n (clean seen) = c.write_at.ensures.images told ∙ ap (after_write c.args.at n) (c.requires.rest told) in
    let mid = started D.past D.unsynced c.args.file.now c.write_at.new.self (Torn c.args.at n seen) (c.write_at.ensures.past told)
    (λ image is. torn c.args.at n seen image (c.requires.place told) (subst (λ u. IsImage u image) images is)) in
    after_sync D.past D.unsynced D.seen c.args.file.now c.write_at.new.self c.sync.new.self (Torn c.args.at n seen) (D.seen c.write_at.new.self) c.sync.result mid
    (c.sync.ensures.images told) (c.sync.ensures.past told) (c.sync.ensures.failed told)
    (mid.now (D.seen c.write_at.new.self) (g.met.F.LogFile.reads_an_image c.write_at.new.self told))
