use Rattle.ann_disk.specs.File.{Torn}
use Rattle.ann_disk.proofs.Moments.{weaker}
use Rattle.ann_log.specs.Anew.{opened, IsUnmadeOr}
use Rattle.ann_log.proofs.Writing.{torn_made}
use Rattle.ann_log.proofs.write.open_made.Goals as goal

pub returns-clause-during : goal.returns-clause-during
returns-clause-during g c told =
    let D = g.F.LogFile in
    let old = c.args.file.now in
    weaker D.past D.unsynced old c.write_synced.new.file (Torn 0 1 (D.seen old)) (IsUnmadeOr (opened (D.seen old)))
    (λ bytes torn. torn_made (D.seen old) bytes (c.requires.there told) torn) (c.write_synced.ensures.during told)
