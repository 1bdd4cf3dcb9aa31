use Rattle.ann_log.specs.Pairs.{AreImages}
use Rattle.ann_log.proofs.Pairs.{still}
use Rattle.ann_log.proofs.open.settle.Goals as goal

pub returns-clause-during : goal.returns-clause-during
returns-clause-during g c told =
    let D = g.F.LogFile in
    let old = c.args.files.now in
    still D.past D.unsynced D.seen c.sync_both.new.files c.read_both.new.files (AreImages (D.unsynced old.first) (D.unsynced old.second))
    (c.read_both.ensures.same told) old (c.sync_both.ensures.during told)
