use Rattle.ann_disk.specs.Image.{IsImage}
use Rattle.ann_log.specs.Pairs.{AreImages}
use Rattle.ann_log.proofs.Pairs.{idle, by_sync, at_once}
use Rattle.ann_log.proofs.open.sync_both.Goals as goal

pub returns-in_err-sync-clause-during : goal.returns-in_err-sync-clause-during
returns-in_err-sync-clause-during g c told =
    let D = g.F.LogFile in
    let old = c.args.files.now in
    let u = D.unsynced old.first in
    let v = D.unsynced old.second in
    at_once D.past D.unsynced old (record { first = c.sync.new.self; second = old.second }) (IsImage u) (IsImage v) (AreImages u v) (λ a b is_a is_b. (is_a, is_b))
    (by_sync D.past D.unsynced D.seen old.first c.sync.new.self (D.seen old.first) c.sync.result (c.sync.ensures.images told) (c.sync.ensures.past told) (c.sync.ensures.failed told) (g.met.F.LogFile.reads_an_image old.first told))
    (idle D.past D.unsynced old.second (IsImage v) (λ image is. is))

pub returns-in_err-sync-2-clause-during : goal.returns-in_err-sync-2-clause-during
returns-in_err-sync-2-clause-during g c told =
    let D = g.F.LogFile in
    let old = c.args.files.now in
    let u = D.unsynced old.first in
    let v = D.unsynced old.second in
    at_once D.past D.unsynced old (record { first = c.sync.new.self; second = c.sync-2.new.self }) (IsImage u) (IsImage v) (AreImages u v) (λ a b is_a is_b. (is_a, is_b))
    (by_sync D.past D.unsynced D.seen old.first c.sync.new.self (D.seen old.first) c.sync.result (c.sync.ensures.images told) (c.sync.ensures.past told) (c.sync.ensures.failed told) (g.met.F.LogFile.reads_an_image old.first told))
    (by_sync D.past D.unsynced D.seen old.second c.sync-2.new.self (D.seen old.second) c.sync-2.result (c.sync-2.ensures.images told) (c.sync-2.ensures.past told) (c.sync-2.ensures.failed told) (g.met.F.LogFile.reads_an_image old.second told))

pub returns-clause-during : goal.returns-clause-during
returns-clause-during g c told =
    let D = g.F.LogFile in
    let old = c.args.files.now in
    let u = D.unsynced old.first in
    let v = D.unsynced old.second in
    at_once D.past D.unsynced old (record { first = c.sync.new.self; second = c.sync-2.new.self }) (IsImage u) (IsImage v) (AreImages u v) (λ a b is_a is_b. (is_a, is_b))
    (by_sync D.past D.unsynced D.seen old.first c.sync.new.self (D.seen old.first) c.sync.result (c.sync.ensures.images told) (c.sync.ensures.past told) (c.sync.ensures.failed told) (g.met.F.LogFile.reads_an_image old.first told))
    (by_sync D.past D.unsynced D.seen old.second c.sync-2.new.self (D.seen old.second) c.sync-2.result (c.sync-2.ensures.images told) (c.sync-2.ensures.past told) (c.sync-2.ensures.failed told) (g.met.F.LogFile.reads_an_image old.second told))
