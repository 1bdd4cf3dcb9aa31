use Rattle.std.proofs.Common.{inl, inr, subst}
use Rattle.ann_disk.specs.File.{Torn, BeginsAnImage}
use Rattle.ann_disk.proofs.Moments.{weaker, joined}
use Rattle.ann_log.specs.Anew.{IsFrontOrUnmade}
use Rattle.ann_log.proofs.Writing.{cut_unmade, torn_first}
use Rattle.ann_log.proofs.write.clear.Goals as goal

pub returns-in_err-cut_any-clause-unmade : goal.returns-in_err-cut_any-clause-unmade
returns-in_err-cut_any-clause-unmade g c told unmade =
    cut_unmade (g.F.LogFile.seen c.args.file.now) (g.F.LogFile.seen c.cut_any.new.file) (c.cut_any.ensures.torn told) unmade

pub returns-clause-during : goal.returns-clause-during
returns-clause-during g c told =
    let D = g.F.LogFile in
    let old = c.args.file.now in
    let mid = c.cut_any.new.file in
    let new = c.write_synced.new.file in
    let P = IsFrontOrUnmade (D.unsynced old) in
    let first = weaker D.past D.unsynced old mid (BeginsAnImage (D.unsynced old)) P (λ bytes begins. inl begins) (c.cut_any.ensures.during told) in
    let second = weaker D.past D.unsynced mid new (Torn 0 1 (D.seen mid)) P
    (λ bytes torn. inr (torn_first bytes (subst (λ f. Torn 0 1 f bytes) (c.in_ok-cut_any.ensures.written told) torn))) (c.write_synced.ensures.during told) in
    joined D.past D.unsynced old mid new P first second

pub returns-clause-unmade : goal.returns-clause-unmade
returns-clause-unmade g c told unmade =
    let D = g.F.LogFile in
    let new = c.write_synced.new.file in
    let torn = (c.write_synced.ensures.during told).now (D.seen new) (g.met.F.LogFile.reads_an_image new told) in
    torn_first (D.seen new) (subst (λ f. Torn 0 1 f (D.seen new)) (c.in_ok-cut_any.ensures.written told) torn)
