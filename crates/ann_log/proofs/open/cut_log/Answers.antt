use Rattle.std.proofs.Common.{◌≡◌, ◌+◌, List, ℕ, sym, subst}
use Rattle.ann_disk.specs.File.{Cut}
use Rattle.ann_preamble.specs.declared.choice.Side.TheVariants.{First, Second}
use Rattle.ann_log.specs.Pairs.{LeavePairs, MayBeCut}
use Rattle.ann_log.proofs.Pairs.{resting, at_once}
use Rattle.ann_log.proofs.open.cut_log.Goals as goal

pub returns-in-First-clause-during : goal.returns-in-First-clause-during
returns-in-First-clause-during g c told =
    let D = g.F.LogFile in
    let old = c.args.files.now in
    let to = c.args.gate + 1 in
    let first = D.seen old.first in
    let second = D.seen old.second in
    subst (λ side. LeavePairs D.past D.unsynced old (record { first = c.cut_behind.new.file; second = old.second }) (MayBeCut side to first second)) (sym c.in-First.is)
    (at_once D.past D.unsynced old (record { first = c.cut_behind.new.file; second = old.second }) (Cut to first) (λ (b : List ℕ). b ≡ second) (MayBeCut First to first second)
    (λ a b cut same. (cut, same)) (c.cut_behind.ensures.during told) (resting D.past D.unsynced old.second second (c.requires.rest.second told)))

pub returns-in-Second-clause-during : goal.returns-in-Second-clause-during
returns-in-Second-clause-during g c told =
    let D = g.F.LogFile in
    let old = c.args.files.now in
    let to = c.args.gate + 1 in
    let first = D.seen old.first in
    let second = D.seen old.second in
    subst (λ side. LeavePairs D.past D.unsynced old (record { first = old.first; second = c.cut_behind-in-Second.new.file }) (MayBeCut side to first second)) (sym c.in-Second.is)
    (at_once D.past D.unsynced old (record { first = old.first; second = c.cut_behind-in-Second.new.file }) (λ (a : List ℕ). a ≡ first) (Cut to second) (MayBeCut Second to first second)
    (λ a b same cut. (cut, same)) (resting D.past D.unsynced old.first first (c.requires.rest.first told)) (c.cut_behind-in-Second.ensures.during told))
