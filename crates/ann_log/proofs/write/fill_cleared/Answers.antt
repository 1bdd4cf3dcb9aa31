use Rattle.ann_disk.proofs.Moments.{weaker, joined}
use Rattle.std.proofs.Common.{inl}
use Rattle.ann_log.specs.Anew.{IsUnmade, IsUnmadeOr, IsUnmadeOrWhole, opened}
use Rattle.ann_log.proofs.Tails.{some_there, open_tail, whole_there}
use Rattle.ann_log.proofs.write.fill_cleared.Goals as goal

pub open_made-requires-clause-there : goal.open_made-requires-clause-there
open_made-requires-clause-there g c told =
    some_there c.args.head.now c.requires.fill.head g.F.LogFile.tells c.args.d c.args.tail.now _ _ c.in_ok-gate.ensures.filled.held told

pub returns-in_err-gate-clause-during : goal.returns-in_err-gate-clause-during
returns-in_err-gate-clause-during g c told =
    let D = g.F.LogFile in
    weaker D.past D.unsynced c.args.file.now c.fill_shut.new.file IsUnmade (IsUnmadeOrWhole c.args.d c.args.head.now c.args.tail.now) (λ bytes unmade. inl unmade) (c.fill_shut.ensures.during told)

pub returns-in_err-open_made-clause-during : goal.returns-in_err-open_made-clause-during
returns-in_err-open_made-clause-during g c told =
    let D = g.F.LogFile in
    let old = c.args.file.now in
    let mid = c.fill_shut.new.file in
    let P = IsUnmadeOrWhole c.args.d c.args.head.now c.args.tail.now in
    let first = weaker D.past D.unsynced old mid IsUnmade P (λ bytes unmade. inl unmade) (c.fill_shut.ensures.during told) in
    let second = weaker D.past D.unsynced mid c.open_made.new.file (IsUnmadeOr (opened (D.seen mid))) P
    (λ bytes is. whole_there c.args.head.now c.requires.fill.head D.tells c.args.d c.args.tail.now _ (D.seen mid) c.in_ok-gate.ensures.filled.held told bytes is) (c.open_made.ensures.during told) in
    joined D.past D.unsynced old mid c.open_made.new.file P first second

pub returns-clause-during : goal.returns-clause-during
returns-clause-during g c told =
    let D = g.F.LogFile in
    let old = c.args.file.now in
    let mid = c.fill_shut.new.file in
    let P = IsUnmadeOrWhole c.args.d c.args.head.now c.args.tail.now in
    let first = weaker D.past D.unsynced old mid IsUnmade P (λ bytes unmade. inl unmade) (c.fill_shut.ensures.during told) in
    let second = weaker D.past D.unsynced mid c.open_made.new.file (IsUnmadeOr (opened (D.seen mid))) P
    (λ bytes is. whole_there c.args.head.now c.requires.fill.head D.tells c.args.d c.args.tail.now _ (D.seen mid) c.in_ok-gate.ensures.filled.held told bytes is) (c.open_made.ensures.during told) in
    joined D.past D.unsynced old mid c.open_made.new.file P first second

pub returns-clause-filled : goal.returns-clause-filled
returns-clause-filled g c =
    let D = g.F.LogFile in
    record {
      held = open_tail c.args.head.now c.requires.fill.head D.tells c.args.d c.args.tail.now c.in_ok-gate.gate (D.seen c.fill_shut.new.file) c.in_ok-gate.ensures.filled.held (D.seen c.open_made.new.file) c.in_ok-open_made.ensures.opened;
      rest = c.in_ok-open_made.ensures.rest;
    }
