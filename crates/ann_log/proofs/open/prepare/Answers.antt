use Rattle.std.proofs.Common.{◌+◌, ◌∙◌, List, ℕ, take, sym, ap, ap₂, rules}
use Rattle.ann_preamble.specs.Preamble.{said_by, preamble_of}
use Rattle.ann_log.specs.LogView.{on_side, off_side, choice_of}
use Rattle.ann_log.specs.Pairs.{ReadAsBefore, AreImages, MayBeCut}
use Rattle.ann_log.proofs.Faults.{calm_behind}
use Rattle.ann_log.proofs.Pairs.{weaker_pairs, joined_pairs, last_pair}
use Rattle.ann_log.specs.Opened.{seen_on, seen_off}
use Rattle.ann_log.proofs.Opening.{held_still, held_cut, are_cut, upto_is, rest_here, cut_reads, on_clean, images_read, may_be_cut}
use Rattle.ann_log.proofs.open.prepare.Goals as goal

pub returns-in_err-found-clause-during : goal.returns-in_err-found-clause-during
returns-in_err-found-clause-during g c told =
    let D = g.F.LogFile in
    let old = c.args.files.now in
    let u = D.unsynced old.first in
    let v = D.unsynced old.second in
    weaker_pairs D.past D.unsynced old c.settle.new.files (AreImages u v) (ReadAsBefore u v) (images_read u v) (c.settle.ensures.during told)

pub returns-in_err-room-clause-during : goal.returns-in_err-room-clause-during
returns-in_err-room-clause-during g c told =
    let D = g.F.LogFile in
    let old = c.args.files.now in
    let u = D.unsynced old.first in
    let v = D.unsynced old.second in
    weaker_pairs D.past D.unsynced old c.settle.new.files (AreImages u v) (ReadAsBefore u v) (images_read u v) (c.settle.ensures.during told)

pub returns-in_err-cut_log-clause-during : goal.returns-in_err-cut_log-clause-during
returns-in_err-cut_log-clause-during g c told =
    let D = g.F.LogFile in
    let old = c.args.files.now in
    let mid = c.settle.new.files in
    let new = c.cut_log.new.files in
    let u = D.unsynced old.first in
    let v = D.unsynced old.second in
    let found = c.in_ok-found.found in
    let is = c.in_ok-found.ensures.found.found told in
    let same = c.settle.ensures.seen told in
    let to = found.frames.gate + 1 in
    let here = g.met.F.LogFile.reads_an_image in
    joined_pairs D.past D.unsynced old mid new (ReadAsBefore u v)
    (weaker_pairs D.past D.unsynced old mid (AreImages u v) (ReadAsBefore u v) (images_read u v) (c.settle.ensures.during told))
    (weaker_pairs D.past D.unsynced mid new (MayBeCut found.side to (D.seen mid.first) (D.seen mid.second)) (ReadAsBefore u v)
    (λ one two may. cut_reads found.side (said_by found.preamble) found.frames found.end u v (D.seen old.first) (D.seen old.second) (here old.first told) (here old.second told) is.is_log is.in_file one two
    (may_be_cut found.side to (D.seen old.first) (D.seen old.second) (D.seen mid.first) (D.seen mid.second) one two same.first same.second may))
    (c.cut_log.ensures.during told))

pub returns-clause-during : goal.returns-clause-during
returns-clause-during g c told =
    let D = g.F.LogFile in
    let old = c.args.files.now in
    let mid = c.settle.new.files in
    let new = c.cut_log.new.files in
    let u = D.unsynced old.first in
    let v = D.unsynced old.second in
    let found = c.in_ok-found.found in
    let is = c.in_ok-found.ensures.found.found told in
    let same = c.settle.ensures.seen told in
    let to = found.frames.gate + 1 in
    let here = g.met.F.LogFile.reads_an_image in
    joined_pairs D.past D.unsynced old mid new (ReadAsBefore u v)
    (weaker_pairs D.past D.unsynced old mid (AreImages u v) (ReadAsBefore u v) (images_read u v) (c.settle.ensures.during told))
    (weaker_pairs D.past D.unsynced mid new (MayBeCut found.side to (D.seen mid.first) (D.seen mid.second)) (ReadAsBefore u v)
    (λ one two may. cut_reads found.side (said_by found.preamble) found.frames found.end u v (D.seen old.first) (D.seen old.second) (here old.first told) (here old.second told) is.is_log is.in_file one two
    (may_be_cut found.side to (D.seen old.first) (D.seen old.second) (D.seen mid.first) (D.seen mid.second) one two same.first same.second may))
    (c.cut_log.ensures.during told))

pub returns-clause-prepared : goal.returns-clause-prepared
returns-clause-prepared g c =
    let D = g.F.LogFile in
    let old = c.args.files.now in
    let mid = c.settle.new.files in
    let new = c.cut_log.new.files in
    let found = c.in_ok-found.found in
    let side = found.side in
    let s = said_by found.preamble in
    let same = c.settle.ensures.seen in
    let done = c.in_ok-cut_log.ensures.cut in
    let is = c.in_ok-found.ensures.found.found in
    let log_same = λ (told : D.tells). ap₂ (on_side side) (same told).first (same told).second in
    let other_same = λ (told : D.tells). done.other told ∙ ap₂ (off_side side) (same told).first (same told).second in
    record {
      found = is;
      usable = c.in_ok-found.ensures.found.usable;
      room = c.in_ok-room.ensures;
      rest = λ told.
          let clean_now = on_clean side (D.unsynced new.first) (D.unsynced new.second) (D.seen new.first) (D.seen new.second) (done.rest.first told) (done.rest.second told) in
          rest_here (seen_on D side old) s found.frames found.end (is told).in_file side (seen_on D side new) (seen_off D side new)
          (on_side side (D.unsynced new.first) (D.unsynced new.second)) (off_side side (D.unsynced new.first) (D.unsynced new.second))
          (ap (λ (l : List ℕ). choice_of side s (preamble_of l)) (other_same told) ∙ (is told).is_log)
          (done.cut told ∙ ap (take (found.frames.gate + 1)) (log_same told))
          clean_now.0 clean_now.1;
      cut = λ told. done.cut told ∙ ap (take (found.frames.gate + 1)) (log_same told) ∙ sym (upto_is (seen_on D side old) s found.frames found.end (is told).in_file);
      other = other_same;
      calm = calm_behind D old mid new c.in_ok-found.ensures.cause.calm c.in_ok-cut_log.ensures.cause.calm;
    }

pub returns-in_err-found-clause-left : goal.returns-in_err-found-clause-left
returns-in_err-found-clause-left g c told =
    let held = held_still g.F.LogFile c.args.files.now c.settle.new.files (c.settle.ensures.seen told) in
    search (rules, held)

pub returns-in_err-room-clause-left : goal.returns-in_err-room-clause-left
returns-in_err-room-clause-left g c told =
    let held = held_still g.F.LogFile c.args.files.now c.settle.new.files (c.settle.ensures.seen told) in
    search (rules, held)

pub returns-in_err-cut_log-clause-left : goal.returns-in_err-cut_log-clause-left
returns-in_err-cut_log-clause-left g c told =
    let D = g.F.LogFile in
    let old = c.args.files.now in
    let mid = c.settle.new.files in
    let new = c.cut_log.new.files in
    let found = c.in_ok-found.found in
    let is = c.in_ok-found.ensures.found.found told in
    let same = c.settle.ensures.seen told in
    let to = found.frames.gate + 1 in
    let here = g.met.F.LogFile.reads_an_image in
    let may = last_pair D.past D.unsynced mid new (MayBeCut found.side to (D.seen mid.first) (D.seen mid.second)) (c.cut_log.ensures.during told)
    (D.seen new.first) (here new.first told) (D.seen new.second) (here new.second told) in
    let held = held_cut D old new (are_cut D old new found.side (said_by found.preamble) found.frames found.end is.is_log is.in_file
    (may_be_cut found.side to (D.seen old.first) (D.seen old.second) (D.seen mid.first) (D.seen mid.second) (D.seen new.first) (D.seen new.second) same.first same.second may)) in
    search (rules, held)
