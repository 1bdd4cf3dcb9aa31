use Rattle.std.proofs.Common.{◌+◌, ◌∷◌, [], ◌∙◌, ap, subst, length}
use Rattle.ann_disk.specs.File.{Torn, overwritten}
use Rattle.ann_disk.proofs.Moments.{weaker, joined}
use Rattle.ann_log.specs.Appended.{MayHold}
use Rattle.ann_log.proofs.Gates.{behind, torn_behind, opened, torn_gate}
use Rattle.ann_log.proofs.append.store_frame.Goals as goal

pub returns-in_err-write_synced-clause-during : goal.returns-in_err-write_synced-clause-during
returns-in_err-write_synced-clause-during g c told =
    let D = g.F.LogFile in
    let old = D.seen c.args.file.now in
    let n = length c.args.frame.now in
    weaker D.past D.unsynced c.args.file.now c.write_synced.new.file (Torn (c.args.gate + 1) n old) (MayHold c.args.gate old c.args.frame.now)
    (torn_behind c.args.gate old c.args.frame.now (c.requires.place told) n) (c.write_synced.ensures.during told)

pub returns-in_err-write_synced-2-clause-during : goal.returns-in_err-write_synced-2-clause-during
returns-in_err-write_synced-2-clause-during g c told =
    let D = g.F.LogFile in
    let old = D.seen c.args.file.now in
    let n = length c.args.frame.now in
    let P = MayHold c.args.gate old c.args.frame.now in
    let first = weaker D.past D.unsynced c.args.file.now c.write_synced.new.file (Torn (c.args.gate + 1) n old) P
    (torn_behind c.args.gate old c.args.frame.now (c.requires.place told) n) (c.write_synced.ensures.during told) in
    let holds = c.in_ok-write_synced.ensures.written told ∙ behind c.args.gate old c.args.frame.now (c.requires.place told) in
    let second = weaker D.past D.unsynced c.write_synced.new.file c.write_synced-2.new.file (Torn c.args.gate 1 (D.seen c.write_synced.new.file)) P
    (λ image torn. torn_gate c.args.gate old c.args.frame.now (c.requires.place told) image (subst (λ f. Torn c.args.gate 1 f image) holds torn))
    (c.write_synced-2.ensures.during told) in
    joined D.past D.unsynced c.args.file.now c.write_synced.new.file c.write_synced-2.new.file P first second

pub returns-clause-stored : goal.returns-clause-stored
returns-clause-stored g c = record {
  stored = λ told.
      let old = g.F.LogFile.seen c.args.file.now in
      let holds = c.in_ok-write_synced.ensures.written told ∙ behind c.args.gate old c.args.frame.now (c.requires.place told) in
      c.in_ok-write_synced-2.ensures.written told
      ∙ ap (λ f. overwritten f c.args.gate (1 ∷ [])) holds
      ∙ opened c.args.gate old c.args.frame.now (c.requires.place told);
  rest = c.in_ok-write_synced-2.ensures.rest;
  end = c.in_ok-write_synced.ensures.end;
}

pub returns-clause-during : goal.returns-clause-during
returns-clause-during g c told =
    let D = g.F.LogFile in
    let old = D.seen c.args.file.now in
    let n = length c.args.frame.now in
    let P = MayHold c.args.gate old c.args.frame.now in
    let first = weaker D.past D.unsynced c.args.file.now c.write_synced.new.file (Torn (c.args.gate + 1) n old) P
    (torn_behind c.args.gate old c.args.frame.now (c.requires.place told) n) (c.write_synced.ensures.during told) in
    let holds = c.in_ok-write_synced.ensures.written told ∙ behind c.args.gate old c.args.frame.now (c.requires.place told) in
    let second = weaker D.past D.unsynced c.write_synced.new.file c.write_synced-2.new.file (Torn c.args.gate 1 (D.seen c.write_synced.new.file)) P
    (λ image torn. torn_gate c.args.gate old c.args.frame.now (c.requires.place told) image (subst (λ f. Torn c.args.gate 1 f image) holds torn))
    (c.write_synced-2.ensures.during told) in
    joined D.past D.unsynced c.args.file.now c.write_synced.new.file c.write_synced-2.new.file P first second
