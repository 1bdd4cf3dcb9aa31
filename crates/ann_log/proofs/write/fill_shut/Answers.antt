use Rattle.std.proofs.Common.{◌≡◌, ◌-◌, ◌≤◌, ◌++◌, ◌∷◌, [], length, take, ◌∙◌, ap, subst, sym, arith, length-append}
use Rattle.ann_disk.specs.Image.{clean}
use Rattle.ann_log.specs.Anew.{IsUnmade}
use Rattle.ann_disk.proofs.Moments.{started, after_sync}
use Rattle.ann_log.proofs.Writing.{first_shut, shut_unmade, head_last, head_put}
use Rattle.ann_log.proofs.write.fill_shut.Goals as goal

pub put_tail-requires : goal.put_tail-requires
put_tail-requires g c =
    let D = g.F.LogFile in
    let head = c.args.head.now in
    let long = ap length c.requires.fill.head.1 in
    let fields = c.requires.fill.head.0 in
    let two : 2 ≤ length head = omega (arith, long, length-append (0 ∷ fields) (0 ∷ [])) in
    record {
      last = λ told.
          let is = head_put head (D.seen c.args.file.now) (D.seen c.write_at.new.self) c.requires.fill.head (c.requires.cleared.cleared told) (c.in_ok-write_at.ensures.written told) in
          subst (λ l. l ≡ take (length head - 1) l ++ 0 ∷ []) (sym is) (head_last head c.requires.fill.head);
      behind = (omega (arith, two), omega (arith, two));
      shut = λ told. first_shut _ (D.unsynced c.args.file.now) (D.unsynced c.write_at.new.self) (D.seen c.args.file.now) (c.write_at.ensures.images told) (c.requires.cleared.rest told) (c.requires.cleared.cleared told);
      each = c.requires.fill.each;
      room = c.requires.fill.room;
    }

pub returns-in_err-write_at-clause-during : goal.returns-in_err-write_at-clause-during
returns-in_err-write_at-clause-during g c told =
    let D = g.F.LogFile in
    let old = c.args.file.now in
    started D.past D.unsynced old c.write_at.new.self IsUnmade (c.write_at.ensures.past told)
    (shut_unmade (D.unsynced c.write_at.new.self) (first_shut _ (D.unsynced old) (D.unsynced c.write_at.new.self) (D.seen old) (c.write_at.ensures.images told) (c.requires.cleared.rest told) (c.requires.cleared.cleared told)))

pub returns-in_err-gate-clause-during : goal.returns-in_err-gate-clause-during
returns-in_err-gate-clause-during g c told =
    let D = g.F.LogFile in
    let mid = c.put_tail.new.file in
    started D.past D.unsynced c.args.file.now mid IsUnmade (c.put_tail.ensures.still.past told ∙ c.write_at.ensures.past told)
    (shut_unmade (D.unsynced mid) (c.put_tail.ensures.still.shut told))

pub returns-in_err-sync-clause-during : goal.returns-in_err-sync-clause-during
returns-in_err-sync-clause-during g c told =
    let D = g.F.LogFile in
    let mid = c.put_tail.new.file in
    let sofar = started D.past D.unsynced c.args.file.now mid IsUnmade (c.put_tail.ensures.still.past told ∙ c.write_at.ensures.past told)
    (shut_unmade (D.unsynced mid) (c.put_tail.ensures.still.shut told)) in
    after_sync D.past D.unsynced D.seen c.args.file.now mid c.sync.new.self IsUnmade (D.seen mid) c.sync.result sofar
    (c.sync.ensures.images told) (c.sync.ensures.past told) (c.sync.ensures.failed told) (sofar.now (D.seen mid) (g.met.F.LogFile.reads_an_image mid told))

pub returns-clause-during : goal.returns-clause-during
returns-clause-during g c told =
    let D = g.F.LogFile in
    let mid = c.put_tail.new.file in
    let sofar = started D.past D.unsynced c.args.file.now mid IsUnmade (c.put_tail.ensures.still.past told ∙ c.write_at.ensures.past told)
    (shut_unmade (D.unsynced mid) (c.put_tail.ensures.still.shut told)) in
    after_sync D.past D.unsynced D.seen c.args.file.now mid c.sync.new.self IsUnmade (D.seen mid) c.sync.result sofar
    (c.sync.ensures.images told) (c.sync.ensures.past told) (c.sync.ensures.failed told) (sofar.now (D.seen mid) (g.met.F.LogFile.reads_an_image mid told))

pub returns-clause-filled : goal.returns-clause-filled
returns-clause-filled g c =
    let D = g.F.LogFile in
    let head = c.args.head.now in
    let held = c.in_ok-gate.ensures.held in
    record {
      held = record {
        frames = held.frames;
        are = held.are;
        place = held.place;
        end = held.end;
        file = λ told.
            c.sync.ensures.seen told
            ∙ held.file told
            ∙ ap (λ l. take (length head - 1) l ++ held.frames ++ 0 ∷ []) (head_put head (D.seen c.args.file.now) (D.seen c.write_at.new.self) c.requires.fill.head (c.requires.cleared.cleared told) (c.in_ok-write_at.ensures.written told));
      };
      rest = λ told. c.in_ok-sync.ensures.images told ∙ ap clean (sym (c.sync.ensures.seen told));
    }
