use Rattle.std.proofs.Common.{arith, subst}
use Rattle.std.proofs.lemmas.List.{take_all}
use Rattle.ann_frame.specs.Frames.{AreEntries}
use Rattle.ann_frame.proofs.Filling.{room_more, place_more, bytes_more, each_more}
use Rattle.ann_frame.proofs.writing.put_entries.Goals as goal

pub encode-end-requires : goal.encode-end-requires
encode-end-requires c =
    let room = room_more c.args.entries.now c.loop-entry.entry-index c.entry-item.result (omega arith) c.entry-item.is in
    omega (arith, room, c.loop-entry.invariant.place, c.loop-entry.auto.out, c.requires)

pub loop-entry-preserved : goal.loop-entry-preserved
loop-entry-preserved c =
    let loop = c.loop-entry in
    let entries = c.args.entries.now in
    record {
      place = place_more entries loop.entry-index c.entry-item.result (omega arith) c.entry-item.is c.args.at loop.end c.encode-end.result loop.invariant.place c.encode-end.ensures.after;
      written = bytes_more entries loop.entry-index c.entry-item.result (omega arith) c.entry-item.is c.args.out.now loop.out c.encode-end.new.out c.args.at loop.end loop.invariant.place c.requires loop.invariant.written c.encode-end.ensures.written;
      each = λ d have. each_more entries loop.entry-index c.entry-item.result (omega arith) c.entry-item.is d have (loop.invariant.each d have) (λ components. (c.encode-end.ensures.stands d components).fits);
    }

pub returns-clause-each : goal.returns-clause-each
returns-clause-each c d have =
    subst (λ t. AreEntries d t) (take_all c.loop-entry.entry-index c.args.entries.now (omega arith)) (c.loop-entry.invariant.each d have)
