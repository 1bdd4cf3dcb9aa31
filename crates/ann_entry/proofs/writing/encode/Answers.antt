use Rattle.ann_types.specs.declared.entry.Entry.TheVariants.{Insert, Delete, Begin, End, Replace}
use Rattle.ann_entry.specs.EntryBytes.{entry_bytes}
use Rattle.ann_entry.proofs.Placed.{written_stands}
use Rattle.ann_entry.proofs.writing.encode.Goals as goal

pub returns-in-Insert-clause-stands : goal.returns-in-Insert-clause-stands
unfolding entry_bytes
returns-in-Insert-clause-stands c d components =
    written_stands d c.args.out.now c.put_point.new.out c.args.at c.args.entry.now (Insert c.in-Insert.by c.in-Insert.tag c.in-Insert.vector) c.put_point.ensures.written c.in-Insert.is c.requires c.put_point.ensures.ranges components

pub returns-in-Delete-clause-stands : goal.returns-in-Delete-clause-stands
unfolding entry_bytes
returns-in-Delete-clause-stands c d components =
    written_stands d c.args.out.now c.put_named.new.out c.args.at c.args.entry.now (Delete c.in-Delete.by c.in-Delete.tag) c.put_named.ensures.written c.in-Delete.is c.requires c.put_named.ensures.ranges components

pub returns-in-Begin-clause-stands : goal.returns-in-Begin-clause-stands
unfolding entry_bytes
returns-in-Begin-clause-stands c d components =
    written_stands d c.args.out.now c.put_front.new.out c.args.at c.args.entry.now (Begin c.in-Begin.by) c.put_front.ensures.written c.in-Begin.is c.requires c.put_front.ensures.ranges components

pub returns-in-End-clause-stands : goal.returns-in-End-clause-stands
unfolding entry_bytes
returns-in-End-clause-stands c d components =
    written_stands d c.args.out.now c.put_named-in-End.new.out c.args.at c.args.entry.now (End c.in-End.by c.in-End.segment) c.put_named-in-End.ensures.written c.in-End.is c.requires c.put_named-in-End.ensures.ranges components

pub returns-in-Replace-clause-stands : goal.returns-in-Replace-clause-stands
unfolding entry_bytes
returns-in-Replace-clause-stands c d components =
    written_stands d c.args.out.now c.put_point-in-Replace.new.out c.args.at c.args.entry.now (Replace c.in-Replace.by c.in-Replace.tag c.in-Replace.vector) c.put_point-in-Replace.ensures.written c.in-Replace.is c.requires c.put_point-in-Replace.ensures.ranges components
