use Rattle.std.proofs.Common.{rules, ◌≡◌, ◌+◌, ◌*◌, ◌-◌, ◌/◌, [], get_or, take, drop, map, ◌∙◌, arith}
use Rattle.std.proofs.lemmas.List.{places}
use borrow.Rule.Slice.PartMut.{put_mid}
use Rattle.ann_types.specs.Distance.{distance}
use Rattle.ann_pq.specs.Codebook.{part_of}
use Rattle.ann_pq.proofs.Places.{whole}
use Rattle.ann_pq.proofs.Pushes.{one_more, small_put, part_kept, part_put}
use Rattle.ann_pq.proofs.Sums.{tables_are}
use Rattle.ann_pq.proofs.tables.fill_each.Goals as goal

pub loop-part-preserved : goal.loop-part-preserved
loop-part-preserved c =
    let size = c.loop-part.invariant.size in
    let m = c.from-part-end.ensures in
    let bound = c.m.ensures in
    let few = c.known.ensures.sizes.parts.1 in
    record {
      size = search (rules, places);
      small = small_put 66585600 (256 * c.loop-part.part) (256 * c.loop-part.part + 256 - 256 * c.loop-part.part) c.loop-part.sums c.distances.new.out c.loop-part.invariant.small c.distances.ensures.small;
      each = one_more (λ p. take 256 (drop (256 * p) (put_mid (256 * c.loop-part.part) (256 * c.loop-part.part + 256 - 256 * c.loop-part.part) c.loop-part.sums c.distances.new.out)) ≡ map (distance (part_of (c.args.book.now.d / c.args.book.now.m) c.args.query.now p)) (get_or c.args.book.now.book p [])) c.loop-part.part
          (part_put (256 * c.loop-part.part) (256 * c.loop-part.part + 256 - 256 * c.loop-part.part) 256 c.loop-part.sums c.distances.new.out (omega arith) c.distances.ensures.length ∙ c.distances.ensures.value)
          (λ p l. part_kept (256 * c.loop-part.part) (256 * c.loop-part.part + 256 - 256 * c.loop-part.part) (256 * p) 256 c.loop-part.sums c.distances.new.out (omega arith) (omega arith) ∙ c.loop-part.invariant.each p l);
    }

pub returns-clause-tables : goal.returns-clause-tables
returns-clause-tables c =
    let m = c.from-part-end.ensures in
    let bound = c.m.ensures in
    tables_are c.args.book.now.m (c.args.book.now.d / c.args.book.now.m) c.args.book.now.book c.args.query.now c.loop-part.sums c.known.ensures.book
    (c.requires.query ∙ whole c.args.book.now.d c.args.book.now.m c.known.ensures.sizes.whole) (λ p l. c.loop-part.invariant.each p (omega arith))
