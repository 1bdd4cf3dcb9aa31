use Rattle.std.proofs.Common.{◌≡◌, ◌<◌, ◌-◌, length, sym, subst, ◌∙◌, arith}
use Rattle.std.proofs.lemmas.List.{length-set}
use Rattle.ann_greedy.specs.Shows.{AreFar, AreRows}
use Rattle.ann_pool.proofs.Each.{all_marked}
use Rattle.ann_greedy.proofs.Pooled.{found_item}
use Rattle.ann_beam.proofs.Choosing.{choosing_more, chosen_all, chosen_full, front_more, all_more}
use Rattle.ann_beam.proofs.candidates.choose.Goals as goal

pub loop-count-preserved : goal.loop-count-preserved
loop-count-preserved c =
    let w = c.loop-count.invariant in
    let room : c.loop-count.count < length c.loop-count.rows = omega (arith, w.size, c.requires.room, c.loop-count-test.true) in
    let more = front_more c.loop-count.count c.in-Some.item.number c.loop-count.rows room in
    record {
      size = length-set c.loop-count.rows c.loop-count.count c.in-Some.item.number ∙ w.size;
      few = omega (arith, c.loop-count-test.true);
      limit = c.next_unvisited.ensures.limit ∙ w.limit;
      far = λ far a. subst (AreFar far) (sym c.next_unvisited.ensures.marked) (all_marked (λ i. i.distance ≡ far i.number) (λ y h. h) _ (w.far far a));
      among = λ count a. subst (AreRows count) (sym c.next_unvisited.ensures.marked) (all_marked (λ i. i.number < count) (λ y h. h) _ (w.among count a));
      inside = λ count a. all_more (λ row. row < count) _ _ c.in-Some.item.number more (w.inside count a) (found_item (λ i. i.number < count) c.in-Some.item _ (w.among count a) c.in-Some.ensures.found);
      chosen = λ far visited order s.
          choosing_more c.args.w (c.args.w - c.loop-count.count) _ _ _ c.in-Some.item c.args.guided.now c.loop-count.guided c.next_unvisited.new.self far visited order
          (w.chosen far visited order s) w.limit (omega (arith, c.loop-count-test.true)) more c.in-Some.ensures.found c.next_unvisited.ensures.limit c.next_unvisited.ensures.marked c.next_unvisited.ensures.met;
    }

pub returns-in_default-clause-chosen : goal.returns-in_default-clause-chosen
returns-in_default-clause-chosen c =
    let w = c.loop-count.invariant in
    record {
      limit = c.next_unvisited.ensures.limit ∙ w.limit;
      far = λ far a. subst (AreFar far) (sym c.next_unvisited.ensures.marked) (all_marked (λ i. i.distance ≡ far i.number) (λ y h. h) _ (w.far far a));
      among = λ count a. subst (AreRows count) (sym c.next_unvisited.ensures.marked) (all_marked (λ i. i.number < count) (λ y h. h) _ (w.among count a));
      inside = w.inside;
      chosen = λ far visited order s.
          chosen_all c.args.w (c.args.w - c.loop-count.count) _ c.args.guided.now c.loop-count.guided c.next_unvisited.new.self far visited order
          (w.chosen far visited order s) w.limit c.in_default.ensures.found c.next_unvisited.ensures.limit c.next_unvisited.ensures.marked c.next_unvisited.ensures.met;
    }

pub returns-after-loop-count-clause-chosen : goal.returns-after-loop-count-clause-chosen
returns-after-loop-count-clause-chosen c =
    let w = c.loop-count.invariant in
    record {
      limit = w.limit;
      far = w.far;
      among = w.among;
      inside = w.inside;
      chosen = λ far visited order s.
          chosen_full c.args.w (c.args.w - c.loop-count.count) _ c.args.guided.now c.loop-count.guided far visited order (omega (arith, c.loop-count-test.false)) (w.chosen far visited order s);
    }
