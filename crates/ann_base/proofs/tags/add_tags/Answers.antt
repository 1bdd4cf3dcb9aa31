use Rattle.std.proofs.Common.{◌≡◌, ◌+◌, ◌++◌, ℕ, List, ◌∷◌, [], false, sym, ap, ap₂, subst, ◌∙◌, arith, take, length, get_or}
use Rattle.std.specs.Prelude.{is_some}
use Rattle.std.specs.FinMap.{get, insert}
use Rattle.std.proofs.lemmas.List.{take_more, append_assoc, length-append, length-take-le}
use Rattle.ann_types.specs.Order.{has}
use Rattle.ann_segment.specs.Segment.{node_block}
use Rattle.ann_base.specs.Nodes.{pid_of}
use Rattle.ann_base.specs.Tagged.{HasTags}
use Rattle.ann_base.proofs.Tagging.{found_is, tag_more}
use Rattle.ann_base.proofs.tags.add_tags.Goals as goal

pub overflow_add-first : goal.overflow_add-first
overflow_add-first g c = omega (arith, c.requires.rows, c.requires.many, c.requires.few, c.count-i-end.ensures, c.loop-i-test.true)

pub overflow_add-first-in-loop-i : goal.overflow_add-first-in-loop-i
overflow_add-first-in-loop-i g c = omega (arith, c.requires.rows, c.requires.many, c.requires.few, c.count-i-end.ensures, c.loop-i-test.true)

pub returns-then-is_some-clause-refused : goal.returns-then-is_some-clause-refused
returns-then-is_some-clause-refused g c before size w =
    let so_far = c.loop-i.invariant.added before size w in
    let i = c.loop-i.i in
    let tag = get_or c.args.piece.now.tags i 0 in
    record {
      at = i;
      within = omega (arith, c.requires.many, c.count-i-end.ensures, c.loop-i-test.true);
      place = c.node_block.ensures.value ∙ ap (λ (k : ℕ). node_block c.args.segment.now (k + i)) (sym size);
      repeated =
          sym (found_is c.args.segment.now (before ++ take i c.args.piece.now.tags) c.loop-i.tags.pids so_far tag)
          ∙ ap (λ (t : ℕ). is_some (get c.loop-i.tags.pids t)) (sym c.tag-tag.ensures)
          ∙ ap is_some (sym c.get.ensures)
          ∙ sym c.is_some.ensures
          ∙ c.if-is_some.true;
      first = so_far.differ;
    }

pub loop-i-preserved : goal.loop-i-preserved
loop-i-preserved g c =
    let i = c.loop-i.i in
    let tag = get_or c.args.piece.now.tags i 0 in
    let more = c.args.piece.now.tags in
    record {
      added = λ before size w.
          let so_far = c.loop-i.invariant.added before size w in
          let here : List ℕ = before ++ take i more in
          let long : length here ≡ c.args.first + i = (let all = length-append before (take i more) in let some = length-take-le i more (omega (arith, c.requires.many, c.count-i-end.ensures, c.loop-i-test.true)) in omega (arith, all, some, size)) in
          let new : has here tag ≡ false = sym (found_is c.args.segment.now here c.loop-i.tags.pids so_far tag)
          ∙ ap (λ (t : ℕ). is_some (get c.loop-i.tags.pids t)) (sym c.tag-tag.ensures)
          ∙ ap is_some (sym c.get.ensures)
          ∙ sym c.is_some.ensures
          ∙ c.if-is_some.false in
          subst (λ (t : List ℕ). HasTags c.args.segment.now t c.insert.new.self.pids)
          (sym (ap (λ t. before ++ t) (take_more more i 0 (omega (arith, c.requires.many, c.count-i-end.ensures, c.loop-i-test.true))) ∙ sym (append_assoc before (take i more) (tag ∷ []))))
          (subst (HasTags c.args.segment.now (here ++ tag ∷ []))
          (sym (c.insert.ensures.pids ∙ ap₂ (λ (t p : ℕ). insert c.loop-i.tags.pids t p) c.tag-tag.ensures (c.pid.ensures ∙ ap (pid_of c.args.segment.now) (sym long))))
          (tag_more c.args.segment.now here c.loop-i.tags.pids so_far tag (omega (arith, long, c.requires.rows, c.requires.many, c.count-i-end.ensures, c.loop-i-test.true)) new));
      room = omega (arith, c.loop-i.invariant.room, c.insert.ensures.spare);
    }
