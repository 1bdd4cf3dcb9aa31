use Rattle.std.proofs.Common.{◌+◌, ◌*◌, [], get_or, take, sym, ap, ◌∙◌, arith}
use Rattle.std.proofs.lemmas.List.{take_all, get_or_read}
use Rattle.ann_pq.specs.Tables.{looked_up}
use Rattle.ann_pq.proofs.Sums.{looked_up_more, entry_is, count_is, guided_is}
use Rattle.ann_pq.proofs.tables.Tables.distance.Goals as goal

pub overflow_mul-part : goal.overflow_mul-part
overflow_mul-part c =
    let count = count_is c.self.inside.parts c.self.inside.sums.items c.args.self.now c.self.view_is in
    let few = c.self.invariant.0 in
    record { fits = omega arith }

pub overflow_add-part : goal.overflow_add-part
overflow_add-part c =
    let count = count_is c.self.inside.parts c.self.inside.sums.items c.args.self.now c.self.view_is in
    let few = c.self.invariant.0 in
    let byte = (c.type_inv.code c.loop-part.part).fits in
    let number = c.from.ensures in
    record { fits = omega arith }

pub index-requires : goal.index-requires
index-requires c =
    let count = count_is c.self.inside.parts c.self.inside.sums.items c.args.self.now c.self.view_is in
    let few = c.self.invariant.0 in
    let byte = (c.type_inv.code c.loop-part.part).fits in
    let number = c.from.ensures in
    let size = c.self.invariant.1 in
    let same = c.self.inside.sums.ok.0 in
    omega arith

pub overflow_add-sum : goal.overflow_add-sum
overflow_add-sum c =
    let count = count_is c.self.inside.parts c.self.inside.sums.items c.args.self.now c.self.view_is in
    let few = c.self.invariant.0 in
    let byte = (c.type_inv.code c.loop-part.part).fits in
    let number = c.from.ensures in
    let size = c.self.invariant.1 in
    let is = get_or_read c.self.inside.sums.items (256 * c.loop-part.part + c.from.result) c.index.result.now (omega arith) c.index.ensures 0 in
    let small = c.self.invariant.2 (256 * c.loop-part.part + c.from.result) in
    record { fits = omega arith }

pub loop-part-preserved : goal.loop-part-preserved
loop-part-preserved c =
    let count = count_is c.self.inside.parts c.self.inside.sums.items c.args.self.now c.self.view_is in
    let few = c.self.invariant.0 in
    let byte = (c.type_inv.code c.loop-part.part).fits in
    let number = c.from.ensures in
    let size = c.self.invariant.1 in
    let is = get_or_read c.self.inside.sums.items (256 * c.loop-part.part + c.from.result) c.index.result.now (omega arith) c.index.ensures 0 in
    let small = c.self.invariant.2 (256 * c.loop-part.part + c.from.result) in
    let entry = entry_is c.self.inside.parts c.self.inside.sums.items c.args.self.now c.self.view_is c.loop-part.part c.from.result (omega arith) (omega arith) in
    record {
      sum = ap (λ n. n + c.index.result.now) c.loop-part.invariant.sum
          ∙ ap (λ n. looked_up (take c.loop-part.part c.args.self.now) (take c.loop-part.part c.args.code.now) + n) (is ∙ sym entry ∙ ap (λ n. get_or (get_or c.args.self.now c.loop-part.part []) n 0) number)
          ∙ sym (looked_up_more c.args.self.now c.args.code.now c.loop-part.part (omega arith) c.loop-part-test.true);
      small = omega arith;
    }

pub returns-clause-sum : goal.returns-clause-sum
returns-clause-sum c =
    let count = count_is c.self.inside.parts c.self.inside.sums.items c.args.self.now c.self.view_is in
    let same = c.requires in
    c.loop-part.invariant.sum
    ∙ ap (λ t. looked_up t (take c.loop-part.part c.args.code.now)) (take_all c.loop-part.part c.args.self.now (omega arith))
    ∙ ap (λ t. looked_up c.args.self.now t) (take_all c.loop-part.part c.args.code.now (omega arith))

pub returns-clause-guided : goal.returns-clause-guided
returns-clause-guided c = λ book query are.
    returns-clause-sum c ∙ guided_is book query c.args.code.now c.args.self.now are c.requires (λ k l. (c.type_inv.code k).fits)
