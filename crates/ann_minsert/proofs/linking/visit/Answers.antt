use Rattle.std.proofs.Common.{ap, arith, length}
use Rattle.ann_insert.proofs.Keeping.{visited_few}
use Rattle.ann_minsert.specs.Base.{rows_of}
use Rattle.ann_minsert.proofs.linking.visit.Goals as goal

pub returns-clause-few : goal.returns-clause-few
returns-clause-few c =
    let few = visited_few (rows_of c.args.base.now) c.args.query.now c.clear-2.new.self.limit c.args.base.now.entry in
    let long = ap length c.in_ok-walk_visited.ensures.visited in
    omega arith
