use Rattle.std.proofs.Common.{ap, arith, length}
use Rattle.ann_table.specs.Node.{rows_of, first_row}
use Rattle.ann_table.proofs.Sound.{few_nodes}
use Rattle.ann_insert.proofs.Keeping.{visited_few}
use Rattle.ann_insert.proofs.insert.prepare.Goals as goal

pub overflow_cast-most : goal.overflow_cast-most
overflow_cast-most c =
    let rows = few_nodes c.args.table.now.params 4294967295 c.args.table.now.nodes c.known.ensures c.known.ensures.small in
    let few = visited_few (rows_of c.args.table.now.params c.args.table.now.nodes) c.args.vector.now c.clear-2.new.self.limit (first_row c.args.table.now.nodes) in
    let long = ap length c.in_ok-walk_visited.ensures.visited in
    let is = c.len.ensures in
    let most = c.max-most.ensures in
    omega arith
