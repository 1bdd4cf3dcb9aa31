use Rattle.std.proofs.Common.{◌≤◌, length, arith}
use Rattle.ann_frozen.proofs.Same.{few_rows}
use Rattle.ann_frozen.proofs.frozen.FrozenGraph.count.Goals as goal

pub overflow_cast-result : goal.overflow_cast-result
overflow_cast-result c =
    let few : length c.self.inside.rows.nodes ≤ 4294967295 = few_rows c.self.inside.params c.self.inside.rows.nodes c.self.invariant in
    let is = c.len.ensures in omega arith
