use Rattle.std.proofs.Common.{◌≡◌, ◌≤◌, ◌<◌, ◌+◌, ap, ◌∙◌, length, arith}
use Rattle.ann_table.specs.Node.{node_at}
use Rattle.ann_frozen.proofs.Same.{edges_more}
use Rattle.ann_frozen.proofs.frozen.edges.Goals as goal

pub loop-row-preserved : goal.loop-row-preserved
loop-row-preserved c =
    let test = c.loop-row-test.true in
    let count = c.count-row-end.ensures in
    let inside : c.loop-row.row < length c.args.table.now.nodes = omega arith in
    let few : length (node_at c.args.table.now.nodes c.loop-row.row).links ≤ c.args.table.now.params.r = (c.known.ensures.each c.loop-row.row inside).links.few in
    let limit = c.args.table.now.params.in_limits.neighbours.1 in
    let size : length c.neighbours.result.now ≡ length (node_at c.args.table.now.nodes c.loop-row.row).links = ap length c.neighbours.ensures.links in
    let before = c.loop-row.invariant.small in
    record {
      so_far = ap (λ n. c.loop-row.edges + n) size ∙ edges_more c.args.table.now.nodes c.loop-row.row c.loop-row.edges inside c.loop-row.invariant.so_far;
      small = omega arith;
    }
