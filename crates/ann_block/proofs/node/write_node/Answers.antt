use Rattle.std.proofs.Common.{ℕ, ◌+◌, List, length, ap, ◌∙◌, arith}
use Rattle.std.specs.List.{flat_map}
use Rattle.ann_bytes.specs.LittleEndian.{bytes_of, with_field}
use Rattle.ann_block.specs.Block.{zeros}
use Rattle.ann_block.specs.Node.{node_of, judge_node}
use Rattle.ann_block.proofs.Nodes.{node_written, node_accepted, node_read_back}
use Rattle.ann_block.proofs.node.write_node.Goals as goal

pub returns-clause-written : goal.returns-clause-written
returns-clause-written c =
    let vector : List ℕ = c.args.vector.now in
    let neighbours : List ℕ = c.args.neighbours.now in
    let b1 = c.put_u32.ensures.written ∙ ap (λ b. with_field b 0 (bytes_of 4 c.args.pid)) (c.clear.ensures ∙ ap zeros c.requires.block) in
    let b2 = c.put_u16.ensures.written ∙ ap (λ b. with_field b 4 (bytes_of 2 (length neighbours))) b1 in
    let b3 = c.put_u16-2.ensures.written ∙ ap (λ b. with_field b 6 (bytes_of 2 0)) b2 in
    let b4 = c.put_u64.ensures.written ∙ ap (λ b. with_field b 8 (bytes_of 8 c.args.tag)) b3 in
    let b5 = c.put_bytes.ensures ∙ ap (λ b. with_field b 16 vector) b4 in
    let b6 = c.put_neighbours.ensures.written ∙ ap (λ b. with_field b (16 + length vector) (flat_map (bytes_of 4) neighbours)) b5 in
    b6 ∙ node_written c.args.pid c.args.tag vector neighbours

pub returns-clause-accepted : goal.returns-clause-accepted
returns-clause-accepted c = λ row count params node.
    ap (λ b. judge_node b c.args.pid row count params) (returns-clause-written c)
    ∙ node_accepted c.args.pid c.args.tag c.args.vector.now c.args.neighbours.now (omega arith) (omega arith) c.requires.vector c.requires.degree (λ i. omega (arith, c.type_inv.neighbours i)) row count params node

pub returns-clause-read_back : goal.returns-clause-read_back
returns-clause-read_back c =
    ap (node_of (length c.args.vector.now)) (returns-clause-written c)
    ∙ node_read_back c.args.pid c.args.tag c.args.vector.now c.args.neighbours.now (omega arith) (omega arith) c.requires.vector c.requires.degree (λ i. omega (arith, c.type_inv.neighbours i))
