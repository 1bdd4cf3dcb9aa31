use Rattle.std.proofs.Common.{◌≡◌, ◌*◌, ◌++◌, ap, ◌∙◌, arith, refl, length, length-append}
use Rattle.ann_tags.specs.Tags.{TagsView}
use Rattle.ann_base.proofs.Based.{no_nodes}
use Rattle.ann_base.proofs.tags.load_tags.Goals as goal

pub loop-index-init : goal.loop-index-init
loop-index-init g c = record {
  nodes = record {
    nodes = _;
    many = omega arith;
    are = no_nodes g.S.Sealed.tells g.S.Sealed.bytes c.args.segment.now c.args.params.now c.new-tags.result.pids (ap (λ (t : TagsView). t.pids) c.new-tags.ensures);
  };
  calm = refl;
}

pub loop-index-preserved : goal.loop-index-preserved
loop-index-preserved g c =
    let w = c.loop-index.invariant.nodes in
    let many = w.many in
    let below = c.loop-index-test.true in
    let here : length w.nodes ≡ 256 * c.loop-index.index = omega (arith, many, below, c.count.ensures) in
    let got = c.in_ok-add_piece.ensures.added w.nodes here w.are in
    let more = got.many in
    let size = length-append w.nodes got.more in
    record {
      nodes = record { nodes = w.nodes ++ got.more; many = omega (arith, here, more, size, below, c.count.ensures); are = got.are };
      calm = c.in_ok-add_piece.ensures.cause.calm ∙ c.loop-index.invariant.calm;
    }
