use Rattle.std.proofs.Common.{◌<◌, ◌^◌, ◌++◌, ◌∷◌, [], take, ap, sym, subst, ◌∙◌, arith, append_assoc, All}
use Rattle.std.proofs.lemmas.List.Elements.{All-append}
use Rattle.ann_types.specs.declared.new_point.NewPoint.{NewPoint}
use Rattle.ann_table.specs.Node.{node_at, nothing}
use Rattle.ann_merge.specs.Gathered.{kept_rows}
use Rattle.ann_merge.proofs.Gathered.{kept_next, kept_wide}
use Rattle.ann_merge.proofs.gather.add_graph.Goals as goal

pub loop-row-preserved : goal.loop-row-preserved
loop-row-preserved c =
    let gone = c.args.gone.now in
    let nodes = c.args.graph.now.nodes in
    let row = c.loop-row.row in
    let so_far = kept_rows gone (take row nodes) in
    let one = kept_rows gone (node_at nodes row ∷ []) in
    let next = kept_next gone nodes row nothing (let size = c.count-row-end.ensures in let test = c.loop-row-test.true in omega arith) in
    record {
      points =
          c.in_ok-add_row.ensures.added
          ∙ ap (λ t. t ++ one) c.loop-row.invariant.points
          ∙ append_assoc c.args.points.now.items so_far one
          ∙ ap (λ t. c.args.points.now.items ++ t) (sym next);
      tags = subst (All (λ (x : NewPoint). x.tag < 2 ^ 64)) (sym next)
          (All-append (λ (x : NewPoint). x.tag < 2 ^ 64) so_far one c.loop-row.invariant.tags c.in_ok-add_row.ensures.tags);
    }

pub returns-in_err-add_row-clause-vectors : goal.returns-in_err-add_row-clause-vectors
returns-in_err-add_row-clause-vectors c = kept_wide c.args.gone.now c.args.graph.now.params c.args.graph.now.nodes c.known.ensures

pub returns-clause-vectors : goal.returns-clause-vectors
returns-clause-vectors c = kept_wide c.args.gone.now c.args.graph.now.params c.args.graph.now.nodes c.known.ensures
