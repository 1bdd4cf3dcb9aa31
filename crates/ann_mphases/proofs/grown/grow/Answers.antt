use Rattle.std.proofs.Common.{List, subst, drop}
use Rattle.std.proofs.lemmas.List.{take_rest}
use Rattle.std.proofs.lemmas.Result.{IfOk-weaker}
use Rattle.ann_types.specs.declared.new_point.NewPoint.{NewPoint}
use Rattle.ann_mphases.specs.Grown.{IsLinkedOn}
use Rattle.ann_mphases.specs.Index.{index_of}
use Rattle.ann_mphases.proofs.grown.grow.Goals as goal

pub returns-clause-grown : goal.returns-clause-grown
returns-clause-grown g c =
    IfOk-weaker c.link_outside.result _ _
    (λ grown on. record {
      base = c.in_ok-base.base;
      outside = drop c.in_ok-base.first c.args.points.now;
      chosen = c.in_ok-base.ensures.chosen;
      on_base = subst (λ (rest : List NewPoint). IsLinkedOn (index_of c.args.params.now c.args.book.now) c.in_ok-base.base rest grown) (take_rest c.args.points.now c.in_ok-base.first) on;
    })
    c.link_outside.ensures.linked
