use Rattle.std.proofs.Common.{List, refl, subst}
use Rattle.ann_types.specs.Index.{Index}
use Rattle.ann_types.specs.declared.new_point.NewPoint.{NewPoint}
use Rattle.ann_mphases.specs.Grown.{IsGrown}
use Rattle.ann_mphases.specs.Index.{index_of}
use Rattle.ann_mphases.proofs.Plans.{base_for}
use Rattle.std.specs.Arc.{arc_value}
use Rattle.std.specs.Option.{option_map}
use Rattle.ann_mphases.proofs.plan.finish.Goals as goal

pub returns-clause-planned : goal.returns-clause-planned
returns-clause-planned g c = λ dead is.
    let index : Index = index_of c.args.params.now c.args.book.now in
    let grown : IsGrown index c.args.left.lists c.args.left.decoded c.args.points.items c.in_ok-grown.grown =
    subst (λ (points : List NewPoint). IsGrown index c.args.left.lists c.args.left.decoded points c.in_ok-grown.grown) c.deref.ensures.value c.in_ok-grown.ensures.grown in
    record {
      lists = is.before;
      base = grown.base;
      outside = grown.outside;
      read = is.read;
      based = base_for g.S.Sealed.tells g.S.Sealed.bytes index dead (option_map arc_value c.args.old.now) is.before is.read c.args.points.items grown.outside grown.base c.args.left.lists c.args.left.decoded is.lists is.vectors grown.chosen;
      segment = c.in_ok-segment.ensures;
      survivors = is.survivors;
      points_are = refl;
      params = refl;
      own = grown.on_base.own;
      links = grown.on_base.linked;
      added = grown.on_base.added;
      vectors = grown.on_base.vectors;
      central = c.in_ok-entry.ensures.central;
      entered = c.in_ok-entry.ensures.inside;
    }
