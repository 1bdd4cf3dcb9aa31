use Rattle.std.proofs.Common.{◌≡◌, sym, subst}
use Rattle.std.specs.List.{AllByRecursion}
use Rattle.std.specs.Int.{abs_diff}
use Rattle.ann_pool.specs.declared.item.Item.{Item}
use Rattle.ann_pool.proofs.Each.{all_marked}
use Rattle.ann_graph_tests.proofs.pool.visits.Goals as goal

pub returns : goal.returns
returns c =
    let IsFar : Item → Type 0 = λ item. item.distance ≡ abs_diff item.number 5 in
    subst (AllByRecursion IsFar) (sym c.next_unvisited-next.ensures.marked) (all_marked IsFar (λ y h. h) _ c.requires)
