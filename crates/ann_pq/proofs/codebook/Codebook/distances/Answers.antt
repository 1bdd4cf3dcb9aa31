use Rattle.std.proofs.Common.{◌/◌, List, ℕ, subst, sym}
use Rattle.ann_pq.specs.Turned.{IsTurned}
use Rattle.ann_pq.proofs.Books.{part_distances}
use Rattle.ann_pq.proofs.codebook.Codebook.distances.Goals as goal

pub returns-clause-value : goal.returns-clause-value
returns-clause-value c =
    part_distances c.self.inside.d c.self.inside.m c.self.inside.bytes.items c.deref.result.now c.args.self.now c.self.view_is c.self.invariant.0 c.self.invariant.1
    (subst (λ (t : List ℕ). IsTurned (c.self.inside.d / c.self.inside.m) c.self.inside.d c.self.inside.bytes.items t) (sym c.deref.ensures.value) c.self.invariant.3)
    c.args.vector.now c.distances.new.out c.args.part c.width-width.result c.width-width.ensures.value c.requires.part c.requires.vector c.distances.ensures.length c.distances.ensures.value
