use Rattle.std.proofs.Common.{arith, sym, subst}
use Rattle.ann_pool.specs.Places.{AreTagged}
use Rattle.ann_pool.proofs.PlacesLemmas.{tagged_empty}
use Rattle.ann_pool.proofs.met.Met.new.Goals as goal

pub invariant_of-result : goal.invariant_of-result
invariant_of-result c = (omega (arith, c.in_ok-vec.field-0.ok.0, c.in_ok-vec.ensures.len), omega arith, omega arith, subst (AreTagged 1) (sym (c.in_ok-vec.ensures.items_if_clones_equal (λ y e. e))) (tagged_empty 1 4096))
