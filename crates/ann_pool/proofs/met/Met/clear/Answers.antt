use Rattle.std.proofs.Common.{ap, ◌∙◌, ◌+◌, arith, vec_len}
use Rattle.ann_pool.specs.Places.{numbers_in}
use Rattle.ann_pool.proofs.PlacesLemmas.{numbers_none, numbers_fresh}
use Rattle.ann_pool.proofs.met.Met.clear.Goals as goal

pub returns-then-self-lt-LAST_TAG : goal.returns-then-self-lt-LAST_TAG
returns-then-self-lt-LAST_TAG c = numbers_none c.self.inside.tag (c.self.inside.tag + 1) 0 c.self.inside.places.items (omega arith) c.self.invariant.3

pub returns-else-self-lt-LAST_TAG : goal.returns-else-self-lt-LAST_TAG
returns-else-self-lt-LAST_TAG c = ap (numbers_in 1) (c.fill.ensures.items (λ y e. e)) ∙ numbers_fresh 0 (vec_len c.self.inside.places)
