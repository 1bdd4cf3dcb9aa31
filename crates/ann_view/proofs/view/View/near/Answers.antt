use Rattle.ann_view.specs.View.{shown}
use Rattle.ann_view.proofs.Ages.{memory_rising}
use Rattle.ann_view.proofs.view.View.near.Goals as goal

pub near-requires-clause-ages : goal.near-requires-clause-ages
near-requires-clause-ages g c = memory_rising (shown c.self.inside.temp c.self.inside.book c.self.inside.at c.self.inside.next c.self.inside.segment c.self.inside.closed) c.self.invariant
