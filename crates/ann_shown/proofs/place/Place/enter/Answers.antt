use Rattle.ann_line.proofs.Begins.{begins_self}
use Rattle.ann_shown.proofs.Growing.{rises}
use Rattle.ann_shown.proofs.place.Place.enter.Goals as goal

pub enter-requires : goal.enter-requires
enter-requires g c x = rises _ _ _ x x (begins_self x)
