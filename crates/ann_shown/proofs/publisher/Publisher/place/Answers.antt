use Rattle.ann_shown.proofs.Growing.{admits}
use Rattle.ann_shown.proofs.publisher.Publisher.place.Goals as goal

pub reader-requires : goal.reader-requires
reader-requires g c = admits _
