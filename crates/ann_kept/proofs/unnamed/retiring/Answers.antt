use Rattle.ann_kept.proofs.Retired.{ended_retired, stays_retired}
use Rattle.ann_kept.proofs.unnamed.retiring.Goals as goal

pub returns-clause-ended : goal.returns-clause-ended
returns-clause-ended g c index h order segment by = ended_retired index h order segment by

pub returns-clause-stays : goal.returns-clause-stays
returns-clause-stays g c = stays_retired
