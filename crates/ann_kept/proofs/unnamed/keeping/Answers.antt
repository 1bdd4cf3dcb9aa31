use Rattle.ann_kept.proofs.Keeps.{kept_removed, kept_still}
use Rattle.ann_kept.proofs.unnamed.keeping.Goals as goal

pub returns-clause-others : goal.returns-clause-others
returns-clause-others c = kept_still

pub returns-clause-removed : goal.returns-clause-removed
returns-clause-removed c = kept_removed
