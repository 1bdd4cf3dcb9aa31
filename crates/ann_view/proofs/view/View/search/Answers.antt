use Rattle.ann_beam.proofs.Searches.{searched_from}
use Rattle.ann_view.proofs.view.View.search.Goals as goal

pub returns-clause-searched : goal.returns-clause-searched
returns-clause-searched g c = λ same.
    searched_from _ _ _ _ _ _ _ _ _ _ c.disk.result c.in_ok-near.ensures.near c.disk.ensures.searched
