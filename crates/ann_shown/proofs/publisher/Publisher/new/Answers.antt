use Rattle.std.proofs.Common.{sym, subst, ◌∷◌, []}
use Rattle.ann_types.specs.Lists.{BasedList}
use Rattle.ann_shown.specs.Rising.{Risen}
use Rattle.ann_shown.proofs.Growing.{opens}
use Rattle.ann_shown.proofs.publisher.Publisher.new.Goals as goal

pub new-requires-clause-rule : goal.new-requires-clause-rule
new-requires-clause-rule g c = subst (λ (x : BasedList). Risen g.N.ListName.opening x (g.N.ListName.opening ∷ [])) (sym c.requires.opening.0) (opens g.N.ListName.opening)
