use Rattle.std.proofs.Common.{sym, subst, ap, ◌∙◌, ◌≡◌}
use Rattle.ann_types.specs.Lists.{BasedList, BeginsWith}
use Rattle.ann_shown.specs.Publishing.{Publishing}
use Rattle.ann_shown.specs.Rising.{longer}
use Rattle.ann_shown.proofs.Growing.{admits, forks, merges, longer_is}
use Rattle.ann_shown.proofs.publisher.Publisher.told_place.Goals as goal

pub told_reader-requires-clause-admits : goal.told_reader-requires-clause-admits
told_reader-requires-clause-admits g c = admits _

pub told_reader-requires-clause-forks : goal.told_reader-requires-clause-forks
told_reader-requires-clause-forks g c id = forks _ id _

pub told_reader-requires-clause-merges : goal.told_reader-requires-clause-merges
told_reader-requires-clause-merges g c id other = merges _ id other _

pub returns-clause-told : goal.returns-clause-told
returns-clause-told g c =
    let opening : BasedList = g.N.ListName.opening in
    let i = c.self.invariant in
    let knows : BasedList = c.self.inside.pen.knows in
    let from : BeginsWith knows opening = subst (λ (h : BasedList). BeginsWith h opening) (sym i.0) i.1 in
    let all : longer opening knows ≡ c.args.self.now.shown = longer_is opening knows from ∙ (i.0 ∙ ap (λ (p : Publishing). p.shown) c.self.view_is) in
    c.in_ok-told_reader.ensures.told ∙ all
