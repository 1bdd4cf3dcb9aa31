use Rattle.std.proofs.Common.{sym, subst}
use Rattle.ann_types.specs.Lists.{BasedList, BeginsWith}
use Rattle.ann_shown.specs.Publishing.{Publishing, last_of}
use Rattle.ann_shown.proofs.Growing.{rises, knows_still}
use Rattle.ann_shown.proofs.publisher.Publisher.publish.Goals as goal

pub publish_as-requires : goal.publish_as-requires
publish_as-requires g c id next is =
    let old = c.self.inside.pen in
    let up : BeginsWith (last_of old.value old.waiting) old.value = subst (λ (p : Publishing). BeginsWith (last_of p.shown p.waiting) p.shown) (sym c.self.view_is) c.requires in
    rises _ id _ old.value next (subst (λ (h : BasedList). BeginsWith h old.value) (sym is) up)

pub invariant_of-self : goal.invariant_of-self
invariant_of-self g c =
    let old = c.self.inside.pen in
    let up : BeginsWith (last_of old.value old.waiting) old.value = subst (λ (p : Publishing). BeginsWith (last_of p.shown p.waiting) p.shown) (sym c.self.view_is) c.requires in
    knows_still c.publish_as.result g.N.ListName.opening old c.publish_as.new.self c.self.invariant up c.publish_as.ensures
