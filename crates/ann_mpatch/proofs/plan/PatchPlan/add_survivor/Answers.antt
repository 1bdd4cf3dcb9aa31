use Rattle.std.proofs.Common.{◌≡◌, ◌<◌, sym, ap, subst, ◌∙◌, arith, length}
use Rattle.std.specs.Arc.{arc_value}
use Rattle.std.specs.Option.{option_map}
use Rattle.std.specs.List.Sorted.{IsStrictlyIncreasing}
use Rattle.std.proofs.lemmas.List.{get_or_read}
use Rattle.ann_mpatch.specs.Source.{source_in, source_of}
use Rattle.ann_mpatch.specs.Plan.{source_for}
use Rattle.ann_mpatch.proofs.Courses.{patched_survivor}
use Rattle.ann_mpatch.proofs.Listed.{list_few, list_rises}
use Rattle.ann_mpatch.proofs.plan.PatchPlan.add_survivor.Goals as goal

pub add_old-requires-clause-degree : goal.add_old-requires-clause-degree
add_old-requires-clause-degree g c =
    let plan = c.args.self.now in
    let below : c.args.row < length plan.decoded = (let all = c.requires.plan.decoded in let row = c.requires.row in omega arith) in
    let few = list_few plan c.requires.plan c.args.row below in
    let size = ap length c.requires.list in
    let most = plan.params.in_limits.neighbours in omega arith

pub add_old-requires-clause-ascending : goal.add_old-requires-clause-ascending
add_old-requires-clause-ascending g c =
    let plan = c.args.self.now in
    let below : c.args.row < length plan.decoded = (let all = c.requires.plan.decoded in let row = c.requires.row in omega arith) in
    subst IsStrictlyIncreasing (sym c.requires.list) (list_rises plan c.requires.plan c.args.row below)

pub returns : goal.returns
returns g c =
    let plan = c.args.self.now in
    let from : source_in g.S.Sealed.bytes c.deref.result.now ≡ source_for g.S.Sealed.bytes plan =
    ap (source_in g.S.Sealed.bytes) c.deref.ensures ∙ sym (ap (λ o. source_of g.S.Sealed.bytes (option_map arc_value o)) c.in-Some.is) in
    patched_survivor g.S.Sealed.tells g.S.Sealed.bytes plan c.args.row c.index-old.result.now (source_in g.S.Sealed.bytes c.deref.result.now) c.args.list.now _ _ c.add_old.result c.requires.row from
    (get_or_read plan.survivors.items c.args.row c.index-old.result.now c.requires.row c.index-old.ensures 0)
    c.requires.list c.add_old.ensures.added c.add_old.ensures.refused
