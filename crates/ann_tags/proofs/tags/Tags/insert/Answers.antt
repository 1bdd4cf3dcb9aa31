use Rattle.std.proofs.Common.{Result, Ok, Err, OnOk, IsOk, ap, ◌∙◌, arith}
use Rattle.ann_tags.specs.Tags.{TagsView}
use Rattle.std.specs.FinMap as map
use Rattle.ann_tags.proofs.Maps.{inserted}
use Rattle.ann_tags.proofs.tags.Tags.insert.Goals as goal

at_ok : {T E P : Type 0} (r : Result T E) → OnOk r P → IsOk r → P
at_ok (Ok x) p ok = p
at_ok (Err e) p ok = absurd (cc)

pub returns-clause-pids : goal.returns-clause-pids
returns-clause-pids c =
    let room = c.requires.room in
    let seen = ap (λ (s : TagsView). s.spare) c.self.view_is in
    let kept = c.self.invariant in
    let updates = at_ok c.insert.result c.insert.ensures.updates (c.insert.ensures.succeeds (omega arith)) in
    inserted c.self.inside.pids.entries c.insert.new.self.entries c.args.tag c.args.pid updates.0
    ∙ ap (λ (s : TagsView). map.insert s.pids c.args.tag c.args.pid) c.self.view_is
