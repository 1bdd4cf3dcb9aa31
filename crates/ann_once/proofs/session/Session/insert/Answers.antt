use Rattle.std.proofs.Common.{ℕ, refl, sym, ap, ◌∙◌}
use Rattle.std.specs.FinMap.{insert, get}
use Rattle.ann_types.specs.Lists.{live_of, mapped}
use Rattle.ann_types.specs.declared.change.Change.TheVariants.{Insert}
use Rattle.ann_types.specs.declared.entry.Entry.TheVariants.{Insert as InsertEntry}
use Rattle.ann_tags.specs.Tags.{Pids, TagsView, map_of}
use Rattle.ann_tags.proofs.Maps.{mapped_is}
use Rattle.ann_once.proofs.Sessions.{insert_absent, keeps_more}
use Rattle.ann_once.proofs.session.Session.insert.Goals as goal

pub insert-requires-clause-absent : goal.insert-requires-clause-absent
insert-requires-clause-absent c =
    ap (λ (t : TagsView). get t.pids c.args.tag) c.in_ok-reserve.ensures.ok
    ∙ insert_absent c.requires.accepted.0 c.args.tag c.args.vector.now c.args.self.now c.requires.accepted.1 c.requires.accepted.2

pub returns-clause-kept : goal.returns-clause-kept
returns-clause-kept c h keeps none =
    keeps_more h (Insert c.args.tag c.args.vector.now) c.args.self.now _ keeps none refl
    (c.in_ok-apply.ensures.stands h (InsertEntry 0 c.args.tag c.args.vector.now) keeps.stands (0, ap (InsertEntry 0 c.args.tag) (sym (c.in_ok-vector.ensures ∙ c.bytes.ensures.components))))
    (ap (λ v. v.params) c.in_ok-apply.ensures.applied)
    (ap (λ v. v.book) c.in_ok-apply.ensures.applied)
    (ap (λ v. v.segment) c.in_ok-apply.ensures.applied)
    (ap (λ v. v.closed) c.in_ok-apply.ensures.applied)
    (
    c.insert.ensures.pids
    ∙ ap (λ (t : TagsView). insert t.pids c.args.tag c.next-pid.result) c.in_ok-reserve.ensures.ok
    ∙ ap (λ (m : Pids). insert m c.args.tag c.next-pid.result) keeps.tags
    ∙ sym (mapped_is (live_of h) c.args.tag c.next-pid.result)
    ∙ ap (λ (n : ℕ). map_of (mapped (live_of h) c.args.tag n)) (c.next-pid.ensures ∙ keeps.stands.next))
