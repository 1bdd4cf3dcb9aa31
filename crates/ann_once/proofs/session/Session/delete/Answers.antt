use Rattle.std.proofs.Common.{refl, sym, ap, ◌∙◌}
use Rattle.std.specs.FinMap.{remove}
use Rattle.ann_types.specs.Lists.{live_of}
use Rattle.ann_types.specs.declared.change.Change.TheVariants.{Delete}
use Rattle.ann_types.specs.declared.entry.Entry.TheVariants.{Delete as DeleteEntry}
use Rattle.ann_tags.specs.Tags.{Pids, TagsView}
use Rattle.ann_tags.proofs.Maps.{unmapped_is}
use Rattle.ann_once.proofs.Sessions.{delete_there, pid_is, keeps_more}
use Rattle.ann_once.proofs.session.Session.delete.Goals as goal

pub unreachable-requires : goal.unreachable-requires
unreachable-requires c = delete_there c.requires.accepted.0 c.args.tag c.args.self.now c.requires.accepted.1 c.requires.accepted.2 c.in_default.ensures

pub returns-clause-kept : goal.returns-clause-kept
returns-clause-kept c h keeps none =
    keeps_more h (Delete c.args.tag) c.args.self.now _ keeps none refl
    (c.in_ok-apply.ensures.stands h (DeleteEntry 0 c.args.tag) keeps.stands (0, c.args.tag, refl, pid_is h c.args.tag c.in-Some.pid c.args.self.now keeps c.in-Some.ensures))
    (ap (λ v. v.params) c.in_ok-apply.ensures.applied)
    (ap (λ v. v.book) c.in_ok-apply.ensures.applied)
    (ap (λ v. v.segment) c.in_ok-apply.ensures.applied)
    (ap (λ v. v.closed) c.in_ok-apply.ensures.applied)
    (ap (λ (t : TagsView). t.pids) c.remove.ensures ∙ ap (λ (m : Pids). remove m c.args.tag) keeps.tags ∙ sym (unmapped_is (live_of h) c.args.tag))
