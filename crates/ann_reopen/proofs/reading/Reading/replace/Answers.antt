use Rattle.std.proofs.Common.{◌≡◌, ◌+◌, ℕ, ap, ◌∙◌, List, ◌∷◌, [], ◌++◌}
use Rattle.std.specs.Prelude.{Option}
use Rattle.std.specs.FinMap.{get, insert}
use Rattle.ann_laws.specs.Outlines.{Outline, outline_grown, outline_deleted}
use Rattle.ann_tags.specs.Tags.{Pids, TagsView}
use Rattle.ann_tags.proofs.Maps.{gone as gone_tag, replaced}
use Rattle.ann_reopen.specs.Reading.{ReadingView}
use Rattle.ann_reopen.specs.Shape.{drawn}
use Rattle.ann_reopen.proofs.reading.Reading.replace.Goals as goal

pub insert-requires-clause-absent : goal.insert-requires-clause-absent
insert-requires-clause-absent c = ap (λ (t : TagsView). get t.pids c.args.tag) c.remove.ensures ∙ gone_tag c.reserve.new.self.pids c.args.tag

pub returns : goal.returns
returns c =
    let pids : c.insert.new.self.pids ≡ insert c.args.self.now.tags.pids c.args.tag c.args.self.now.next =
    c.insert.ensures.pids
    ∙ ap (λ (t : TagsView). insert t.pids c.args.tag c.args.self.now.next) c.remove.ensures
    ∙ replaced c.reserve.new.self.pids c.args.tag c.args.self.now.next
    ∙ ap (λ (t : TagsView). insert t.pids c.args.tag c.args.self.now.next) c.in_ok-reserve.ensures.ok in
    let old = c.args.self.now in
    let outline : drawn c.grown-self.result ≡ outline_grown old.params (outline_deleted (drawn old.shape)) = c.grown-self.ensures ∙ ap (outline_grown old.params) c.deleted.ensures in
    let gone : c.push.new.self.items ≡ old.gone.items ++ get old.tags.pids c.args.tag ∷ [] = c.in_ok-push.ensures.items ∙ ap (λ o. old.gone.items ++ o ∷ []) c.get-pid.ensures in
    let made : Outline → Pids → List (Option ℕ) → ReadingView = λ o p g. record { params = old.params; position = old.position + 1; outline = o; before = old.before; pids = p; next = old.next + 1; gone = g; merge = old.merge } in
    ap (λ o. made o c.insert.new.self.pids c.push.new.self.items) outline
    ∙ ap (λ p. made (outline_grown old.params (outline_deleted (drawn old.shape))) p c.push.new.self.items) pids
    ∙ ap (λ g. made (outline_grown old.params (outline_deleted (drawn old.shape))) (insert old.tags.pids c.args.tag old.next) g) gone
