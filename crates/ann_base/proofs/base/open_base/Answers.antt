use Rattle.std.proofs.Common.{refl, ap}
use Rattle.ann_tags.specs.Tags.{TagsView}
use Rattle.ann_base.specs.Grounded.{IsBaseRefused}
use Rattle.ann_base.proofs.Based.{no_base, front_refused, nodes_refused, base_of_segment}
use Rattle.ann_base.proofs.Results.{err_is}
use Rattle.ann_base.proofs.base.open_base.Goals as goal

pub returns-then-number-eq0-clause-opened : goal.returns-then-number-eq0-clause-opened
returns-then-number-eq0-clause-opened g c =
    no_base g.V.Seal.Sealed.tells g.V.Seal.Sealed.bytes (g.V.Vault.held c.args.vault.now) c.args.params.now c.args.number c.args.next _ c.if-number-eq0.true refl (ap (λ (t : TagsView). t.pids) c.new.ensures)

pub returns-in_err-segment-clause-refused : goal.returns-in_err-segment-clause-refused
returns-in_err-segment-clause-refused g c told =
    err_is c.from_residual.result (IsBaseRefused (g.V.Vault.held c.args.vault.now) c.args.params.now c.args.number c.args.next) _ c.from_residual.ensures.1
    (front_refused (g.V.Vault.held c.args.vault.now) c.args.params.now c.args.number c.args.next c.if-number-eq0.false _ (c.in_err-segment.ensures.refused told))

pub returns-in_err-tags-clause-refused : goal.returns-in_err-tags-clause-refused
returns-in_err-tags-clause-refused g c told =
    err_is c.from_residual-in_err-tags.result (IsBaseRefused (g.V.Vault.held c.args.vault.now) c.args.params.now c.args.number c.args.next) _ c.from_residual-in_err-tags.ensures.1
    (nodes_refused g.V.Seal.Sealed.tells g.V.Seal.Sealed.bytes (g.V.Vault.held c.args.vault.now) c.args.params.now c.args.number c.args.next c.in_ok-segment.segment c.in_ok-segment.ensures.opened c.if-number-eq0.false _ (c.in_err-tags.ensures.refused told) told)

pub returns-clause-opened : goal.returns-clause-opened
returns-clause-opened g c =
    base_of_segment g.V.Seal.Sealed.tells g.V.Seal.Sealed.bytes (g.V.Vault.held c.args.vault.now) c.args.params.now c.args.number c.args.next c.in_ok-segment.segment c.in_ok-segment.ensures.opened c.if-number-eq0.false c.known.ensures.sound c.in_ok-tags.tags.pids c.in_ok-tags.ensures.loaded _ refl refl
