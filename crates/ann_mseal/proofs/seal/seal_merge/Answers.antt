use Rattle.std.proofs.Common.{◌∙◌}
use Rattle.ann_mseal.specs.Ends.{HasSealed, LeavesSealed, SealsMerged}
use Rattle.ann_mseal.proofs.Ends.{ends_as, nothing_left, seal_ends}
use Rattle.ann_mseal.proofs.Texts.{merged_text}
use Rattle.ann_mseal.proofs.seal.seal_merge.Goals as goal

pub returns-in_err-writer-clause-ends : goal.returns-in_err-writer-clause-ends
returns-in_err-writer-clause-ends g c =
    let old = g.V.Vault.held c.args.vault.now in
    let new = g.V.Vault.held c.begin.new.vault in
    let is_text = SealsMerged g.V.Seal.Sealed.bytes c.args.book.now.book c.args.plan.now c.args.entry c.args.number in
    ends_as _ (λ why. g.V.Seal.Sealed.tells → LeavesSealed is_text c.args.number old new why) c.from_residual.result c.in_err-writer.field-0.0 c.from_residual.ensures.1
    (λ told. nothing_left is_text c.args.number old new c.in_err-writer.field-0.0 (c.begin.ensures.rest told).same)

pub returns-in_err-write_rows-clause-ends : goal.returns-in_err-write_rows-clause-ends
returns-in_err-write_rows-clause-ends g c =
    let old = g.V.Vault.held c.args.vault.now in
    let new = g.V.Vault.held c.write_rows.new.vault in
    let is_text = SealsMerged g.V.Seal.Sealed.bytes c.args.book.now.book c.args.plan.now c.args.entry c.args.number in
    ends_as _ (λ why. g.V.Seal.Sealed.tells → LeavesSealed is_text c.args.number old new why) c.from_residual-in_err-write_rows.result c.in_err-write_rows.field-0.0 c.from_residual-in_err-write_rows.ensures.1
    (λ told. nothing_left is_text c.args.number old new c.in_err-write_rows.field-0.0 ((c.write_rows.ensures.rest told).same ∙ (c.begin.ensures.rest told).same))

pub returns-clause-ends : goal.returns-clause-ends
returns-clause-ends g c =
    let plan = c.args.plan.now in
    let writer = c.write_rows.new.writer in
    let drafted = g.V.Vault.draft_bytes writer.draft in
    let begun = c.in_ok-writer.ensures.begun in
    let same = c.write_rows.ensures.same in
    let writing = c.in_ok-write_rows.ensures.writing in
    let header = same.header ∙ begun.header in
    let items = same.items ∙ begun.items in
    seal_ends g.V.Seal.Sealed.tells g.V.Seal.Sealed.number g.V.Seal.Sealed.bytes c.args.book.now.book plan c.args.entry c.args.number writer drafted header items
    (λ told text seals. merged_text g.V.Seal.Sealed.bytes c.args.book.now.book plan c.args.entry c.args.number writer drafted text c.requires.sealable.sound c.requires.sealable.entered header items (writing.drafted told) seals)
    (g.V.Vault.held c.args.vault.now) (g.V.Vault.held c.write_rows.new.vault) (g.V.Vault.held c.end.new.vault)
    (λ told. (c.write_rows.ensures.rest told).same ∙ (c.begin.ensures.rest told).same)
    (g.V.Vault.faults c.write_rows.new.vault) (g.V.Vault.faults c.end.new.vault) c.end.result
    c.end.ensures.segment c.end.ensures.sealed c.end.ensures.text c.end.ensures.refused
