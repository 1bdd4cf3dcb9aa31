use Rattle.std.proofs.Common.{false}
use Rattle.ann_index.proofs.Opened.{index_opened, parts_anyhow}
use Rattle.ann_index.proofs.index.Index.open.Goals as goal

pub invariant_of-result : goal.invariant_of-result
invariant_of-result g c =
    let h = c.requires.parts.1 in
    let is = parts_anyhow g.F.LogFile g.V.Seal.Sealed.tells g.V.Seal.Sealed.bytes c.requires.parts.0 h c.args.parts.log (g.V.Vault.held c.args.parts.vault) c.args.parts.view c.args.parts.tags c.args.parts.begun c.requires.parts.2 in (
      h,
      h,
      index_opened g.F.LogFile g.V.Seal.Sealed.tells g.V.Seal.Sealed.bytes g.V.Vault.held false h c.of-ledger.result.ledger.journal c.of-ledger.result.ledger.stock c.of-ledger.result.view c.args.parts.vault c.args.parts.eyes.items (c.of-ledger.ensures.shown false h is) (c.of-ledger.ensures.ledger false h is) c.of-ledger.ensures.tools,
    )

pub returns-in-Ok-clause-index : goal.returns-in-Ok-clause-index
returns-in-Ok-clause-index g c sound h is =
    index_opened g.F.LogFile g.V.Seal.Sealed.tells g.V.Seal.Sealed.bytes g.V.Vault.held sound h c.of-ledger.result.ledger.journal c.of-ledger.result.ledger.stock c.of-ledger.result.view c.args.parts.vault c.args.parts.eyes.items (c.of-ledger.ensures.shown sound h is) (c.of-ledger.ensures.ledger sound h is) c.of-ledger.ensures.tools
