use Rattle.ann_vault.proofs.Held.{held-remove}
use Rattle.ann_vault.proofs.shelf.Shelf.take.Goals as goal

pub returns : goal.returns
returns c =
    held-remove c.args.self.now.sealed.entries c.remove.new.self.entries c.args.number c.remove.ensures.updates.0
