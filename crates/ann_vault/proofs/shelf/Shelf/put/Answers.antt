use Rattle.std.proofs.Common.{ap, ◌∙◌, Vec, ℕ, Global}
use Rattle.std.specs.FinMap as map
use Rattle.ann_vault.specs.Shelf.{shelf_held}
use Rattle.ann_vault.proofs.Held.{held-insert}
use Rattle.ann_vault.proofs.shelf.Shelf.put.Goals as goal

pub returns-clause-sealed : goal.returns-clause-sealed
returns-clause-sealed c =
    held-insert c.args.self.now.sealed.entries c.insert.new.self.entries c.args.number c.in_ok-kept.kept c.in_ok-insert.ensures.updates.0
    ∙ ap (map.insert (shelf_held c.args.self.now) c.args.number) (c.in_ok-kept.ensures.bytes ∙ ap (λ (bytes : Vec ℕ Global). bytes.items) c.in_ok-bytes.ensures.ok)
