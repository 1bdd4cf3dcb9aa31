use Rattle.std.proofs.Common.{ap, ◌∙◌, refl, sym, Some, Vec, ℕ, Global}
use Rattle.std.specs.Option.{option_map}
use Rattle.ann_vault.specs.Seal.{seal_bytes}
use Rattle.ann_vault.proofs.Held.{get-held}
use Rattle.ann_vault.proofs.shelf.Shelf.find.Goals as goal

pub returns-in-None : goal.returns-in-None
returns-in-None c = get-held c.args.self.now.sealed.entries c.args.number ∙ ap (option_map seal_bytes) (sym c.in-None.ensures.value)

pub returns-in_ok-clone-in-Some : goal.returns-in_ok-clone-in-Some
returns-in_ok-clone-in-Some c = (
  refl,
  get-held c.args.self.now.sealed.entries c.args.number
      ∙ ap (option_map seal_bytes) (sym c.in-Some.ensures.value)
      ∙ ap (λ (bytes : Vec ℕ Global). Some bytes.items) (sym c.in_ok-clone-in-Some.ensures.cases),
)
