use Rattle.std.proofs.Common.{◌≡◌, List, ℕ, sym, subst, IfOk}
use Rattle.ann_vault.proofs.Held.{keys-held}
use Rattle.ann_vault.proofs.shelf.Shelf.numbers.Goals as goal

pub returns : goal.returns
returns c = subst (λ (keys : List ℕ). IfOk c.keys_of.result (λ numbers. numbers.items ≡ keys)) (sym (keys-held c.args.self.now.sealed.entries c.keys_of.ensures.ordered)) c.keys_of.ensures.keys
