use Rattle.std.proofs.Common.{◌≡◌, ◌⊎◌, None, ap, subst, ◌∙◌}
use Rattle.std.specs.FinMap.{get, remove}
use Rattle.ann_vault.specs.Held.{IsSealOf, MayBeRemoved}
use Rattle.ann_merge.proofs.Numbers.{left_may, on_err, others_may, others_stay, removed}
use Rattle.ann_merge.proofs.clear.clear.Goals as goal

pub returns-in_err-remove-clause-others : goal.returns-in_err-remove-clause-others
returns-in_err-remove-clause-others g c tells other n =
    let old = g.V.Vault.held c.args.vault.now in
    let mid = g.V.Vault.held c.open.new.self in
    let new = g.V.Vault.held c.remove.new.self in
    let found = subst (IsSealOf g.V.Seal.Sealed.number g.V.Seal.Sealed.bytes old c.args.number) c.in-Some.is (c.in_ok-seal.ensures.found tells) in
    let may = subst (λ k. MayBeRemoved k mid new) found.0 (c.in_err-remove.ensures.refused tells) in
    others_may c.args.number mid new may other n ∙ ap (λ h. get h other) (c.open.ensures.same tells)

pub returns-in_err-remove-clause-left : goal.returns-in_err-remove-clause-left
returns-in_err-remove-clause-left g c tells =
    let old = g.V.Vault.held c.args.vault.now in
    let mid = g.V.Vault.held c.open.new.self in
    let new = g.V.Vault.held c.remove.new.self in
    let k = c.args.number in
    let found = subst (IsSealOf g.V.Seal.Sealed.number g.V.Seal.Sealed.bytes old k) c.in-Some.is (c.in_ok-seal.ensures.found tells) in
    let may = subst (λ n. MayBeRemoved n mid new) found.0 (c.in_err-remove.ensures.refused tells) in
    on_err _ c.from_residual-in_err-remove.result
    (subst (λ h. (get new k ≡ get h k) ⊎ (get new k ≡ None)) (c.open.ensures.same tells) (left_may k mid new may))

pub returns-in_ok-remove-clause-gone : goal.returns-in_ok-remove-clause-gone
returns-in_ok-remove-clause-gone g c tells =
    let old = g.V.Vault.held c.args.vault.now in
    let mid = g.V.Vault.held c.open.new.self in
    let found = subst (IsSealOf g.V.Seal.Sealed.number g.V.Seal.Sealed.bytes old c.args.number) c.in-Some.is (c.in_ok-seal.ensures.found tells) in
    ap (λ h. get h c.args.number) (c.in_ok-remove.ensures.removed tells ∙ ap (remove mid) found.0) ∙ removed mid c.args.number

pub returns-in_ok-remove-clause-others : goal.returns-in_ok-remove-clause-others
returns-in_ok-remove-clause-others g c tells other n =
    let old = g.V.Vault.held c.args.vault.now in
    let mid = g.V.Vault.held c.open.new.self in
    let found = subst (IsSealOf g.V.Seal.Sealed.number g.V.Seal.Sealed.bytes old c.args.number) c.in-Some.is (c.in_ok-seal.ensures.found tells) in
    ap (λ h. get h other) (c.in_ok-remove.ensures.removed tells ∙ ap (remove mid) found.0) ∙ others_stay mid c.args.number other n
    ∙ ap (λ h. get h other) (c.open.ensures.same tells)
