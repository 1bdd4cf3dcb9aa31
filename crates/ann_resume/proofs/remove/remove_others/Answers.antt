use Rattle.std.proofs.Common.{◌≡◌, ◌+◌, ℕ, Bool, List, false, true, sym, ap, subst, ◌∙◌, get_or}
use Rattle.ann_vault.specs.Held.{Holding}
use Rattle.ann_resume.specs.Removed.{is_named}
use Rattle.ann_resume.proofs.Applying.{get_again}
use Rattle.ann_resume.proofs.Removing.{AreRemoved, lack_failed, kept_more, removed_more, all_removed, on_err}
use Rattle.ann_resume.proofs.remove.remove_others.Goals.{then-not-names+in_ok-remove, else-not-names}
use Rattle.ann_resume.proofs.remove.remove_others.Goals as goal

pub returns-in_err-remove-clause-refused : goal.returns-in_err-remove-clause-refused
returns-in_err-remove-clause-refused g c told =
    let kept : ℕ → Bool = is_named c.args.first c.args.second in
    let i = c.loop-number.number-index in
    let numbers : List ℕ = c.deref-number-items.result.now in
    let gone : kept (get_or numbers i 0) ≡ false = sym c.names.ensures ∙ c.if-not-names.true in
    on_err _ _
    (lack_failed kept numbers i (get_or numbers i 0) (g.V.Vault.held c.args.vault.now) (g.V.Vault.held c.loop-number.vault) (g.V.Vault.held c.remove.new.vault) c.loop-number-test.true (get_again numbers i 0 c.loop-number-test.true) (c.loop-number.invariant.removed told) gone (c.in_err-remove.ensures.refused told))

pub loop-number-preserved : goal.loop-number-preserved
loop-number-preserved g c =
    let kept : ℕ → Bool = is_named c.args.first c.args.second in
    let i = c.loop-number.number-index in
    let numbers : List ℕ = c.deref-number-items.result.now in
    let old = g.V.Vault.held c.args.vault.now in
    elim c.if-not-names.branch [
      | then-not-names+in_ok-remove w ↦ record {
        removed = λ told.
            let gone : kept (get_or numbers i 0) ≡ false = sym c.names.ensures ∙ w.if-not-names.true in
            subst (λ v. AreRemoved kept numbers (i + 1) old (g.V.Vault.held v)) (sym w.vault-is)
            (subst (λ (held : Holding). AreRemoved kept numbers (i + 1) old held) (sym (w.in_ok-remove.ensures.removed told))
            (removed_more kept numbers i (get_or numbers i 0) old (g.V.Vault.held c.loop-number.vault) c.loop-number-test.true (get_again numbers i 0 c.loop-number-test.true) (c.loop-number.invariant.removed told) gone));
        calm = ap (λ v. g.V.Vault.faults v) w.vault-is ∙ w.in_ok-remove.ensures.cause.calm ∙ c.loop-number.invariant.calm;
      }
      | else-not-names w ↦ record {
        removed = λ told.
            let here : kept (get_or numbers i 0) ≡ true = sym c.names.ensures ∙ w.if-not-names.false in
            subst (λ v. AreRemoved kept numbers (i + 1) old (g.V.Vault.held v)) (sym w.vault-is)
            (kept_more kept numbers i (get_or numbers i 0) old (g.V.Vault.held c.loop-number.vault) c.loop-number-test.true (get_again numbers i 0 c.loop-number-test.true) (c.loop-number.invariant.removed told) here);
        calm = ap (λ v. g.V.Vault.faults v) w.vault-is ∙ c.loop-number.invariant.calm;
      }
    ]

pub returns-clause-removed : goal.returns-clause-removed
returns-clause-removed g c told =
    all_removed (is_named c.args.first c.args.second) c.deref-number-items.result.now c.loop-number.number-index (g.V.Vault.held c.args.vault.now) (g.V.Vault.held c.loop-number.vault)
    (c.deref-number-items.ensures.value ∙ c.in_ok-numbers.ensures.numbers told) c.loop-number-test.false (c.loop-number.invariant.removed told)
