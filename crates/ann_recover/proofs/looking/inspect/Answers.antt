use Rattle.ann_log.proofs.Results.{if_ok, if_err}
use Rattle.ann_log.specs.LogView.{held_by}
use Rattle.ann_recover.proofs.NeverBad.{never_sum}
use Rattle.ann_recover.proofs.Placing.{kept_read}
use Rattle.ann_recover.proofs.Summing.{files_counted, not_inspected}
use Rattle.ann_recover.proofs.looking.inspect.Goals as goal

pub returns-clause-inspected : goal.returns-clause-inspected
returns-clause-inspected g c =
    if_ok c.sum_up.result _ _ (λ summary w. record { was = held_by c.in_ok-found.found; stood = c.in_ok-found.ensures.found.held; summed = w }) c.sum_up.ensures.summed

pub returns-clause-refused : goal.returns-clause-refused
returns-clause-refused g c =
    if_err c.sum_up.result _ _ (λ why w. not_inspected g.F.LogFile g.V.Seal.Sealed.tells g.V.Seal.Sealed.bytes (g.V.Vault.held c.args.vault.now) c.args.files.now (held_by c.in_ok-found.found) c.in_ok-found.ensures.found.held why w) c.sum_up.ensures.refused

pub returns-clause-cause : goal.returns-clause-cause
returns-clause-cause g c = files_counted c.sum_up.result _ _ _ _ _ _ _ _ c.in_ok-found.ensures.cause.calm.first c.in_ok-found.ensures.cause.calm.second c.sum_up.ensures.cause

pub returns-clause-never_bad : goal.returns-clause-never_bad
returns-clause-never_bad g c told seals params book sound =
    let found = c.in_ok-found.ensures.found in
    let stood = found.held told in
    if_err c.sum_up.result _ _
    (never_sum g.V.Seal.Sealed.tells g.V.Seal.Sealed.bytes (g.V.Vault.held c.args.vault.now) (held_by c.in_ok-found.found) seals
    (kept_read g.F.LogFile g.V.Seal.Sealed.tells g.V.Seal.Sealed.bytes (g.V.Vault.held c.args.vault.now) c.args.files.now params book told sound (held_by c.in_ok-found.found) stood.0 (record { stood = λ again. stood.1 }))
    found.sizes.0)
    c.sum_up.ensures.refused
