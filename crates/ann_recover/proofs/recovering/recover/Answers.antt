use Rattle.ann_log.proofs.Results.{if_ok, if_err}
use Rattle.ann_log.specs.LogView.{files_of}
use Rattle.ann_recover.specs.Fresh.{held_with}
use Rattle.ann_recover.proofs.NeverBad.{never_load}
use Rattle.ann_recover.proofs.Leaving.{not_recovered, not_opened}
use Rattle.ann_recover.proofs.Opened.{recovered_is, soundly_opened}
use Rattle.ann_recover.proofs.Opening.{has_stood}
use Rattle.ann_recover.proofs.Placing.{counted_from, read_during, left_during, place_of, place_with, kept_read, index_read, kept_during, refused_kept}
use Rattle.ann_recover.proofs.Results.{both}
use Rattle.ann_recover.proofs.recovering.recover.Goals as goal

pub returns-in-Ok-clause-recovered : goal.returns-in-Ok-clause-recovered
returns-in-Ok-clause-recovered g c =
    if_ok c.open_list.result _ _
    (λ parts w. recovered_is g.F.LogFile g.V.Seal.Sealed.tells g.V.Seal.Sealed.bytes (g.V.Vault.held c.args.vault) (g.V.Vault.held parts.vault) c.args.files c.in-Ok.log c.in-Ok.entries c.in-Ok.ensures.opened parts.log parts.view parts.tags parts.begun w)
    c.open_list.ensures.revived

pub returns-in-Ok-clause-refused : goal.returns-in-Ok-clause-refused
returns-in-Ok-clause-refused g c =
    if_err c.open_list.result _ _ (λ refused w. not_recovered g.F.LogFile g.met.F.LogFile.reads_an_image g.V.Seal.Sealed.tells g.V.Seal.Sealed.bytes (g.V.Vault.held c.args.vault) c.args.files c.in-Ok.log c.in-Ok.entries c.in-Ok.ensures.opened (g.V.Vault.held refused.vault) refused.files refused.why w) c.open_list.ensures.refused

pub returns-in-Ok-clause-during : goal.returns-in-Ok-clause-during
returns-in-Ok-clause-during g c =
    both c.open_list.result _ _ _ _
    (λ parts w. left_during g.F.LogFile g.V.Seal.Sealed.tells g.V.Seal.Sealed.bytes (g.V.Vault.held c.args.vault) c.args.files c.in-Ok.log c.in-Ok.entries c.in-Ok.ensures.opened (files_of parts.log) w)
    (λ refused w. left_during g.F.LogFile g.V.Seal.Sealed.tells g.V.Seal.Sealed.bytes (g.V.Vault.held c.args.vault) c.args.files c.in-Ok.log c.in-Ok.entries c.in-Ok.ensures.opened refused.files w)
    c.open_list.ensures.during

pub returns-in-Ok-clause-cause : goal.returns-in-Ok-clause-cause
returns-in-Ok-clause-cause g c first rest items =
    both c.open_list.result _ _ _ _
    (λ parts w. counted_from g.F.LogFile g.E.Eye.faults _ c.args.files (files_of c.in-Ok.log) _ first rest _ _ _ c.in-Ok.ensures.opened.calm w)
    (λ refused w. counted_from g.F.LogFile g.E.Eye.faults _ c.args.files (files_of c.in-Ok.log) _ first rest _ _ _ c.in-Ok.ensures.opened.calm w)
    (c.open_list.ensures.cause first rest items)

pub returns-in-Ok-clause-sound : goal.returns-in-Ok-clause-sound
returns-in-Ok-clause-sound g c told seals params book sound =
    let stood = has_stood g.F.LogFile g.V.Seal.Sealed.tells g.V.Seal.Sealed.bytes (g.V.Vault.held c.args.vault) c.args.files c.in-Ok.log c.in-Ok.entries c.in-Ok.ensures.opened in
    let index = index_read g.F.LogFile g.V.Seal.Sealed.tells g.V.Seal.Sealed.bytes (g.V.Vault.held c.args.vault) c.args.files params book told sound (held_with c.in-Ok.log c.in-Ok.entries) c.in-Ok.log.generation stood in
    both c.open_list.result _ _ _ _
    (λ parts w. place_with g.F.LogFile g.met.F.LogFile.reads_an_image told (files_of parts.log) (g.V.Vault.held parts.vault) params c.in-Ok.log.params book c.in-Ok.log.book index w)
    (λ refused w. place_with g.F.LogFile g.met.F.LogFile.reads_an_image told refused.files (g.V.Vault.held refused.vault) params c.in-Ok.log.params book c.in-Ok.log.book index w)
    (c.open_list.ensures.sound told seals (kept_read g.F.LogFile g.V.Seal.Sealed.tells g.V.Seal.Sealed.bytes (g.V.Vault.held c.args.vault) c.args.files params book told sound (held_with c.in-Ok.log c.in-Ok.entries) c.in-Ok.log.generation stood))

pub returns-in-Ok-clause-opened : goal.returns-in-Ok-clause-opened
returns-in-Ok-clause-opened g c told seals params book sound =
    if_ok c.open_list.result _ _
    (λ parts w. soundly_opened g.F.LogFile g.V.Seal.Sealed.tells g.V.Seal.Sealed.bytes (g.V.Vault.held c.args.vault) (g.V.Vault.held parts.vault) c.args.files params book told seals sound parts.log parts.view parts.tags parts.begun
    (recovered_is g.F.LogFile g.V.Seal.Sealed.tells g.V.Seal.Sealed.bytes (g.V.Vault.held c.args.vault) (g.V.Vault.held parts.vault) c.args.files c.in-Ok.log c.in-Ok.entries c.in-Ok.ensures.opened parts.log parts.view parts.tags parts.begun w))
    c.open_list.ensures.revived

pub returns-in-Ok-clause-kept : goal.returns-in-Ok-clause-kept
returns-in-Ok-clause-kept g c told seals params book sound =
    both c.open_list.result _ _ _ _
    (λ parts w. kept_during g.F.LogFile g.V.Seal.Sealed.tells g.V.Seal.Sealed.bytes (g.V.Vault.held c.args.vault) c.args.files params book told sound seals (files_of parts.log) (left_during g.F.LogFile g.V.Seal.Sealed.tells g.V.Seal.Sealed.bytes (g.V.Vault.held c.args.vault) c.args.files c.in-Ok.log c.in-Ok.entries c.in-Ok.ensures.opened (files_of parts.log) w))
    (λ refused w. kept_during g.F.LogFile g.V.Seal.Sealed.tells g.V.Seal.Sealed.bytes (g.V.Vault.held c.args.vault) c.args.files params book told sound seals refused.files (left_during g.F.LogFile g.V.Seal.Sealed.tells g.V.Seal.Sealed.bytes (g.V.Vault.held c.args.vault) c.args.files c.in-Ok.log c.in-Ok.entries c.in-Ok.ensures.opened refused.files w))
    c.open_list.ensures.during

pub returns-in-Ok-clause-never_bad : goal.returns-in-Ok-clause-never_bad
returns-in-Ok-clause-never_bad g c told seals params book sound =
    let stood = has_stood g.F.LogFile g.V.Seal.Sealed.tells g.V.Seal.Sealed.bytes (g.V.Vault.held c.args.vault) c.args.files c.in-Ok.log c.in-Ok.entries c.in-Ok.ensures.opened in
    if_err c.open_list.result _ _
    (λ refused w. never_load g.V.Seal.Sealed.tells g.V.Seal.Sealed.bytes (g.V.Vault.held c.args.vault) (held_with c.in-Ok.log c.in-Ok.entries) seals
    (kept_read g.F.LogFile g.V.Seal.Sealed.tells g.V.Seal.Sealed.bytes (g.V.Vault.held c.args.vault) c.args.files params book told sound (held_with c.in-Ok.log c.in-Ok.entries) c.in-Ok.log.generation stood) refused.why w.why)
    c.open_list.ensures.refused

pub returns-in-Err-clause-refused : goal.returns-in-Err-clause-refused
returns-in-Err-clause-refused g c =
    not_opened g.F.LogFile g.V.Seal.Sealed.tells g.V.Seal.Sealed.bytes (g.V.Vault.held c.args.vault) c.args.files c.in-Err.refused.files c.in-Err.refused.why _ c.from.ensures c.in-Err.ensures.refused

pub returns-in-Err-clause-during : goal.returns-in-Err-clause-during
returns-in-Err-clause-during g c = read_during g.F.LogFile g.V.Seal.Sealed.tells g.V.Seal.Sealed.bytes (g.V.Vault.held c.args.vault) c.args.files c.in-Err.refused.files c.in-Err.ensures.refused.during

pub returns-in-Err-clause-sound : goal.returns-in-Err-clause-sound
returns-in-Err-clause-sound g c told seals params book sound =
    place_of g.F.LogFile g.met.F.LogFile.reads_an_image told c.in-Err.refused.files (g.V.Vault.held c.args.vault) params book
    (refused_kept g.F.LogFile g.V.Seal.Sealed.tells g.V.Seal.Sealed.bytes (g.V.Vault.held c.args.vault) c.args.files params book told sound c.in-Err.refused.files c.in-Err.ensures.refused.during)

pub returns-in-Err-clause-kept : goal.returns-in-Err-clause-kept
returns-in-Err-clause-kept g c told seals params book sound =
    kept_during g.F.LogFile g.V.Seal.Sealed.tells g.V.Seal.Sealed.bytes (g.V.Vault.held c.args.vault) c.args.files params book told sound seals c.in-Err.refused.files (read_during g.F.LogFile g.V.Seal.Sealed.tells g.V.Seal.Sealed.bytes (g.V.Vault.held c.args.vault) c.args.files c.in-Err.refused.files c.in-Err.ensures.refused.during)
