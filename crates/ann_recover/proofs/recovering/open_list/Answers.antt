use Rattle.std.proofs.Common.{sym, subst}
use Rattle.ann_log.specs.Pairs.{EachPair}
use Rattle.ann_recover.specs.Places.{StandKept}
use Rattle.ann_recover.proofs.recovering.open_list.Goals as goal

pub returns-in-Err-clause-sound : goal.returns-in-Err-clause-sound
returns-in-Err-clause-sound g c told seals kept =
    subst (λ f. EachPair g.F.LogFile.unsynced (StandKept (g.V.Vault.held c.revive.new.vault) c.args.log.params c.args.log.book) f) (sym c.into_files.ensures) (c.revive.ensures.sound told seals kept)
