use Rattle.std.proofs.Common.{subst}
use Rattle.std.specs.FinMap.{get}
use Rattle.ann_mpatch.specs.Source.{source_of}
use Rattle.ann_types.specs.Index.{IsBookOf}
use Rattle.ann_merge.specs.Job.{IsMergeText, IsWorkRefused, LeavesNumber}
use Rattle.ann_merge.proofs.Sound.{stopped}
use Rattle.ann_merge.proofs.job.Job.work.Goals as goal

pub returns-then-eq-clause-refused : goal.returns-then-eq-clause-refused
returns-then-eq-clause-refused g c =
    let job = c.args.self.now in
    let bytes = g.S.Sealed.bytes in
    let tells = g.S.Sealed.tells in
    let why = c.in-Err.why in
    let vault = c.merge_by.new.vault in
    let book = subst (λ j. IsBookOf j.order.params j.order.book.book) c.self.view_is c.known.ensures in
    stopped tells bytes job.order g.E.Eye.reads g.E.Eye.faults (g.V.Vault.faults job.vault) (g.V.Vault.faults vault) job.eyes c.merge_by.new.eyes.items (g.V.Vault.held job.vault) (g.V.Vault.held vault) why book.parts
    (subst (λ j. IsWorkRefused g.E.Eye.reads g.E.Eye.faults tells (source_of bytes j.order.old) j.order.params (g.V.Vault.faults j.vault) (g.V.Vault.faults vault) j.eyes c.merge_by.new.eyes.items why) c.self.view_is c.in-Err.ensures.refused)
    (subst (λ j. tells → LeavesNumber (IsMergeText bytes j.order) (get (g.V.Vault.held j.vault) j.order.number) (get (g.V.Vault.held vault) j.order.number) why) c.self.view_is c.in-Err.ensures.ends)

pub returns-else-eq-clause-refused : goal.returns-else-eq-clause-refused
returns-else-eq-clause-refused g c =
    let job = c.args.self.now in
    let bytes = g.S.Sealed.bytes in
    let tells = g.S.Sealed.tells in
    let why = c.in-Err.why in
    let vault = c.merge_by.new.vault in
    let book = subst (λ j. IsBookOf j.order.params j.order.book.book) c.self.view_is c.known.ensures in
    stopped tells bytes job.order g.E.Eye.reads g.E.Eye.faults (g.V.Vault.faults job.vault) (g.V.Vault.faults vault) job.eyes c.merge_by.new.eyes.items (g.V.Vault.held job.vault) (g.V.Vault.held vault) why book.parts
    (subst (λ j. IsWorkRefused g.E.Eye.reads g.E.Eye.faults tells (source_of bytes j.order.old) j.order.params (g.V.Vault.faults j.vault) (g.V.Vault.faults vault) j.eyes c.merge_by.new.eyes.items why) c.self.view_is c.in-Err.ensures.refused)
    (subst (λ j. tells → LeavesNumber (IsMergeText bytes j.order) (get (g.V.Vault.held j.vault) j.order.number) (get (g.V.Vault.held vault) j.order.number) why) c.self.view_is c.in-Err.ensures.ends)
