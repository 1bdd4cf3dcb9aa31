use Rattle.std.proofs.Common.{inl, inr, ⊎_elim}
use Rattle.ann_disk.proofs.Moments.{weaker, joined}
use Rattle.ann_log.specs.Anew.{IsFrontOrUnmade, IsUnmadeOrWhole, IsFrontOrWhole}
use Rattle.ann_log.proofs.write.rewrite.Goals as goal

pub returns-in_err-clear-clause-left : goal.returns-in_err-clear-clause-left
returns-in_err-clear-clause-left g c =
    let D = g.F.LogFile in
    let old = c.args.file.now in
    record {
      during = λ told. weaker D.past D.unsynced old c.clear.new.file (IsFrontOrUnmade (D.unsynced old)) (IsFrontOrWhole (D.unsynced old) c.args.d c.args.head.now c.args.tail.now) (λ bytes is. ⊎_elim (λ begins. inl begins) (λ unmade. inr (inl unmade)) is) (c.clear.ensures.during told);
      read = λ told unmade. inl (c.clear.ensures.unmade told unmade);
    }

pub returns-clause-left : goal.returns-clause-left
returns-clause-left g c =
    let D = g.F.LogFile in
    let old = c.args.file.now in
    let mid = c.clear.new.file in
    let new = c.fill_cleared.new.file in
    let P = IsFrontOrWhole (D.unsynced old) c.args.d c.args.head.now c.args.tail.now in
    record {
      during = λ told.
          let first = weaker D.past D.unsynced old mid (IsFrontOrUnmade (D.unsynced old)) P (λ bytes is. ⊎_elim (λ begins. inl begins) (λ unmade. inr (inl unmade)) is) (c.clear.ensures.during told) in
          let second = weaker D.past D.unsynced mid new (IsUnmadeOrWhole c.args.d c.args.head.now c.args.tail.now) P (λ bytes is. inr is) (c.fill_cleared.ensures.during told) in
          joined D.past D.unsynced old mid new P first second;
      read = λ told unmade. (c.fill_cleared.ensures.during told).now (D.seen new) (g.met.F.LogFile.reads_an_image new told);
    }
