use Rattle.std.proofs.Common.{inr, subst, rules}
use Rattle.ann_log.specs.LogView.{files_of, held_of}
use Rattle.ann_log.specs.Renewed.{renewed, IsOldOrNew}
use Rattle.ann_log.specs.Text.{StandsFor}
use Rattle.ann_log.proofs.Pairs.{joined_pairs, weaker_pairs}
use Rattle.ann_log.proofs.Renewing.{renewed_then, failed_then, kept_then}
use Rattle.ann_log.proofs.log.Log.renew.Goals as goal

pub returns-in_err-write_other-clause-refused : goal.returns-in_err-write_other-clause-refused
returns-in_err-write_other-clause-refused g c =
    let is = c.in_err-write_other.ensures.kept in
    let kept = kept_then g.F.LogFile c.args.self.now c.args.base.now c.args.tail.now c.write_other.new.self is in
    search (rules, kept)

pub returns-clause-renewed : goal.returns-clause-renewed
returns-clause-renewed g c =
    renewed_then g.F.LogFile c.args.self.now c.args.base.now c.args.tail.now c.write_other.new.self c.cut_other.new.self c.cut_other.result
    c.in_ok-write_other.ensures.turned c.cut_other.ensures.same c.cut_other.ensures.cut

pub returns-clause-refused : goal.returns-clause-refused
returns-clause-refused g c =
    failed_then g.F.LogFile c.args.self.now c.args.base.now c.args.tail.now c.write_other.new.self c.cut_other.new.self c.cut_other.result
    c.in_ok-write_other.ensures.turned c.cut_other.ensures.same c.cut_other.ensures.cause

pub returns-clause-during : goal.returns-clause-during
returns-clause-during g c told =
    let D = g.F.LogFile in
    let old = held_of c.args.self.now in
    let next = renewed old c.args.base.now c.args.tail.now in
    let mid = c.write_other.new.self in
    let new = c.cut_other.new.self in
    let is = c.in_ok-write_other.ensures.turned.renewed told in
    joined_pairs D.past D.unsynced (files_of c.args.self.now) (files_of mid) (files_of new) (IsOldOrNew old next) (c.write_other.ensures.during told)
    (weaker_pairs D.past D.unsynced (files_of mid) (files_of new) (StandsFor (held_of mid)) (IsOldOrNew old next) (λ a b stands. inr (subst (λ h. StandsFor h a b) is stands)) (c.cut_other.ensures.during told))
