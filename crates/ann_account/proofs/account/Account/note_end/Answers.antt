use Rattle.std.proofs.Common.{◌<◌, ℕ, ◌∷◌, [], length, sym, ap, subst, ◌∙◌}
use Rattle.ann_types.specs.declared.entry.Entry.{Entry}
use Rattle.ann_types.specs.declared.entry.Entry.TheVariants.{End}
use Rattle.ann_view.specs.declared.op.Op.TheVariants as op
use Rattle.ann_account.specs.Account.{AccountView}
use Rattle.ann_account.specs.Entered.{entered, waits}
use Rattle.ann_account.specs.Steps.{IsNoted, StillLead}
use Rattle.ann_account.proofs.Entering.{room_there}
use Rattle.ann_account.proofs.Leading.{end_step, end_brings, noted_one, still_one}
use Rattle.ann_account.proofs.account.Account.note_end.Goals as goal

pub wait-requires : goal.wait-requires
wait-requires g c =
    subst (λ (a : AccountView _). length a.waiting < a.room) (sym c.enter.ensures) (room_there c.args.self.now (End c.args.by c.number-number.result) c.requires.room)

pub returns-clause-noted : goal.returns-clause-noted
returns-clause-noted g c index h may =
    let e : Entry = End c.args.by c.args.segment.value.number in
    subst (IsNoted index h (e ∷ []) c.args.self.now)
    (sym (c.wait.ensures ∙ ap (λ (a : AccountView _). waits a (op.End c.args.segment)) c.enter.ensures ∙ ap (λ (n : ℕ). waits (entered c.args.self.now (End c.args.by n)) (op.End c.args.segment)) c.number-number.ensures))
    (noted_one index h c.args.self.now e (op.End c.args.segment) may.note (end_step index h c.args.by c.args.segment c.args.self.now may))

pub returns-clause-brings : goal.returns-clause-brings
returns-clause-brings g c index h may holds =
    let e : Entry = End c.args.by c.args.segment.value.number in
    subst (StillLead g.S.Sealed.bytes index h (e ∷ []) c.args.self.now)
    (sym (c.wait.ensures ∙ ap (λ (a : AccountView _). waits a (op.End c.args.segment)) c.enter.ensures ∙ ap (λ (n : ℕ). waits (entered c.args.self.now (End c.args.by n)) (op.End c.args.segment)) c.number-number.ensures))
    (still_one index h c.args.self.now e (op.End c.args.segment) may.note (end_step index h c.args.by c.args.segment c.args.self.now may) g.S.Sealed.bytes (end_brings g.S.Sealed.bytes index h c.args.segment holds))
