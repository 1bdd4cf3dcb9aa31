use Rattle.std.proofs.Common.{◌<◌, ◌∷◌, [], length, sym, ap, subst, ◌∙◌}
use Rattle.ann_reopen.specs.Gone.{gone_by}
use Rattle.ann_tags.specs.Tags.{Pids}
use Rattle.ann_account.specs.Account.{AccountView, HasRoom}
use Rattle.ann_account.specs.Entered.{waits}
use Rattle.ann_account.specs.Steps.{IsNoted, IsStep, StillLead}
use Rattle.ann_account.proofs.Entering.{can_enter, room_there, room_left, at_next}
use Rattle.ann_account.proofs.Leading.{brings, can_be_made, is_step, noted_one, still_one}
use Rattle.ann_account.proofs.account.Account.note.Goals as goal

pub enter-requires : goal.enter-requires
enter-requires g c = record {
  fits = record {
    long = c.requires.long;
    kind = can_enter c.requires.legal.0 c.requires.legal.1 c.args.self.now c.args.entry c.requires.legal.2 c.requires.room;
  };
}

pub operation-requires : goal.operation-requires
operation-requires g c =
    let can = c.requires.legal.2 in
    can_be_made c.requires.legal.0 c.requires.legal.1 c.gone-gone.result c.args.entry can.legal c.requires.end
    (c.gone-gone.ensures ∙ ap (λ (m : Pids). gone_by m c.args.entry) can.account_is.tags)

pub wait-requires : goal.wait-requires
wait-requires g c = subst (λ (a : AccountView _). length a.waiting < a.room) (sym c.enter.ensures) (room_there c.args.self.now c.args.entry c.requires.room)

pub returns-clause-noted : goal.returns-clause-noted
returns-clause-noted g c index h can =
    let step : IsStep index h c.operation.result c.args.entry =
    is_step index h c.gone-gone.result c.args.entry c.operation.result can.legal c.requires.end
    (c.gone-gone.ensures ∙ ap (λ (m : Pids). gone_by m c.args.entry) can.account_is.tags) c.operation.ensures in
    subst (IsNoted index h (c.args.entry ∷ []) c.args.self.now) (sym (c.wait.ensures ∙ ap (λ (a : AccountView _). waits a c.operation.result) c.enter.ensures))
    (noted_one index h c.args.self.now c.args.entry c.operation.result can step)

pub returns-clause-brings : goal.returns-clause-brings
returns-clause-brings g c index h can =
    let step : IsStep index h c.operation.result c.args.entry =
    is_step index h c.gone-gone.result c.args.entry c.operation.result can.legal c.requires.end
    (c.gone-gone.ensures ∙ ap (λ (m : Pids). gone_by m c.args.entry) can.account_is.tags) c.operation.ensures in
    subst (StillLead g.S.Sealed.bytes index h (c.args.entry ∷ []) c.args.self.now) (sym (c.wait.ensures ∙ ap (λ (a : AccountView _). waits a c.operation.result) c.enter.ensures))
    (still_one index h c.args.self.now c.args.entry c.operation.result can step g.S.Sealed.bytes (brings g.S.Sealed.bytes index h c.gone-gone.result c.args.entry c.operation.result c.operation.ensures))

pub returns-clause-room : goal.returns-clause-room
returns-clause-room g c more room =
    subst (HasRoom more) (sym (c.wait.ensures ∙ ap (λ (a : AccountView _). waits a c.operation.result) c.enter.ensures)) (room_left c.args.self.now c.args.entry c.operation.result more room)

pub returns-clause-at : goal.returns-clause-at
returns-clause-at g c = ap (λ (a : AccountView _). a.at) (c.wait.ensures ∙ ap (λ (a : AccountView _). waits a c.operation.result) c.enter.ensures) ∙ at_next c.args.self.now c.args.entry
