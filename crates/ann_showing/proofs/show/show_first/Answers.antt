use Rattle.std.proofs.Common.{[], refl, sym, subst}
use Rattle.ann_showing.specs.Showing.{Follows}
use Rattle.ann_showing.proofs.Stepping.{follow_step, shown_one}
use Rattle.ann_showing.proofs.show.show_first.Goals as goal

pub returns-in_err-apply-clause-follows : goal.returns-in_err-apply-clause-follows
returns-in_err-apply-clause-follows g c sound h shown f =
    (shown, subst (λ v. Follows g.F.LogFile g.S.Sealed.bytes sound h shown c.args.journal.now v) (sym c.in_err-apply.ensures.refused) f)

pub returns-clause-follows : goal.returns-clause-follows
returns-clause-follows g c sound h shown f =
    follow_step g.F.LogFile g.S.Sealed.bytes sound h shown c.args.journal.now c.args.view.now c.in-Some.op.now c.in-Some.ensures.0 c.apply.new.self
    (record {
      is = c.in_ok-apply.ensures.applied;
      stands = λ e is. c.in_ok-apply.ensures.stands shown e f.shows.stands is;
      holds = λ e is old brings. c.in_ok-apply.ensures.holds shown e f.shows.stands is old brings;
    })
    c.in-Some.ensures.1 c.showed.new.self c.showed.ensures.log c.showed.ensures.account f

pub returns-in_err-apply-clause-some : goal.returns-in_err-apply-clause-some
returns-in_err-apply-clause-some g c = record { log = refl; account = refl; shown = []; rest = refl }

pub returns-clause-some : goal.returns-clause-some
returns-clause-some g c = shown_one c.args.journal.now c.showed.new.self c.in-Some.op.now c.in-Some.ensures.0 c.in-Some.ensures.1 c.showed.ensures.log c.showed.ensures.account
