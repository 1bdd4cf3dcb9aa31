use Rattle.std.proofs.Common.{◌≡◌, ◌∙◌, sym, ap, subst}
use Rattle.ann_pq.specs.Codebook.{CodebookView}
use Rattle.ann_beam.specs.Ranking.{RankingView}
use Rattle.ann_beam.specs.Quest.{Fits, quest_of}
use Rattle.ann_beam.proofs.Searches.{searched_ok, searched_err}
use Rattle.ann_view.specs.Pinned.{PinnedView, kept}
use Rattle.ann_view.specs.Search.{quest_by}
use Rattle.ann_view.proofs.Whole.{pin_answers}
use Rattle.ann_view.proofs.pinned.Pinned.disk.Goals as goal

pub add_long_term-requires-clause-limit : goal.add_long_term-requires-clause-limit
add_long_term-requires-clause-limit g c = ap (λ (r : RankingView). r.limit) c.requires.near.1.near

pub add_long_term-requires-clause-fits : goal.add_long_term-requires-clause-fits
add_long_term-requires-clause-fits g c =
    let own = kept c.self.inside.params c.self.inside.book c.self.inside.at c.self.inside.dead c.self.inside.segment in
    subst (λ (b : CodebookView). Fits (quest_of own.segment own.params b own.dead c.args.ask.now)) (sym c.deref.ensures)
    (record { width = c.requires.width ∙ ap (λ (p : PinnedView g.row.S.Denot). p.params.d) (sym c.self.view_is); book = c.self.invariant.book; codes = c.self.invariant.codes })

pub returns-clause-searched : goal.returns-clause-searched
returns-clause-searched g c =
    let own = kept c.self.inside.params c.self.inside.book c.self.inside.at c.self.inside.dead c.self.inside.segment in
    let same : quest_of own.segment own.params c.deref.result.now own.dead c.args.ask.now ≡ quest_by c.args.self c.args.ask.now =
    ap (λ (b : CodebookView). quest_of own.segment own.params b own.dead c.args.ask.now) c.deref.ensures ∙ ap (λ (p : PinnedView g.row.S.Denot). quest_by p c.args.ask.now) c.self.view_is in
    searched_ok _ _ _ _ _ _ _ _ same c.in_ok-add_long_term.ensures.searched

pub returns-in_err-add_long_term-clause-searched : goal.returns-in_err-add_long_term-clause-searched
returns-in_err-add_long_term-clause-searched g c =
    let own = kept c.self.inside.params c.self.inside.book c.self.inside.at c.self.inside.dead c.self.inside.segment in
    let same : quest_of own.segment own.params c.deref.result.now own.dead c.args.ask.now ≡ quest_by c.args.self c.args.ask.now =
    ap (λ (b : CodebookView). quest_of own.segment own.params b own.dead c.args.ask.now) c.deref.ensures ∙ ap (λ (p : PinnedView g.row.S.Denot). quest_by p c.args.ask.now) c.self.view_is in
    searched_err {T = Unit {0}} _ _ _ _ _ _ _ c.from_residual.result same c.from_residual.ensures.1 c.in_err-add_long_term.ensures.searched

pub returns-clause-answered : goal.returns-clause-answered
returns-clause-answered g c = λ tells view near.
    pin_answers g.S.Sealed.bytes view c.args.ask.now c.args.self _ _ near (λ lti holds. (returns-clause-searched g c).found.held tells lti holds)
