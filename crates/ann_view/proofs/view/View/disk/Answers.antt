use Rattle.std.proofs.Common.{◌≡◌, List, ℕ, ◌∙◌, sym, ap, subst}
use Rattle.std.specs.Arc.{arc_value}
use Rattle.std.specs.Option.{option_map}
use Rattle.ann_types.specs.declared.params.Params.{Params}
use Rattle.ann_pq.specs.Codebook.{CodebookView}
use Rattle.ann_beam.specs.Ranking.{RankingView}
use Rattle.ann_beam.specs.Quest.{Quest, Fits, quest_of}
use Rattle.ann_beam.proofs.Searches.{searched_ok, searched_err}
use Rattle.ann_view.specs.View.{IndexView, IsView, shown}
use Rattle.ann_view.specs.Search.{quest_in}
use Rattle.ann_view.proofs.Whole.{view_answers}
use Rattle.ann_view.proofs.view.View.disk.Goals as goal

pub add_long_term-requires-clause-limit : goal.add_long_term-requires-clause-limit
add_long_term-requires-clause-limit g c = ap (λ (r : RankingView). r.limit) c.requires.near

pub add_long_term-requires-clause-fits : goal.add_long_term-requires-clause-fits
add_long_term-requires-clause-fits g c =
    let own = c.self.inside in
    let view : IndexView g.row.S.Denot = shown own.temp own.book own.at own.next own.segment own.closed in
    let fits : Params → CodebookView → List ℕ → Type 0 = λ params book dead. Fits (quest_of (option_map arc_value own.segment) params book dead c.args.ask.now) in
    subst (λ (p : Params). fits p c.deref.result.now c.dead.result.now) (sym c.params-params.ensures)
    (subst (λ (b : CodebookView). fits own.temp.params b c.dead.result.now) (sym c.deref.ensures)
    (record { width = c.requires.width ∙ ap (λ (v : IndexView g.row.S.Denot). v.params.d) (sym c.self.view_is); book = c.self.invariant.book; codes = c.self.invariant.codes }))

quest_is : {S : Type 0} (quest : Params → CodebookView → List ℕ → Quest S) (params params' : Params) (book book' : CodebookView) (dead dead' : List ℕ) (whole : Quest S) → params ≡ params' → book ≡ book' → dead ≡ dead' → quest params' book' dead' ≡ whole → quest params book dead ≡ whole
quest_is quest params params' book book' dead dead' whole p b d same =
    ap (λ (t : Params). quest t book dead) p ∙ ap (λ (t : CodebookView). quest params' t dead) b ∙ ap (quest params' book') d ∙ same

pub returns-clause-searched : goal.returns-clause-searched
returns-clause-searched g c =
    let own = c.self.inside in
    let same =
    quest_is (λ (params : Params) (book : CodebookView) (dead : List ℕ). quest_of (option_map arc_value own.segment) params book dead c.args.ask.now) c.params-params.result.now own.temp.params c.deref.result.now own.book.value c.dead.result.now own.temp.state.dead (quest_in c.args.self.now c.args.ask.now)
    c.params-params.ensures c.deref.ensures c.dead.ensures (ap (λ (v : IndexView g.row.S.Denot). quest_in v c.args.ask.now) c.self.view_is) in
    searched_ok _ _ _ _ _ _ _ _ same c.in_ok-add_long_term.ensures.searched

pub returns-in_err-add_long_term-clause-searched : goal.returns-in_err-add_long_term-clause-searched
returns-in_err-add_long_term-clause-searched g c =
    let own = c.self.inside in
    let same =
    quest_is (λ (params : Params) (book : CodebookView) (dead : List ℕ). quest_of (option_map arc_value own.segment) params book dead c.args.ask.now) c.params-params.result.now own.temp.params c.deref.result.now own.book.value c.dead.result.now own.temp.state.dead (quest_in c.args.self.now c.args.ask.now)
    c.params-params.ensures c.deref.ensures c.dead.ensures (ap (λ (v : IndexView g.row.S.Denot). quest_in v c.args.ask.now) c.self.view_is) in
    searched_err {T = Unit {0}} _ _ _ _ _ _ _ c.from_residual.result same c.from_residual.ensures.1 c.in_err-add_long_term.ensures.searched

pub returns-clause-answered : goal.returns-clause-answered
returns-clause-answered g c = λ tells.
    view_answers g.S.Sealed.bytes c.args.self.now c.args.ask.now (subst (λ (v : IndexView g.row.S.Denot). IsView v) c.self.view_is c.self.invariant) _ _ c.requires.near (λ lti holds. (returns-clause-searched g c).found.held tells lti holds)
