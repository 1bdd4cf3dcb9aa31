use Rattle.std.proofs.Common.{◌≡◌, List, [], ℕ, sym, ap, ◌∙◌, subst, length}
use Rattle.ann_types.specs.declared.new_point.NewPoint.{NewPoint}
use Rattle.ann_types.specs.declared.params.Params.{Params}
use Rattle.ann_pq.specs.Codebook.{CodebookView}
use Rattle.ann_view.specs.View.{IndexView, shown}
use Rattle.ann_view.specs.Collected.{AddsSegment, HasBegun, HasCollected, IsUncollected, StopsInSegment, counts_of, gathering}
use Rattle.ann_view.specs.declared.collect_refused.CollectRefused.TheVariants.{Memory}
use Rattle.ann_view.proofs.Collecting.{on_err, uncollected_as}
use Rattle.ann_view.proofs.Collects.{begun_at_row, begun_in_memory, collected, reads_of}
use Rattle.ann_view.proofs.view.View.collect.Goals as goal

-- a fact of the parameters and the deleted points that were read is one of the view's
of_view : (P : Params → List ℕ → List NewPoint → Type 0) (params params' : Params) (dead dead' : List ℕ) (first : List NewPoint) → params ≡ params' → dead ≡ dead' → first ≡ [] → P params dead first → P params' dead' []
of_view P params params' dead dead' first p d f w =
    subst (λ (t : List NewPoint). P params' dead' t) f (subst (λ (t : List ℕ). P params' t first) d (subst (λ (t : Params). P t dead first) p w))

pub returns-in_err-add_segment-clause-begun : goal.returns-in_err-add_segment-clause-begun
returns-in_err-add_segment-clause-begun g c =
    let own = c.self.inside in
    let view : IndexView g.row.S.Denot = shown own.temp own.book own.at own.next own.segment own.closed in
    let parts : length view.book.book ≡ view.params.m = ap (λ (b : CodebookView). length b.book) (sym c.deref.ensures) ∙ c.known.ensures.book.count ∙ ap (λ (b : CodebookView). b.m) c.deref.ensures ∙ c.self.invariant.book.1 in
    on_err c.from_residual.result
    (subst (λ (v : IndexView g.row.S.Denot). HasBegun g.S.Sealed.tells g.S.Sealed.bytes v c.add_segment.new.out) c.self.view_is
    (begun_at_row g.S.Sealed.tells g.S.Sealed.bytes view c.self.invariant.memory.lti parts view.segment c.add_segment.new.out
    (of_view (λ (p : Params) (d : List ℕ) (t : List NewPoint). StopsInSegment g.S.Sealed.tells g.S.Sealed.bytes view.segment p d t c.add_segment.new.out) c.params-params.result.now own.temp.params c.dead-dead.result.now own.temp.state.dead c.clear.new.self c.params-params.ensures c.dead-dead.ensures c.clear.ensures c.in_err-add_segment.ensures.stopped)))

pub returns-in_err-collect-clause-begun : goal.returns-in_err-collect-clause-begun
returns-in_err-collect-clause-begun g c =
    let own = c.self.inside in
    let view : IndexView g.row.S.Denot = shown own.temp own.book own.at own.next own.segment own.closed in
    let parts : length view.book.book ≡ view.params.m = ap (λ (b : CodebookView). length b.book) (sym c.deref.ensures) ∙ c.known.ensures.book.count ∙ ap (λ (b : CodebookView). b.m) c.deref.ensures ∙ c.self.invariant.book.1 in
    on_err c.from_residual-in_err-collect.result
    (subst (λ (v : IndexView g.row.S.Denot). HasBegun g.S.Sealed.tells g.S.Sealed.bytes v c.collect.new.out) c.self.view_is
    (begun_in_memory g.S.Sealed.tells g.S.Sealed.bytes view c.self.invariant.memory.lti parts view.segment c.add_segment.new.out c.collect.new.out
    (counts_of (g.E.Eye.reads c.args.eye.now) (g.E.Eye.faults c.args.eye.now)) (counts_of (g.E.Eye.reads c.add_segment.new.eye) (g.E.Eye.faults c.add_segment.new.eye))
    (of_view (λ (p : Params) (d : List ℕ) (t : List NewPoint). AddsSegment g.S.Sealed.tells g.S.Sealed.bytes view.segment p d (gathering t (g.E.Eye.reads c.args.eye.now) (g.E.Eye.faults c.args.eye.now)) (gathering c.add_segment.new.out (g.E.Eye.reads c.add_segment.new.eye) (g.E.Eye.faults c.add_segment.new.eye))) c.params-params.result.now own.temp.params c.dead-dead.result.now own.temp.state.dead c.clear.new.self c.params-params.ensures c.dead-dead.ensures c.clear.ensures c.in_ok-add_segment.ensures.added)
    c.in_err-collect.ensures.begun))

pub returns-in_err-collect-clause-refused : goal.returns-in_err-collect-clause-refused
returns-in_err-collect-clause-refused g c =
    let own = c.self.inside in
    let view : IndexView g.row.S.Denot = shown own.temp own.book own.at own.next own.segment own.closed in
    let parts : length view.book.book ≡ view.params.m = ap (λ (b : CodebookView). length b.book) (sym c.deref.ensures) ∙ c.known.ensures.book.count ∙ ap (λ (b : CodebookView). b.m) c.deref.ensures ∙ c.self.invariant.book.1 in
    uncollected_as (IsUncollected g.S.Sealed.tells g.S.Sealed.bytes c.args.self.now.segment c.args.self.now.params (counts_of (g.E.Eye.reads c.args.eye.now) (g.E.Eye.faults c.args.eye.now)) (counts_of (g.E.Eye.reads c.add_segment.new.eye) (g.E.Eye.faults c.add_segment.new.eye)))
    c.from_residual-in_err-collect.result Memory c.from_residual-in_err-collect.ensures.1
    (reads_of g.S.Sealed.tells g.S.Sealed.bytes view c.self.invariant.memory.lti parts view.segment c.add_segment.new.out
    (counts_of (g.E.Eye.reads c.args.eye.now) (g.E.Eye.faults c.args.eye.now)) (counts_of (g.E.Eye.reads c.add_segment.new.eye) (g.E.Eye.faults c.add_segment.new.eye))
    (of_view (λ (p : Params) (d : List ℕ) (t : List NewPoint). AddsSegment g.S.Sealed.tells g.S.Sealed.bytes view.segment p d (gathering t (g.E.Eye.reads c.args.eye.now) (g.E.Eye.faults c.args.eye.now)) (gathering c.add_segment.new.out (g.E.Eye.reads c.add_segment.new.eye) (g.E.Eye.faults c.add_segment.new.eye))) c.params-params.result.now own.temp.params c.dead-dead.result.now own.temp.state.dead c.clear.new.self c.params-params.ensures c.dead-dead.ensures c.clear.ensures c.in_ok-add_segment.ensures.added))

pub returns-clause-collected : goal.returns-clause-collected
returns-clause-collected g c =
    let own = c.self.inside in
    let view : IndexView g.row.S.Denot = shown own.temp own.book own.at own.next own.segment own.closed in
    let parts : length view.book.book ≡ view.params.m = ap (λ (b : CodebookView). length b.book) (sym c.deref.ensures) ∙ c.known.ensures.book.count ∙ ap (λ (b : CodebookView). b.m) c.deref.ensures ∙ c.self.invariant.book.1 in
    subst (λ (v : IndexView g.row.S.Denot). HasCollected g.S.Sealed.tells g.S.Sealed.bytes v c.collect.new.out (counts_of (g.E.Eye.reads c.args.eye.now) (g.E.Eye.faults c.args.eye.now)) (counts_of (g.E.Eye.reads c.add_segment.new.eye) (g.E.Eye.faults c.add_segment.new.eye))) c.self.view_is
    (collected g.S.Sealed.tells g.S.Sealed.bytes view c.self.invariant.memory.lti parts view.segment c.add_segment.new.out c.collect.new.out
    (counts_of (g.E.Eye.reads c.args.eye.now) (g.E.Eye.faults c.args.eye.now)) (counts_of (g.E.Eye.reads c.add_segment.new.eye) (g.E.Eye.faults c.add_segment.new.eye))
    (of_view (λ (p : Params) (d : List ℕ) (t : List NewPoint). AddsSegment g.S.Sealed.tells g.S.Sealed.bytes view.segment p d (gathering t (g.E.Eye.reads c.args.eye.now) (g.E.Eye.faults c.args.eye.now)) (gathering c.add_segment.new.out (g.E.Eye.reads c.add_segment.new.eye) (g.E.Eye.faults c.add_segment.new.eye))) c.params-params.result.now own.temp.params c.dead-dead.result.now own.temp.state.dead c.clear.new.self c.params-params.ensures c.dead-dead.ensures c.clear.ensures c.in_ok-add_segment.ensures.added)
    c.in_ok-collect.ensures.added)
