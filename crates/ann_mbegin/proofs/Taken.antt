-- What is taken from a view makes a merge, and is what the job of its list takes.
use Rattle.std.proofs.Common.{◌≡◌, ◌≢◌, ℕ, ◌+◌, ◌*◌, ◌<◌, List, ◌++◌, map, take, refl, sym, ap, ap₂, ◌∙◌, subst, arith, append_assoc}
use Rattle.std.specs.Prelude.{Option, Some, None, MatchOption, All}
use Rattle.std.specs.List.Sorted.{IsStrictlyIncreasing}
use Rattle.std.proofs.lemmas.List.Elements.{All-from_recursion, recursion_from_All}
use Rattle.ann_types.specs.Graph.{Graph, pids_of}
use Rattle.ann_types.specs.Lists.{BasedList, next_pid, upto}
use Rattle.ann_types.specs.Fold.{Begun, State, fold_of}
use Rattle.ann_types.specs.Legal.{pid_end}
use Rattle.ann_types.specs.declared.params.Params.{Params}
use Rattle.ann_types.proofs.Alive.{behind, frozen_points as points_in}
use Rattle.ann_types.proofs.Sets.{all_left, all_weaker, increasing_from_rises, rises_from_increasing, rises_left}
use Rattle.ann_pq.specs.Codebook.{CodebookView}
use Rattle.ann_frozen.specs.Frozen.{FrozenView}
use Rattle.ann_table.specs.Node.{graph_of}
use Rattle.ann_segment.specs.Directory.{Item}
use Rattle.ann_segment.specs.Segment.{SegmentView}
use Rattle.ann_view.specs.View.{IndexView, IsView, index_of, pids_in, segment_pids}
use Rattle.ann_view.specs.Stands.{StandsFor}
use Rattle.ann_view.specs.Holding.{HoldsGraph}
use Rattle.ann_mlaws.specs.Plan.{IsLti}
use Rattle.ann_mlaws.specs.Rows.{HasCodes, old_items}
use Rattle.ann_merge.specs.Gathered.{all_pids, frozen_points}
use Rattle.ann_merge.specs.Job.{IsOrder, Order}
use Rattle.ann_named.specs.Named.{IsNamed, AreBelow, IsCurrent}
use Rattle.ann_mbegin.specs.Begun.{IsJobOf, IsNumberedBelow}
use Rattle.ann_mbegin.specs.Taken.{IsTaken, IsTakenFrom, OpensAt}
use Rattle.ann_mbegin.proofs.Before.{pids_split, taken_pids}
use Rattle.ann_mbegin.proofs.Ended.{points_of_graphs}

items_of : {S : Type 0} (segment : Option (SegmentView S)) → segment_pids segment ≡ map (λ (item : Item). item.0) (old_items segment)
items_of None = refl
items_of (Some segment) = refl

another : {S : Type 0} (number : ℕ) (segment : Option (SegmentView S)) → IsNumberedBelow number segment → MatchOption segment (Unit {0}) (λ s. number ≢ s.number)
another number None below = tt
another number (Some segment) below = λ same. omega arith

module _ {S : Type 0} (view : IndexView S) (book : CodebookView) (order : Order S) where
  -- ---- from one Begin

  module _ (w : IsView view) (b : Begun) (t : IsTakenFrom view book b order) where
    pids_are : pids_in view.segment view.memory ≡ all_pids (old_items order.old) order.frozen ++ pids_of (behind view.memory b)
    pids_are =
        let items : List ℕ = map (λ (item : Item). item.0) (old_items order.old) in
        let taken : List ℕ = pids_of (frozen_points order.frozen) in
        let old : segment_pids view.segment ≡ items = items_of view.segment ∙ ap (λ (o : Option (SegmentView S)). map (λ (item : Item). item.0) (old_items o)) (sym t.old) in
        let graphs : taken_pids view.memory b ≡ taken = sym (ap pids_of (points_of_graphs order.frozen ∙ ap points_in t.frozen)) in
        ap₂ ◌++◌ old (pids_split view.memory b ∙ ap (λ (g : Graph). (pids_of g.points ++ taken_pids view.memory b) ++ pids_of (behind view.memory b)) w.memory.lti ∙ ap (λ x. x ++ pids_of (behind view.memory b)) graphs)
        ∙ sym (append_assoc items taken (pids_of (behind view.memory b)))

    rising : IsStrictlyIncreasing (all_pids (old_items order.old) order.frozen)
    rising =
        let all : List ℕ = all_pids (old_items order.old) order.frozen in
        increasing_from_rises all (rises_left all (pids_of (behind view.memory b)) (rises_from_increasing (all ++ pids_of (behind view.memory b)) (subst IsStrictlyIncreasing pids_are w.rising)))

    small : All (λ p. p < pid_end) (all_pids (old_items order.old) order.frozen)
    small =
        let all : List ℕ = all_pids (old_items order.old) order.frozen in
        let rest : List ℕ = pids_of (behind view.memory b) in
        let most = w.next in
        All-from_recursion (λ p. p < pid_end) all
        (all_weaker (λ p. p < view.next) (λ p. p < pid_end) all (λ p less. omega arith)
        (all_left (λ p. p < view.next) all rest (recursion_from_All (λ p. p < view.next) (all ++ rest) (subst (All (λ p. p < view.next)) pids_are w.below))))

    order_from : (position : ℕ) → b.position ≡ position → IsNumberedBelow (2 * position + 1) view.segment → (book.d ≡ view.params.d) × (book.m ≡ view.params.m) → All (λ (f : FrozenView). f.params ≡ view.params) order.frozen → IsOrder order
    order_from position at below sizes graphs = record {
      sizes = (
        ap (λ (c : CodebookView). c.d) t.book ∙ sizes.0 ∙ sym (ap (λ (p : Params). p.d) t.params),
        ap (λ (c : CodebookView). c.m) t.book ∙ sizes.1 ∙ sym (ap (λ (p : Params). p.m) t.params),
      );
      codes = subst (λ (o : Option (SegmentView S)). HasCodes o order.params.m) (sym t.old) (subst (λ (p : Params). HasCodes view.segment p.m) (sym t.params) w.codes);
      other = (
          let number : 2 * position + 1 ≡ order.number = ap (λ n. 2 * n + 1) (sym at) ∙ sym t.number in
          subst (λ (o : Option (SegmentView S)). MatchOption o (Unit {0}) (λ s. order.number ≢ s.number)) (sym t.old)
          (another order.number view.segment (subst (λ n. IsNumberedBelow n view.segment) number below))
          );
      graphs = subst (λ (p : Params). All (λ (f : FrozenView). f.params ≡ p) order.frozen) (sym t.params) graphs;
      rising = rising;
      small = small;
    }

  job_from : (b : Begun) → view.memory.begun ≡ Some b → IsTakenFrom view book b order → book.book ≡ view.book.book → (h : BasedList) → StandsFor view h → IsCurrent (index_of view) h view.segment → IsJobOf (index_of view) h order
  job_from b open_merge t same h stands current =
      let open_now : (fold_of (index_of view) h).begun ≡ Some b = ap (λ (s : State). s.begun) stands.state ∙ open_merge in
      record {
        begun = b;
        open_now = open_now;
        numbered = t.number;
        of_index = (t.params, ap (λ (c : CodebookView). c.book) t.book ∙ same);
        gone = t.gone;
        frozen = t.frozen ∙ ap (λ (s : State). take b.frozen s.ros) (sym stands.state);
        named = subst (IsNamed h) (sym t.old) current.named;
        older = subst (AreBelow (next_pid (upto h b.position))) (sym t.old) (current.older b open_now);
      }

  lti_in : (bytes : S → List ℕ) (segment : Option (SegmentView S)) (lti : Graph) → HoldsGraph bytes (record view { segment = segment }) lti → IsLti bytes (index_of view) segment lti
  lti_in bytes None lti held = held
  lti_in bytes (Some segment) lti held = held

  -- ---- from the view

  taken_in : (o : Option Begun) (position : ℕ) → order.old ≡ view.segment → MatchOption o ⊥ (λ b. map (λ (f : FrozenView). graph_of f.nodes) order.frozen ≡ take b.frozen view.memory.ros) → MatchOption o ⊥ (λ b. order.gone ≡ b.gone) → order.number ≡ 2 * position + 1 → MatchOption o ⊥ (λ b. b.position ≡ position) → order.params ≡ view.params → order.book ≡ book → MatchOption o ⊥ (λ b. IsTakenFrom view book b order)
  taken_in None position old frozen gone number at params same = absurd at
  taken_in (Some b) position old frozen gone number at params same = record {
    old = old;
    frozen = frozen;
    gone = gone;
    number = number ∙ ap (λ n. 2 * n + 1) (sym at);
    params = params;
    book = same;
  }

  pub is_taken : (position : ℕ) → order.old ≡ view.segment → MatchOption view.memory.begun ⊥ (λ b. map (λ (f : FrozenView). graph_of f.nodes) order.frozen ≡ take b.frozen view.memory.ros) → MatchOption view.memory.begun ⊥ (λ b. order.gone ≡ b.gone) → order.number ≡ 2 * position + 1 → OpensAt view position → order.params ≡ view.params → order.book ≡ book → IsTaken view book order
  is_taken position old frozen gone number at params same = taken_in view.memory.begun position old frozen gone number at params same

  taken_order : (o : Option Begun) (position : ℕ) → IsView view → MatchOption o ⊥ (λ b. IsTakenFrom view book b order) → MatchOption o ⊥ (λ b. b.position ≡ position) → IsNumberedBelow (2 * position + 1) view.segment → (book.d ≡ view.params.d) × (book.m ≡ view.params.m) → All (λ (f : FrozenView). f.params ≡ view.params) order.frozen → IsOrder order
  taken_order None position w t at below sizes graphs = absurd t
  taken_order (Some b) position w t at below sizes graphs = order_from w b t position at below sizes graphs

  pub is_order : (position : ℕ) → IsView view → IsTaken view book order → OpensAt view position → IsNumberedBelow (2 * position + 1) view.segment → (book.d ≡ view.params.d) × (book.m ≡ view.params.m) → All (λ (f : FrozenView). f.params ≡ view.params) order.frozen → IsOrder order
  is_order position w t at below sizes graphs = taken_order view.memory.begun position w t at below sizes graphs

  taken_job : (o : Option Begun) → view.memory.begun ≡ o → MatchOption o ⊥ (λ b. IsTakenFrom view book b order) → book.book ≡ view.book.book → (h : BasedList) → StandsFor view h → IsCurrent (index_of view) h view.segment → IsJobOf (index_of view) h order
  taken_job None open_merge t same h stands current = absurd t
  taken_job (Some b) open_merge t same h stands current = job_from b open_merge t same h stands current

  pub is_job : IsTaken view book order → book.book ≡ view.book.book → (h : BasedList) → StandsFor view h → IsCurrent (index_of view) h view.segment → IsJobOf (index_of view) h order
  is_job t same h stands current = taken_job view.memory.begun refl t same h stands current

  pub is_lti : (bytes : S → List ℕ) → order.old ≡ view.segment → (lti : Graph) → HoldsGraph bytes view lti → IsLti bytes (index_of view) order.old lti
  is_lti bytes old lti held = subst (λ (o : Option (SegmentView S)). IsLti bytes (index_of view) o lti) (sym old) (lti_in bytes view.segment lti held)
