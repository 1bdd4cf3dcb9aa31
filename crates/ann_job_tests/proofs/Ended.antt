-- A merge that ends directly behind its Begin leaves no point in memory.
use Rattle.std.proofs.Common.{◌≡◌, ℕ, ◌<◌, ◌≤◌, Bool, true, false, cond, eqb, List, [], ◌∷◌, ◌++◌, Option, Some, refl, sym, ap, subst, ◌∙◌, arith, length, drop, get_or, eqb-true}
use Rattle.std.specs.Prelude.{IsSome, All, flat_map}
use Rattle.std.proofs.lemmas.List.{drop_all}
use Rattle.ann_types.specs.Graph.{Point, Graph, empty_graph, is_empty}
use Rattle.ann_types.specs.Fold.{State, all_points, begun_at, frozen, opened}
use Rattle.ann_types.specs.declared.params.Params.{Params}
use Rattle.ann_segment.specs.Directory.{Item}
use Rattle.ann_segment.specs.Segment.{SegmentView}
use Rattle.ann_view.specs.View.{IndexView}
use Rattle.ann_view.specs.Steps.{ended, with_entry_more, MayEnd}

no_points : (xs : List Point) → length xs ≡ 0 → xs ≡ []
no_points [] none = refl
no_points (x ∷ xs) none = absurd (omega (arith, none))

-- the graph that takes points is empty behind a Begin
rw_empty : (s : State) (at : ℕ) → (begun_at s at).rw.points ≡ []
rw_empty s at =
    elim (is_empty s.rw) as (λ t. is_empty s.rw ≡ t → (opened (cond t s (frozen s s.rw)) at).rw.points ≡ []) [
      | true ↦ λ none. no_points s.rw.points (eqb-true (length s.rw.points) 0 none)
      | false ↦ λ _. refl
    ] refl

none_left : (s : State) (at : ℕ) → all_points (ended (begun_at s at)) ≡ []
none_left s at =
    let m : State = begun_at s at in
    let gone : drop (length m.ros) m.ros ≡ [] = drop_all (length m.ros) m.ros (omega arith) in
    ap (λ (gs : List Graph). flat_map (λ (g : Graph). g.points) gs ++ m.rw.points) gone ∙ rw_empty s at

none_newer : (p : ℕ) → All (λ (y : Point). p < y.pid) []
none_newer p i e w = absurd (omega (arith, w))

-- so each segment whose Pids are below the next one may end it
pub may_end : {S : Type 0} (old new : IndexView S) (params : Params) (segment : SegmentView S) → new ≡ with_entry_more old (begun_at old.memory old.at) → old.params ≡ params → segment.m ≡ params.m → All (λ (x : Item). x.0 < new.next) segment.items → MayEnd new segment
may_end old new params segment is same sized below = record {
  begun = subst (λ (v : IndexView _). IsSome v.memory.begun) (sym is) refl;
  code_bytes = sized ∙ ap (λ (p : Params). p.m) (sym same) ∙ ap (λ (v : IndexView _). v.params.m) (sym is);
  below = below;
  older = λ k d l.
      subst (λ (v : IndexView _). All (λ (y : Point). (get_or segment.items k d).0 < y.pid) (all_points (ended v.memory))) (sym is)
      (subst (λ (ps : List Point). All (λ (y : Point). (get_or segment.items k d).0 < y.pid) ps) (sym (none_left old.memory old.at)) (none_newer (get_or segment.items k d).0));
}
