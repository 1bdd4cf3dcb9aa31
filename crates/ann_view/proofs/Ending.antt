-- A segment may end a merge where its Pids are older than the merge's Begin. It is for whoever applies an End.
use Rattle.std.proofs.Common.{◌≡◌, ℕ, ◌≤◌, ◌<◌, refl, sym, ap, ◌∙◌, subst, arith}
use Rattle.std.specs.Prelude.{Option, Some, IsSome, All}
use Rattle.std.specs.List.{AllByRecursion}
use Rattle.std.proofs.lemmas.List.Elements.{All-from_recursion}
use Rattle.ann_types.specs.Graph.{Point, empty_graph}
use Rattle.ann_types.specs.Lists.{BasedList, next_pid, upto}
use Rattle.ann_types.specs.Fold.{Begun, State, all_points, switched, fold_of}
use Rattle.ann_types.specs.Legal.{IsLegal}
use Rattle.ann_types.proofs.Alive.{behind}
use Rattle.ann_types.proofs.Sets.{all_weaker}
use Rattle.ann_laws.proofs.Newer.{behind_newer, next_upto}
use Rattle.ann_segment.specs.Directory.{Item}
use Rattle.ann_segment.specs.Segment.{SegmentView}
use Rattle.ann_view.specs.View.{IndexView, index_of}
use Rattle.ann_view.specs.Steps.{ended, MayEnd}
use Rattle.ann_view.specs.Stands.{StandsFor}

module _ {S : Type 0} (view : IndexView S) (h : BasedList) (b : Begun) (segment : SegmentView S) (stands : StandsFor view h) (legal : IsLegal (index_of view) h) (begun : (fold_of (index_of view) h).begun ≡ Some b) where
  -- the Pids from this one on are those of points since the Begin
  abbrev bound : ℕ
  bound = next_pid (upto h b.position)

  open_merge : view.memory.begun ≡ Some b
  open_merge = sym (ap (λ (s : State). s.begun) stands.state) ∙ begun

  newer : AllByRecursion (λ (y : Point). bound ≤ y.pid) (behind view.memory b)
  newer = subst (λ (s : State). AllByRecursion (λ (y : Point). bound ≤ y.pid) (behind s b)) stands.state (behind_newer (index_of view) h b legal begun)

  older : (p : ℕ) → p < bound → All (λ (y : Point). p < y.pid) (all_points (ended view.memory))
  older p less =
      All-from_recursion (λ (y : Point). p < y.pid) (all_points (ended view.memory))
      (subst (λ (o : Option Begun). AllByRecursion (λ (y : Point). p < y.pid) (all_points (switched view.memory empty_graph o))) (sym open_merge)
      (all_weaker (λ (y : Point). bound ≤ y.pid) (λ (y : Point). p < y.pid) (behind view.memory b) (λ y l. omega arith) newer))

  pub may_end_from : segment.m ≡ view.params.m → All (λ (x : Item). x.0 < next_pid (upto h b.position)) segment.items → MayEnd view segment
  may_end_from sized below = record {
    begun = subst (λ (o : Option Begun). IsSome o) (sym open_merge) refl;
    code_bytes = sized;
    below = λ k d l. let first = next_upto h b.position in let less = below k d l in let next = stands.next in omega arith;
    older = λ k d l. older _ (below k d l);
  }
