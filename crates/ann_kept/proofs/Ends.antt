-- What a vault holds behind the End of a merge.
use Rattle.std.proofs.Common.{◌≡◌, ℕ, ◌≤◌, ◌<◌, ◌^◌, List, [], ◌∷◌, ◌++◌, map, length, append-nil, sym, ap, ◌∙◌, subst, arith}
use Rattle.std.specs.Prelude.{Some, Option}
use Rattle.std.specs.List.Sorted.{IsStrictlyIncreasing}
use Rattle.std.proofs.lemmas.List.{length-map}
use Rattle.ann_types.specs.Codes.{code}
use Rattle.ann_types.specs.Fold.{Begun, State, merge_of, switched, fold_of}
use Rattle.ann_types.specs.Graph.{Graph, Point, pids_of}
use Rattle.ann_types.specs.Index.{Index, IsBookOf}
use Rattle.ann_types.specs.Legal.{IsLegal, pid_end}
use Rattle.ann_types.specs.Lists.{BasedList, next_pid, with_entries, with_entry}
use Rattle.ann_types.specs.declared.entry.Entry.{Entry}
use Rattle.ann_types.specs.declared.entry.Entry.TheVariants.{End}
use Rattle.ann_types.proofs.Folds.{fold_push}
use Rattle.ann_vault.specs.Held.{Holding}
use Rattle.ann_segment.specs.Directory.{Item}
use Rattle.ann_segment.specs.Holds.{Holds}
use Rattle.ann_segment.specs.Segment.{SegmentView}
use Rattle.ann_segment.specs.Text.{segment_text}
use Rattle.ann_mdelete.proofs.Points.{map_twice}
use Rattle.ann_base.specs.Front.{IsSealedAs}
use Rattle.ann_state.specs.State.{AreKept}
use Rattle.ann_named.specs.Named.{AreBelow}
use Rattle.ann_named.proofs.Entries.{last_named, named_push}
use Rattle.ann_mlaws.specs.Plan.{IsLti}
use Rattle.ann_mphases.proofs.Counts.{few_rows}
use Rattle.ann_merge.specs.Job.{IsDone, Order}
use Rattle.ann_mbegin.specs.Begun.{IsJobOf}
use Rattle.ann_mbegin.specs.Ended.{MayEndMerge}
use Rattle.ann_mbegin.proofs.Ended.{may_end_merge}

-- a segment has no more rows than there are Pids
few_points : {S : Type 0} (index : Index) (bytes : List ℕ) (segment : SegmentView S) (graph : Graph) (next : ℕ) → Holds index.params index.book bytes segment graph → next ≤ pid_end → AreBelow next (Some segment) → length graph.points < 2 ^ 32
few_points index bytes segment graph next holds small below =
    let pids : map (λ (x : Item). x.0) segment.items ≡ pids_of graph.points =
    ap (map (λ (x : Item). x.0)) holds.items ∙ map_twice (λ (x : Point). (x.pid, code index.book x.vector)) (λ (x : Item). x.0) graph.points in
    let rising : IsStrictlyIncreasing (map (λ (x : Item). x.0) segment.items ++ map (λ (n : ℕ). n) []) =
    subst IsStrictlyIncreasing (sym (append-nil (map (λ (x : Item). x.0) segment.items)))
    (subst IsStrictlyIncreasing (sym pids) holds.sound.sound.pids) in
    let few = few_rows (λ (x : Item). x.0) (λ (n : ℕ). n) segment.items [] next rising below (λ k d h. absurd (omega arith)) in
    let same = ap length holds.items ∙ length-map graph.points (λ (x : Point). (x.pid, code index.book x.vector)) in
    omega (arith, few, same, small)

-- an End puts the graph that the merge makes in the place of the long-term graph
ended_lti : (s : State) (graph : Graph) (o : Option Begun) (b : Begun) → o ≡ Some b → (switched s graph o).lti ≡ graph
ended_lti s graph o b is = ap (λ (x : Option Begun). (switched s graph x).lti) is

module _ {S : Type 0} (tells : Type 0) (bytes : S → List ℕ) (index : Index) (h : BasedList) (order : Order S) (segment : SegmentView S) (held : Holding) (by : ℕ) (told : tells) (book : IsBookOf index.params index.book) (legal : IsLegal index h) (small : next_pid h ≤ pid_end) (job : IsJobOf index h order) (lti : IsLti bytes index order.old (fold_of index h).lti) (done : IsDone tells bytes order held segment) where
  abbrev state : State
  state = fold_of index h

  abbrev graph : Graph
  graph = merge_of index state state.begun

  abbrev entry : Entry
  entry = End by order.number

  may : MayEndMerge tells bytes index h order segment
  may = may_end_merge tells bytes index h order segment legal job done.merge

  holds : Holds index.params index.book (bytes segment.seal) segment graph
  holds = may.holds told lti

  sealed : IsSealedAs held index.params order.number index.book graph
  sealed = record {
    fits = record {
      belongs = book;
      sound = holds.sound;
      numbers = holds.numbers;
      rows = few_points index (bytes segment.seal) segment graph (next_pid h) holds small may.below;
    };
    text = done.sealed told ∙ ap Some (holds.text ∙ ap (segment_text index.params index.book graph) done.merge.numbered);
  }

  lti_is : (fold_of index (with_entry h entry)).lti ≡ graph
  lti_is = ap (λ (s : State). s.lti) (fold_push index h entry) ∙ ended_lti state graph state.begun job.begun job.open_now

  pub kept_ended : AreKept held index.params index.book h → AreKept held index.params index.book (with_entries h (entry ∷ []))
  kept_ended kept = record {
    base = kept.base;
    merged = λ m.
        let number : order.number ≡ m.segment = sym (named_push h entry) ∙ last_named h.base.segment (with_entry h entry) m in
        subst (λ (n : ℕ). IsSealedAs held index.params n index.book (fold_of index (with_entry h entry)).lti) number
        (subst (λ (g : Graph). IsSealedAs held index.params order.number index.book g) (sym lti_is) sealed);
  }
