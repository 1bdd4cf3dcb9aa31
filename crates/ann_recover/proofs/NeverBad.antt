-- A list that the vault keeps is never refused as bad.
use Rattle.std.proofs.Common.{◌≡◌, ◌<◌, ℕ, false, ◌+◌, List, length, inl, inr, refl, sym, ap, subst, ◌∙◌}
use Rattle.std.specs.Prelude.{Option, Some, None, MatchOption, All}
use Rattle.std.specs.List.{list_any}
use Rattle.std.proofs.lemmas.Bool.{false≢true}
use Rattle.ann_types.specs.Codes.{code}
use Rattle.ann_types.specs.Fold.{fold_of}
use Rattle.ann_types.specs.Graph.{Graph, Point}
use Rattle.ann_types.specs.Index.{Index}
use Rattle.ann_types.specs.Legal.{IsLegal}
use Rattle.ann_types.specs.Lists.{BasedList}
use Rattle.ann_types.specs.declared.params.Params.{Params}
use Rattle.ann_types.proofs.Folds.{legal_upto}
use Rattle.ann_laws.specs.Replays.{is_end, LastMerge}
use Rattle.ann_laws.proofs.Replayed.{replay_law, merge_number}
use Rattle.ann_log.specs.Text.{Held}
use Rattle.ann_pq.specs.Codebook.{CodebookView}
use Rattle.ann_block.specs.Node.{NodeFields}
use Rattle.ann_segment.specs.Directory.{Item}
use Rattle.ann_segment.specs.Holds.{Holds}
use Rattle.ann_segment.specs.Segment.{SegmentView}
use Rattle.ann_segment.proofs.Holding.{holds_row}
use Rattle.ann_vault.specs.Held.{Holding}
use Rattle.ann_reopen.specs.Judged.{IsLastMerge}
use Rattle.ann_reopen.specs.declared.judged.Merge.{Merge}
use Rattle.ann_base.specs.Front.{IsFound, IsSealedAs}
use Rattle.ann_base.specs.Grounded.{IsRightlyRefused}
use Rattle.ann_state.specs.List.{list_on, IsGround, IsIllegal}
use Rattle.ann_state.specs.Merged.{IsMerged, IsMergeFault}
use Rattle.ann_state.specs.State.{index_with, AreKept}
use Rattle.ann_recover.specs.Causes.{IsOfStore}
use Rattle.ann_recover.specs.Inspected.{IsSumRefused}
use Rattle.ann_recover.specs.Loaded.{IsLoadRefused, IsBadMerge}
use Rattle.ann_recover.specs.Places.{IsKeptList}
use Rattle.ann_recover.specs.Verified.{IsRight, IsFirstWrong, IsWrong}
use Rattle.ann_recover.specs.declared.refused.RecoverWhy.{RecoverWhy}
use Rattle.ann_recover.specs.declared.refused.RecoverWhy.TheVariants.{NoIndex, BadLog, BadSegment, Disk, Memory}
use Rattle.ann_recover.proofs.Keeping.{sole_graph}

-- the node block of a row of a segment that holds a graph is right
node_right : {S : Type 0} (segment : SegmentView S) (book : CodebookView) (params : Params) (bytes : List ℕ) (graph : Graph) → Holds params book.book bytes segment graph → length book.book ≡ params.m → book.d ≡ params.d → (row : ℕ) → row < length segment.items → IsRight segment book params bytes row
node_right segment book params bytes graph holds parts sizes row within =
    let is = holds_row params book.book bytes segment graph holds parts row within in
    record {
      block = is.sound;
      dimension = ap (λ (n : NodeFields). length n.vector) is.node ∙ is.vector ∙ sym sizes;
      coded = ap (λ (n : NodeFields). code book.book n.vector) is.node ∙ sym (ap (λ (i : Item). i.1) is.item);
    }

-- ---- a list that the vault keeps

module _ {S : Type 0} (tells : Type 0) (bytes : S → List ℕ) (held : Holding) (was : Held) (seals : tells) (kept : IsKeptList held was) where
  abbrev index : Index
  index = index_with was.params was.book.book

  -- what was read as the base's graph is the graph of the list
  module _ (graph : Graph) (segment : Option (SegmentView S)) (ground : IsGround tells bytes held was.params was.base graph segment) where
    abbrev whole : BasedList
    whole = list_on was.base graph was.entries

    same_graph : graph ≡ kept.graph
    same_graph = sole_graph tells bytes held was.params was.book.book was.base was.entries graph segment ground seals kept.graph kept.legal.base kept.kept

    whole_legal : IsLegal index whole
    whole_legal = subst (λ (g : Graph). IsLegal index (list_on was.base g was.entries)) (sym same_graph) kept.legal

    whole_kept : AreKept held was.params was.book.book whole
    whole_kept = subst (λ (g : Graph). AreKept held was.params was.book.book (list_on was.base g was.entries)) (sym same_graph) kept.kept

    module _ (merge : Merge) (last : IsLastMerge whole merge) where
      abbrev merge_of : LastMerge whole
      merge_of = record {
        before = last.before;
        inside = last.inside;
        segment = merge.segment;
        behind = last.behind;
        merge = last.merge;
        number = merge_number index whole last.before last.inside merge.segment last.behind whole_legal last.merge;
      }

      -- the merge's segment is sealed with the text of its graph, whose Pids are below the next one
      merge_sealed : IsSealedAs held was.params merge.segment was.book.book (fold_of index whole).lti
      merge_sealed = whole_kept.merged merge_of

      merge_below : All (λ (x : Point). x.pid < merge.next) (fold_of index whole).lti.points
      merge_below =
          subst (λ (n : ℕ). All (λ (x : Point). x.pid < n) (fold_of index whole).lti.points) (sym last.next)
          (replay_law index whole last.before last.inside merge.segment last.behind whole_legal last.merge).legal.base.pids

  never_illegal : (entry : ℕ) → IsIllegal tells bytes held was.params was.base was.entries entry → ⊥
  never_illegal entry is =
      false≢true (sym (is.first index refl).at ∙ legal_upto index (list_on was.base is.graph was.entries) (entry + 1) (whole_legal is.graph is.segment is.ground).entries)

  never_base : (block : ℕ) → IsRightlyRefused held was.params was.base.segment was.base.next block → ⊥
  never_base block is =
      let based = kept.legal.base in
      is.no_text was.book.book kept.graph (kept.kept.base is.named) (record { graph = based.graph; pids = based.pids; tags = based.tags; none = based.none })

  never_merge : (block : ℕ) → IsBadMerge tells bytes held was.params was.base was.entries block → ⊥
  never_merge block is = by_merge is.list.judged.merge (is.state.judged index refl).merge is.fault
    where
      by_merge : (m : Option Merge) → MatchOption m (list_any is_end was.entries ≡ false) (IsLastMerge (list_on was.base is.state.graph was.entries)) → IsMergeFault tells held was.params m block → ⊥
      by_merge None none fault = fault
      by_merge (Some merge) last fault =
          (fault seals).no_text was.book.book (fold_of index (list_on was.base is.state.graph was.entries)).lti
          (merge_sealed is.state.graph is.list.segment is.state.ground merge last)
          (merge_below is.state.graph is.list.segment is.state.ground merge last)

  -- the list is refused for a fault or want of memory alone
  pub never_load : (why : RecoverWhy) → IsLoadRefused tells bytes held was.params was.base was.entries why → IsOfStore why
  never_load NoIndex is = is
  never_load (BadLog entry) is = never_illegal entry is
  never_load (BadSegment block) is = elim is [ inl base ↦ never_base block (base seals) | inr merge ↦ never_merge block merge ]
  never_load Disk is = tt
  never_load Memory is = tt

  -- ---- node blocks

  module _ (sizes : was.book.d ≡ was.params.d) where
    -- of a segment that is sealed with the text of a graph none is wrong
    never_first : (number : ℕ) (segment : SegmentView S) (graph : Graph) → IsFound tells bytes held was.params number segment → IsSealedAs held was.params number was.book.book graph → (block : ℕ) → IsFirstWrong segment was.book was.params (bytes segment.seal) block → ⊥
    never_first number segment graph found sealed block is =
        is.wrong (node_right segment was.book was.params (bytes segment.seal) graph (found.graph seals was.book.book graph sealed) sealed.fits.belongs.parts sizes is.row is.within)

    never_base_wrong : (graph : Graph) (o : Option (SegmentView S)) → IsGround tells bytes held was.params was.base graph o → (why : RecoverWhy) → IsWrong tells bytes o was.book was.params why → IsOfStore why
    never_base_wrong graph o ground NoIndex is = is
    never_base_wrong graph o ground (BadLog entry) is = is
    never_base_wrong graph None ground (BadSegment block) is = is
    never_base_wrong graph (Some segment) ground (BadSegment block) is =
        never_first was.base.segment segment graph ground.sealed.opened.found ((whole_kept graph (Some segment) ground).base ground.sealed.named) block (is seals)
    never_base_wrong graph o ground Disk is = tt
    never_base_wrong graph o ground Memory is = tt

    module _ (graph : Graph) (segment : Option (SegmentView S)) (ground : IsGround tells bytes held was.params was.base graph segment) where
      never_merge_wrong : (m : Option Merge) (o : Option (SegmentView S)) → MatchOption m (list_any is_end was.entries ≡ false) (IsLastMerge (list_on was.base graph was.entries)) → IsMerged tells bytes held was.params m o → (why : RecoverWhy) → IsWrong tells bytes o was.book was.params why → IsOfStore why
      never_merge_wrong m o last opened NoIndex is = is
      never_merge_wrong m o last opened (BadLog entry) is = is
      never_merge_wrong m None last opened (BadSegment block) is = is
      never_merge_wrong None (Some made) last opened (BadSegment block) is = opened
      never_merge_wrong (Some merge) (Some made) last opened (BadSegment block) is =
          never_first merge.segment made (fold_of index (list_on was.base graph was.entries)).lti opened.found (merge_sealed graph segment ground merge last) block (is seals)
      never_merge_wrong m o last opened Disk is = tt
      never_merge_wrong m o last opened Memory is = tt

    -- nor is it refused for a node block
    pub never_sum : (why : RecoverWhy) → IsSumRefused tells bytes held was.params was.book was.base was.entries why → IsOfStore why
    never_sum why (inl is) = never_load why is
    never_sum why (inr is) = elim is.wrong [
      | inl w ↦ never_base_wrong is.are.read.graph is.list.segment is.are.read.ground why w
      | inr w ↦ never_merge_wrong is.are.read.graph is.list.segment is.are.read.ground is.list.judged.merge is.merged (is.are.read.judged index refl).merge is.are.opened why w.1
    ]
