-- The segment of a base: its blocks, and the graph of its nodes.
use Rattle.std.proofs.Common.{◌≡◌, ◌≢◌, ◌≤◌, ◌<◌, ℕ, zero, suc, ◌+◌, ◌%◌, ◌⊎◌, true, eqb-true, List, [], None, inl, inr, refl, sym, ap, ap₂, subst, ◌∙◌, arith, map, length}
use Rattle.std.specs.Prelude.{Option, Some, MatchOption}
use Rattle.std.specs.List.{range_with_len}
use Rattle.std.specs.FinMap.{empty}
use Rattle.std.proofs.lemmas.Bool.{false≢true}
use Rattle.std.proofs.lemmas.List.FromFn.{length-map-range_with_len}
use Rattle.ann_types.specs.Codes.{Book}
use Rattle.ann_types.specs.Graph.{Point, Graph, empty_graph}
use Rattle.ann_types.specs.Lists.{IsBaseOf}
use Rattle.ann_types.specs.Order.{has}
use Rattle.ann_types.specs.declared.params.Params.{Params}
use Rattle.ann_types.proofs.Graphs.{empty_is_graph}
use Rattle.ann_types.proofs.Ordered.{has_cases}
use Rattle.ann_vault.specs.Held.{Holding}
use Rattle.ann_block.specs.Node.{NodeFields}
use Rattle.ann_mdelete.specs.Loaded.{LoadedView, IsPiece}
use Rattle.ann_mdelete.specs.Refusals.{Counts, IsUnloaded}
use Rattle.ann_mdelete.specs.declared.refused.WorkRefused.{WorkRefused}
use Rattle.ann_mdelete.specs.declared.refused.WorkRefused.TheVariants as work
use Rattle.ann_segment.specs.Directory.{Item}
use Rattle.ann_segment.specs.Holds.{Holds}
use Rattle.ann_segment.specs.Rows.{node_in}
use Rattle.ann_segment.specs.Segment.{SegmentView, IsSegment}
use Rattle.ann_segment.proofs.Holding.{point_at, holds_count, holds_row}
use Rattle.ann_tags.specs.Tags.{Pids, map_of}
use Rattle.ann_base.specs.Faults.{segment_in, tag_in, AreSoundRows, IsFirstUnformed, IsFirstRepeat, IsFirstBadNode, IsSoundBase}
use Rattle.ann_base.specs.Front.{IsSealedAs, IsOpenedBelow, IsFrontRefused}
use Rattle.ann_base.specs.Grounded.{base_over, IsSegmentOf, IsBase, IsBaseRefused}
use Rattle.ann_base.specs.Nodes.{graph_in}
use Rattle.ann_base.specs.Refusal.{of_work}
use Rattle.ann_base.specs.Tagged.{HasTags, HasNodes, HasAll, IsLoadRefused}
use Rattle.ann_base.specs.declared.base.Grounded.{Grounded}
use Rattle.ann_base.specs.declared.refused.BaseRefused.{BaseRefused}
use Rattle.ann_base.specs.declared.refused.BaseRefused.TheVariants.{BadSegment, Disk, Memory}
use Rattle.ann_base.proofs.Fronts.{sound_front}
use Rattle.ann_base.proofs.Grounding.{pids_are, names_are, base_is, graph_back}
use Rattle.ann_base.proofs.Reading.{bad_block, sound_rows}
use Rattle.ann_base.proofs.Tagging.{no_tags}

-- ---- refusals of a piece

pub piece_long : {S : Type 0} (segment : SegmentView S) (params : Params) (first rows : ℕ) (piece : LoadedView) → IsPiece segment params first rows piece → length piece.tags ≡ rows
piece_long segment params first rows piece is = ap (λ (t : List ℕ). length t) is.tagged ∙ length-map-range_with_len _ 0 rows

module _ {S : Type 0} (tells : Type 0) (bytes : S → List ℕ) (segment : SegmentView S) (params : Params) (nodes : List NodeFields) (pids : Pids) (w : HasNodes tells bytes segment params nodes pids) (first : ℕ) (here : length nodes ≡ first) (aligned : first % 256 ≡ 0) (some : first < length segment.items) where
  pub load_refused : (page : List ℕ) (old new : Counts) (why : WorkRefused) → IsUnloaded tells bytes segment params first page old new why → tells → IsLoadRefused segment params (bytes segment.seal) (of_work why)
  load_refused page old new work.Disk is told = tt
  load_refused page old new (work.BadSegment block) is told = bad_block tells bytes segment params nodes pids w first here aligned some page block is.row is.told told
  load_refused page old new work.Memory is told = tt

-- no node yet
pub no_nodes : {S : Type 0} (tells : Type 0) (bytes : S → List ℕ) (segment : SegmentView S) (params : Params) (pids : Pids) → pids ≡ empty → HasNodes tells bytes segment params [] pids
no_nodes tells bytes segment params pids none = record {
  sound = record { few = omega arith; long = λ row l. absurd (omega arith); neighbours = λ row l. absurd (omega arith) };
  tags = subst (HasTags segment []) (sym none) (no_tags segment);
  told = λ told. refl;
  formed = λ told row l. absurd (omega arith);
}

-- ---- no segment

pub no_base : {S : Type 0} (tells : Type 0) (bytes : S → List ℕ) (held : Holding) (params : Params) (number next : ℕ) (grounded : Grounded S) → number ≡ 0 → grounded.segment ≡ None → grounded.tags.pids ≡ empty → IsBase tells bytes held params number next grounded
no_base tells bytes held params number next grounded zero_is none pids = record {
  graph = empty_graph;
  base = λ position. record { graph = empty_is_graph params; pids = λ i d l. absurd (omega arith); tags = λ i j d l m. absurd (omega arith); none = λ e. refl };
  tags = pids;
  segment = subst (λ o. MatchOption o (number ≡ 0) (IsSegmentOf tells bytes held params number next empty_graph)) (sym none) zero_is;
}

-- ---- refusals of a base's segment

pub front_refused : (held : Holding) (params : Params) (number next : ℕ) → number ≢ 0 → (why : BaseRefused) → IsFrontRefused held params number next why → IsBaseRefused held params number next why
front_refused held params number next some (BadSegment block) is = record { named = some; fault = inl is.fault; no_text = λ book graph sealed base. is.no_text book graph sealed base.pids }
front_refused held params number next some Disk is = tt
front_refused held params number next some Memory is = tt

has_row_before : (f : ℕ → ℕ) (a n t : ℕ) → has (map f (range_with_len a n)) t ≡ true → (q : ℕ) × (a ≤ q) × (q < a + n) × (f q ≡ t)
has_row_before f a zero t h = absurd (false≢true h)
has_row_before f a (suc n) t h = elim (has_cases (f a) t (map f (range_with_len (a + 1) n)) h) [
  | inl here ↦ (a, omega arith, omega arith, sym (eqb-true t (f a) here))
  | inr later ↦ (let got = has_row_before f (a + 1) n t later in let low = got.1 in let high = got.2 in (got.0, omega arith, omega arith, got.3))
]

module _ {S : Type 0} (tells : Type 0) (bytes : S → List ℕ) (held : Holding) (params : Params) (number next : ℕ) (segment : SegmentView S) (opened : IsOpenedBelow tells bytes held params number next segment) where
  abbrev seal : List ℕ
  seal = bytes segment.seal

  -- the same segment, by its bytes
  abbrev by_bytes : SegmentView (List ℕ)
  by_bytes = record { number = segment.number; m = segment.m; entry = segment.entry; items = segment.items; seal = seal }

  same_view : tells → by_bytes ≡ segment_in params number seal
  same_view told =
      let from = opened.found.from_bytes told in
      ap (λ (n : ℕ). let v : SegmentView (List ℕ) = record { number = n; m = segment.m; entry = segment.entry; items = segment.items; seal = seal } in v) opened.found.number
      ∙ ap (λ (m : ℕ). let v : SegmentView (List ℕ) = record { number = number; m = m; entry = segment.entry; items = segment.items; seal = seal } in v) opened.found.code_bytes
      ∙ ap₂ (λ (e : Option ℕ) (i : List Item). let v : SegmentView (List ℕ) = record { number = number; m = params.m; entry = e; items = i; seal = seal } in v) from.entry from.items

  rows_again : (n : ℕ) → AreSoundRows segment params seal n → AreSoundRows by_bytes params seal n
  rows_again n w = record { formed = w.formed; differ = w.differ }

  fault_again : (row : ℕ) → IsFirstUnformed segment params seal row ⊎ IsFirstRepeat segment params seal row → IsFirstUnformed by_bytes params seal row ⊎ IsFirstRepeat by_bytes params seal row
  fault_again row (inl w) = inl (record { bad = w.bad; first = w.first })
  fault_again row (inr w) = inr (record { formed = w.formed; repeated = w.repeated; first = w.first })

  node_again : (block : ℕ) → IsFirstBadNode segment params seal block → IsFirstBadNode by_bytes params seal block
  node_again block w = record { row = w.row; within = w.within; place = w.place; before = rows_again _ w.before; fault = fault_again w.row w.fault }

  -- a graph of a base has no bad node
  no_bad_node : (block : ℕ) → IsFirstBadNode segment params seal block → tells → (book : Book) (graph : Graph) → IsSealedAs held params number book graph → IsBaseOf params (base_over 0 next number graph) → ⊥
  no_bad_node block w told book graph sealed base =
      let holds : Holds params book seal segment graph = opened.found.graph told book graph sealed in
      let parts : length book ≡ params.m = sealed.fits.belongs.parts in
      let count = holds_count params book seal segment graph holds in
      let within = w.within in
      let blank : Point = record { pid = 0; tag = 0; vector = []; links = [] } in
      let tag_at : (r : ℕ) → r < length segment.items → tag_in segment params seal r ≡ (point_at graph r).tag = λ r l. ap (λ (n : NodeFields). n.tag) (holds_row params book seal segment graph holds parts r l).node in
      elim w.fault [
        | inl bad ↦ bad.bad (holds_row params book seal segment graph holds parts w.row within).sound
        | inr repeat ↦
            let got = has_row_before (tag_in segment params seal) 0 w.row (tag_in segment params seal w.row) repeat.repeated in
            let high = got.2 in
            base.tags got.0 w.row blank (omega arith) (omega arith) (sym (tag_at got.0 (omega arith)) ∙ got.3 ∙ tag_at w.row within)
      ]

  pub nodes_refused : number ≢ 0 → (why : BaseRefused) → IsLoadRefused segment params seal why → tells → IsBaseRefused held params number next why
  nodes_refused some (BadSegment block) is told = record {
    named = some;
    fault = inr (seal, sound_front tells bytes held params number next segment opened.found opened told, subst (λ (v : SegmentView (List ℕ)). IsFirstBadNode v params seal block) (same_view told) (node_again block is));
    no_text = λ book graph sealed base. no_bad_node block is told book graph sealed base;
  }
  nodes_refused some Disk is told = tt
  nodes_refused some Memory is told = tt

  -- ---- the base

  module _ (some : number ≢ 0) (known : IsSegment segment) (pids : Pids) (w : HasAll tells bytes segment params pids) where
    all_sound : tells → IsSoundBase held params number next
    all_sound told = record {
      bytes = seal;
      front = sound_front tells bytes held params number next segment opened.found opened told;
      nodes =
          subst (λ (v : SegmentView (List ℕ)). AreSoundRows v params seal (length v.items)) (same_view told)
          (rows_again (length segment.items) (subst (AreSoundRows segment params seal) w.many (sound_rows tells bytes segment params w.nodes pids w.are told)));
    }

    pub segment_of_base : IsSegmentOf tells bytes held params number next (graph_in segment w.nodes) segment
    segment_of_base = record {
      named = some;
      opened = opened;
      pids = pids_are segment params w.nodes w.are.sound w.many known;
      nodes = λ told. ap (graph_in segment) (w.are.told told ∙ ap (λ (n : ℕ). map (node_in segment seal params.d) (range_with_len 0 n)) w.many);
      sound = all_sound;
      sealed = λ told book other sealed.
          graph_back params book seal segment other (opened.found.graph told book other sealed) sealed.fits.belongs.parts w.nodes (w.are.told told) w.many;
    }

    pub base_of_segment : (grounded : Grounded S) → grounded.tags.pids ≡ pids → grounded.segment ≡ Some segment → IsBase tells bytes held params number next grounded
    base_of_segment grounded tags is = record {
      graph = graph_in segment w.nodes;
      base = λ position. base_is segment params w.nodes w.are.sound w.many known number next some opened.below w.are.tags.differ position;
      tags = tags ∙ w.are.tags.pids ∙ ap map_of (sym (names_are segment params w.nodes w.are.sound w.many known));
      segment = subst (λ o. MatchOption o (number ≡ 0) (IsSegmentOf tells bytes held params number next (graph_in segment w.nodes))) (sym is) segment_of_base;
    }
