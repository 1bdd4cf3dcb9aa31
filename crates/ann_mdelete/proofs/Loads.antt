-- A piece is loaded row by row.
use Rattle.std.proofs.Common.{◌≡◌, ◌≢◌, ◌+◌, ◌<◌, ◌≤◌, ℕ, List, [], ◌∷◌, ◌++◌, refl, sym, ap, subst, ◌∙◌, arith, length, get_or, inl, inr}
use Rattle.std.specs.Prelude.{All, None, Result, Ok, Err, IfErr}
use Rattle.std.proofs.lemmas.Bool.{cases_lt}
use Rattle.std.proofs.lemmas.List.{get_or_append_left, get_or_push}
use Rattle.std.proofs.lemmas.List.FromFn.{length-map-range_with_len, map-range_with_len_more}
use Rattle.ann_types.specs.Rows.{AreNeighbours}
use Rattle.ann_types.specs.declared.params.Params.{Params}
use Rattle.ann_block.specs.Node.{IsNodeOf, NodeFields, node_of, judge_node}
use Rattle.ann_segment.specs.Segment.{SegmentView, node_block}
use Rattle.ann_segment.specs.Rows.{block_at, judged}
use Rattle.ann_mdelete.specs.Loaded.{IsPiece, LoadedView, lists_on, node_on, piece_bytes, piece_rows, tags_on}
use Rattle.ann_mdelete.specs.Refusals.{AddsRow, AreRefused, Counts, HasRead, IsBadRow, IsRowRefused, IsUnloaded}
use Rattle.ann_mdelete.specs.declared.refused.WorkRefused.{WorkRefused}
use Rattle.ann_mdelete.specs.declared.refused.WorkRefused.TheVariants.{Disk, BadSegment, Memory}

-- the neighbours of a node are those of its row
pub neighbours_of : (params : Params) (count row : ℕ) (node : NodeFields) → IsNodeOf row count params node → AreNeighbours params count row node.neighbours
neighbours_of params count row node is = record {
  rising = is.ascending;
  inside = λ k d h. (is.others k d h).1;
  others = λ k d h. (is.others k d h).0;
  few = is.degree;
}

-- ---- no row, and one row more

pub none_loaded : {S : Type 0} (segment : SegmentView S) (params : Params) (first : ℕ) (piece : LoadedView) → piece.tags ≡ [] → piece.lists ≡ [] → IsPiece segment params first 0 piece
none_loaded segment params first piece tags lists = record {
  format = λ i h. absurd (omega arith);
  tagged = tags;
  listed = lists;
  neighbours = λ i h. absurd (omega arith);
}

pub count_loaded : {S : Type 0} (segment : SegmentView S) (params : Params) (first rows : ℕ) (piece : LoadedView) → IsPiece segment params first rows piece → length piece.lists ≡ rows
count_loaded segment params first rows piece is = ap length is.listed ∙ length-map-range_with_len (λ i. (node_on params piece.page i).neighbours) 0 rows

pub one_more : {S : Type 0} (segment : SegmentView S) (params : Params) (first at : ℕ) (now new : LoadedView) → IsPiece segment params first at now → new.page ≡ now.page → AddsRow segment params first at now new → IsPiece segment params first (at + 1) new
one_more segment params first at now new is same adds =
    let page : List ℕ = now.page in
    let node : ℕ → NodeFields = λ i. node_on params page i in
    let count = count_loaded segment params first at now is in
    record {
      format = λ i h. elim (cases_lt i at) as (λ _. judged segment params (block_at new.page i) (first + i) ≡ None) [
        | inl b ↦ ap (λ t. judged segment params (block_at t i) (first + i)) same ∙ is.format i b
        | inr e ↦ ap (λ t. judged segment params (block_at t i) (first + i)) same
            ∙ subst (λ (n : ℕ). judged segment params (block_at page n) (first + n) ≡ None) (let s : at ≡ i = omega arith in s) adds.format
      ];
      tagged = adds.tagged ∙ ap (λ t. t ++ (node at).tag ∷ []) is.tagged
          ∙ sym (map-range_with_len_more (λ k. (node k).tag) 0 at at (omega arith))
          ∙ ap (λ t. tags_on params t (at + 1)) (sym same);
      listed = adds.listed ∙ ap (λ t. t ++ (node at).neighbours ∷ []) is.listed
          ∙ sym (map-range_with_len_more (λ k. (node k).neighbours) 0 at at (omega arith))
          ∙ ap (λ t. lists_on params t (at + 1)) (sym same);
      neighbours = λ i h. elim (cases_lt i at) as (λ _. AreNeighbours params (length segment.items) (first + i) (get_or new.lists i [])) [
        | inl b ↦ subst (AreNeighbours params (length segment.items) (first + i))
            (sym (ap (λ t. get_or t i []) adds.listed ∙ get_or_append_left now.lists ((node at).neighbours ∷ []) [] i (omega arith)))
            (is.neighbours i b)
        | inr e ↦ let here : at ≡ i = omega arith in
            subst (AreNeighbours params (length segment.items) (first + i))
            (sym (ap (λ t. get_or t i []) adds.listed ∙ get_or_push now.lists (node at).neighbours [] i (let s : length now.lists ≡ i = omega arith in s)))
            (subst (λ (n : ℕ). AreNeighbours params (length segment.items) (first + n) (node at).neighbours) here adds.neighbours)
      ];
    }

-- a row that is refused behind so many that are loaded
pub refused_at : {S : Type 0} (segment : SegmentView S) (params : Params) (first at rows : ℕ) (page : List ℕ) (now : LoadedView) (why : WorkRefused) → at < rows → now.page ≡ page → IsPiece segment params first at now → IsRowRefused segment params first at now.page why → AreRefused segment params first rows page why
refused_at segment params first at rows page now Disk within same is refused = refused
refused_at segment params first at rows page now (BadSegment block) within same is refused = record {
  at = at;
  within = within;
  place = refused.0;
  bad = subst (λ (t : List ℕ). judged segment params (block_at t at) (first + at) ≢ None) same refused.1;
  earlier = λ i h. ap (λ t. judged segment params (block_at t i) (first + i)) (sym same) ∙ is.format i h;
}
refused_at segment params first at rows page now Memory within same is refused = tt

-- what was read is refused so
pub unloaded : {S T : Type 0} (tells : Type 0) (bytes : S → List ℕ) (segment : SegmentView S) (params : Params) (first rows : ℕ) (page page' : List ℕ) (old new : Counts) (result : Result T WorkRefused) → rows ≡ piece_rows (length segment.items) first → page' ≡ page → (tells → page ≡ piece_bytes segment (bytes segment.seal) first) → HasRead old new → IfErr result (AreRefused segment params first rows page) → IfErr result (IsUnloaded tells bytes segment params first page' old new)
unloaded tells bytes segment params first rows page page' old new (Ok x) count same told read refused = tt
unloaded tells bytes segment params first rows page page' old new (Err Disk) count same told read refused = absurd refused
unloaded tells bytes segment params first rows page page' old new (Err (BadSegment block)) count same told read refused = record {
  row = subst (λ (n : ℕ). IsBadRow segment params first n page' block) count (subst (λ (p : List ℕ). IsBadRow segment params first rows p block) (sym same) refused);
  told = λ t. same ∙ told t;
  counted = read;
}
unloaded tells bytes segment params first rows page page' old new (Err Memory) count same told read refused = record {
  reads = (1, (let one : 1 ≤ 1 = omega arith in one), read.read);
  calm = read.calm;
}
