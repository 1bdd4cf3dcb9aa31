-- Nodes of a segment's rows, piece by piece, and the first block of them that is at fault.
use Rattle.std.proofs.Common.{◌≡◌, ◌≤◌, ◌<◌, ℕ, zero, suc, ◌+◌, ◌-◌, ◌%◌, List, [], ◌∷◌, ◌++◌, None, inl, inr, refl, sym, ap, ap₂, subst, ◌∙◌, arith, map, take, length, get_or, length-append}
use Rattle.std.specs.List.{range_with_len}
use Rattle.std.proofs.lemmas.Bool.{cases_lt}
use Rattle.std.proofs.lemmas.List.{map-append, length-map}
use Rattle.std.proofs.lemmas.List.FromFn.{length-map-range_with_len, get_or-map-range_with_len, take-map-range_with_len, fill_by_all}
use Rattle.ann_types.specs.Order.{has}
use Rattle.ann_types.specs.Rows.{AreNeighbours}
use Rattle.ann_types.specs.declared.params.Params.{Params}
use Rattle.ann_bytes.proofs.Numbered.{length-field}
use Rattle.ann_block.specs.Node.{NodeFields, node_of, node_rules, judge_node}
use Rattle.ann_block.proofs.Rules.{same, all_met}
use Rattle.ann_segment.specs.Segment.{SegmentView, node_block}
use Rattle.ann_segment.specs.Rows.{block_at, node_in, judged}
use Rattle.ann_mdelete.specs.Loaded.{LoadedView, IsPiece, node_on, piece_rows, piece_bytes}
use Rattle.ann_mdelete.specs.Refusals.{IsBadRow}
use Rattle.ann_mdelete.proofs.Held.{page_block}
use Rattle.ann_tags.specs.Tags.{Pids}
use Rattle.ann_base.specs.Faults.{IsFormed, tag_in, repeats, AreSoundRows, piece_start, piece_end, IsFirstBadNode}
use Rattle.ann_base.specs.Nodes.{AreNodes, no_node, tags_of}
use Rattle.ann_base.specs.Tagged.{HasTags, IsRepeatOf, HasNodes}

-- ---- lists

get_before : {A : Type 0} (xs ys : List A) (i : ℕ) (d : A) → i < length xs → get_or (xs ++ ys) i d ≡ get_or xs i d
get_before [] ys i d l = absurd (omega arith)
get_before (x ∷ xs) ys zero d l = refl
get_before (x ∷ xs) ys (suc i) d l = get_before xs ys i d (omega arith)

get_behind : {A : Type 0} (xs ys : List A) (i : ℕ) (d : A) → get_or (xs ++ ys) (length xs + i) d ≡ get_or ys i d
get_behind [] ys i d = ap (λ (k : ℕ). get_or ys k d) (let e : 0 + i ≡ i = omega arith in e)
get_behind (x ∷ xs) ys i d = ap (λ (k : ℕ). get_or (x ∷ (xs ++ ys)) k d) (let e : length (x ∷ xs) + i ≡ suc (length xs + i) = omega arith in e) ∙ get_behind xs ys i d

take_behind : (xs ys : List ℕ) (i : ℕ) → take (length xs + i) (xs ++ ys) ≡ xs ++ take i ys
take_behind [] ys i = ap (λ (k : ℕ). take k ys) (let e : 0 + i ≡ i = omega arith in e)
take_behind (x ∷ xs) ys i = ap (λ (k : ℕ). take k (x ∷ (xs ++ ys))) (let e : length (x ∷ xs) + i ≡ suc (length xs + i) = omega arith in e) ∙ ap (λ t. x ∷ t) (take_behind xs ys i)

map_twice : {A B C : Type 0} (f : A → B) (g : B → C) (xs : List A) → map g (map f xs) ≡ map (λ x. g (f x)) xs
map_twice f g [] = refl
map_twice f g (x ∷ xs) = ap (λ t. g (f x) ∷ t) (map_twice f g xs)

-- ---- a node block in the format has a vector of d components

pub vector_long : {S : Type 0} (segment : SegmentView S) (params : Params) (page : List ℕ) (row : ℕ) → judged segment params page row ≡ None → length (node_of params.d page).vector ≡ params.d
unfolding judge_node node_of
vector_long segment params page row fine =
    let long : length page ≡ 4096 = same (length page) 4096 (all_met (node_rules page _ row (length segment.items) params) fine).0 in
    let most = params.in_limits.components in
    length-field page 16 params.d (omega (arith, long, most))

-- ---- tags that are told

module _ {S : Type 0} (segment : SegmentView S) (params : Params) (bytes : List ℕ) where
  repeats_is : (xs : List ℕ) (n row : ℕ) → xs ≡ map (tag_in segment params bytes) (range_with_len 0 n) → row < n → repeats segment params bytes row ≡ has (take row xs) (get_or xs row 0)
  repeats_is xs n row is l =
      let f : ℕ → ℕ = tag_in segment params bytes in
      ap₂ (λ (t : List ℕ) (x : ℕ). has t x)
      (sym (ap (take row) is ∙ take-map-range_with_len f 0 n row (omega arith)))
      (sym (ap (λ (t : List ℕ). get_or t row 0) is ∙ get_or-map-range_with_len f 0 n row row 0 l (omega arith)))

  tags_told : (nodes : List NodeFields) → nodes ≡ map (node_in segment bytes params.d) (range_with_len 0 (length nodes)) → tags_of nodes ≡ map (tag_in segment params bytes) (range_with_len 0 (length nodes))
  tags_told nodes is = ap tags_of is ∙ map_twice (node_in segment bytes params.d) (λ (n : NodeFields). n.tag) (range_with_len 0 (length nodes))

-- the rows so far are sound
pub sound_rows : {S : Type 0} (tells : Type 0) (bytes : S → List ℕ) (segment : SegmentView S) (params : Params) (nodes : List NodeFields) (pids : Pids) → HasNodes tells bytes segment params nodes pids → tells → AreSoundRows segment params (bytes segment.seal) (length nodes)
sound_rows tells bytes segment params nodes pids w told = record {
  formed = w.formed told;
  differ = λ row l.
      let size = length-map nodes (λ (n : NodeFields). n.tag) in
      repeats_is segment params (bytes segment.seal) (tags_of nodes) (length nodes) row (tags_told segment params (bytes segment.seal) nodes (w.told told)) l
      ∙ w.tags.differ row (omega arith);
}

-- ---- a piece more

module _ {S : Type 0} (tells : Type 0) (bytes : S → List ℕ) (segment : SegmentView S) (params : Params) (nodes : List NodeFields) (pids : Pids) (w : HasNodes tells bytes segment params nodes pids) (first : ℕ) (here : length nodes ≡ first) (aligned : first % 256 ≡ 0) (some : first < length segment.items) where
  abbrev rows : ℕ
  rows = piece_rows (length segment.items) first

  piece_begins : (at : ℕ) → at < rows → piece_start (first + at) ≡ first
  piece_begins at l = let few : rows ≤ 256 = omega arith in omega arith

  piece_stops : (at : ℕ) → at < rows → piece_end (length segment.items) (first + at) ≡ first + rows
  piece_stops at l = let from = piece_begins at l in omega arith

  before : tells → AreSoundRows segment params (bytes segment.seal) first
  before told = subst (AreSoundRows segment params (bytes segment.seal)) here (sound_rows tells bytes segment params nodes pids w told)

  -- a block outside the format
  pub bad_block : (page : List ℕ) (block : ℕ) → IsBadRow segment params first rows page block → (tells → page ≡ piece_bytes segment (bytes segment.seal) first) → tells → IsFirstBadNode segment params (bytes segment.seal) block
  bad_block page block bad read told =
      let within = bad.within in
      let from = piece_begins bad.at within in
      record {
        row = first + bad.at;
        within = omega arith;
        place = bad.place;
        before = subst (AreSoundRows segment params (bytes segment.seal)) (sym from) (before told);
        fault = inl (record {
          bad = λ formed. bad.bad (ap (λ (t : List ℕ). judged segment params t (first + bad.at)) (page_block segment (bytes segment.seal) page first bad.at within (read told)) ∙ formed);
          first = λ earlier from_here l.
              let at : first + (earlier - first) ≡ earlier = omega arith in
              subst (λ (r : ℕ). IsFormed segment params (bytes segment.seal) r) at
              (ap (λ (t : List ℕ). judged segment params t (first + (earlier - first))) (sym (page_block segment (bytes segment.seal) page first (earlier - first) (omega arith) (read told)))
              ∙ bad.earlier (earlier - first) (omega arith));
        });
      }

  module _ (piece : LoadedView) (is : IsPiece segment params first rows piece) (read : tells → piece.page ≡ piece_bytes segment (bytes segment.seal) first) where
    abbrev more : List NodeFields
    more = map (node_on params piece.page) (range_with_len 0 rows)

    pub more_long : length more ≡ rows
    more_long = length-map-range_with_len (node_on params piece.page) 0 rows

    more_at : (i : ℕ) → i < rows → get_or (nodes ++ more) (first + i) no_node ≡ node_on params piece.page i
    more_at i l =
        ap (λ (k : ℕ). get_or (nodes ++ more) (k + i) no_node) (sym here)
        ∙ get_behind nodes more i no_node
        ∙ get_or-map-range_with_len (node_on params piece.page) 0 rows i i no_node l (omega arith)

    pub more_tags : tags_of more ≡ piece.tags
    more_tags = map_twice (node_on params piece.page) (λ (n : NodeFields). n.tag) (range_with_len 0 rows) ∙ sym is.tagged

    pub all_tags : tags_of (nodes ++ more) ≡ tags_of nodes ++ piece.tags
    all_tags = map-append (λ (n : NodeFields). n.tag) nodes more ∙ ap (λ t. tags_of nodes ++ t) more_tags

    pub all_long : length (nodes ++ more) ≡ first + rows
    all_long = let size = length-append nodes more in let many = more_long in omega arith

    formed_at : tells → (i : ℕ) → i < rows → IsFormed segment params (bytes segment.seal) (first + i)
    formed_at told i l =
        ap (λ (t : List ℕ). judged segment params t (first + i)) (sym (page_block segment (bytes segment.seal) piece.page first i l (read told)))
        ∙ is.format i l

    pub formed_all : tells → (row : ℕ) → row < length (nodes ++ more) → IsFormed segment params (bytes segment.seal) row
    formed_all told row l = elim (cases_lt row first) [
      | inl below ↦ w.formed told row (omega arith)
      | inr over ↦
          let size = all_long in
          let at : first + (row - first) ≡ row = omega arith in
          subst (λ (r : ℕ). IsFormed segment params (bytes segment.seal) r) at (formed_at told (row - first) (omega arith))
    ]

    node_told : tells → (row : ℕ) → row < length (nodes ++ more) → get_or (nodes ++ more) row no_node ≡ node_in segment (bytes segment.seal) params.d row
    node_told told row l = elim (cases_lt row first) [
      | inl below ↦
          get_before nodes more row no_node (omega arith)
          ∙ ap (λ (t : List NodeFields). get_or t row no_node) (w.told told)
          ∙ get_or-map-range_with_len (node_in segment (bytes segment.seal) params.d) 0 (length nodes) row row no_node (omega arith) (omega arith)
      | inr over ↦
          let size = all_long in
          let at : first + (row - first) ≡ row = omega arith in
          subst (λ (r : ℕ). get_or (nodes ++ more) r no_node ≡ node_in segment (bytes segment.seal) params.d r) at
          (more_at (row - first) (omega arith) ∙ ap (node_of params.d) (page_block segment (bytes segment.seal) piece.page first (row - first) (omega arith) (read told)))
    ]

    pub all_told : tells → nodes ++ more ≡ map (node_in segment (bytes segment.seal) params.d) (range_with_len 0 (length (nodes ++ more)))
    all_told told = fill_by_all (node_in segment (bytes segment.seal) params.d) (nodes ++ more) (length (nodes ++ more)) no_node refl (λ k l. node_told told k l)

    list_at : (i : ℕ) → i < rows → get_or piece.lists i [] ≡ (node_on params piece.page i).neighbours
    list_at i l =
        ap (λ (t : List (List ℕ)). get_or t i []) is.listed
        ∙ get_or-map-range_with_len (λ k. (node_on params piece.page k).neighbours) 0 rows i i [] l (omega arith)

    nodes_more : AreNodes segment params (nodes ++ more)
    nodes_more = record {
      few = (let size = all_long in omega arith);
      long = λ row l. elim (cases_lt row first) [
        | inl below ↦ ap (λ (n : NodeFields). length n.vector) (get_before nodes more row no_node (omega arith)) ∙ w.sound.long row (omega arith)
        | inr over ↦
            let size = all_long in
            let at : first + (row - first) ≡ row = omega arith in
            subst (λ (r : ℕ). length (get_or (nodes ++ more) r no_node).vector ≡ params.d) at
            (ap (λ (n : NodeFields). length n.vector) (more_at (row - first) (omega arith))
            ∙ vector_long segment params (block_at piece.page (row - first)) (first + (row - first)) (is.format (row - first) (omega arith)))
      ];
      neighbours = λ row l. elim (cases_lt row first) [
        | inl below ↦ subst (λ (n : NodeFields). AreNeighbours params (length segment.items) row n.neighbours) (sym (get_before nodes more row no_node (omega arith))) (w.sound.neighbours row (omega arith))
        | inr over ↦
            let size = all_long in
            let at : first + (row - first) ≡ row = omega arith in
            subst (λ (r : ℕ). AreNeighbours params (length segment.items) r (get_or (nodes ++ more) r no_node).neighbours) at
            (subst (AreNeighbours params (length segment.items) (first + (row - first))) (list_at (row - first) (omega arith) ∙ ap (λ (n : NodeFields). n.neighbours) (sym (more_at (row - first) (omega arith))))
            (is.neighbours (row - first) (omega arith)))
      ];
    }

    -- the tags too
    pub nodes_then : (pids' : Pids) → HasTags segment (tags_of nodes ++ piece.tags) pids' → HasNodes tells bytes segment params (nodes ++ more) pids'
    nodes_then pids' tags = record {
      sound = nodes_more;
      tags = subst (λ (t : List ℕ). HasTags segment t pids') (sym all_tags) tags;
      told = all_told;
      formed = formed_all;
    }

    -- a tag that an earlier row has
    pub bad_tag : (block : ℕ) → IsRepeatOf segment (tags_of nodes) piece.tags block → tells → IsFirstBadNode segment params (bytes segment.seal) block
    bad_tag block bad told =
        let seal : List ℕ = bytes segment.seal in
        let size : length (tags_of nodes) ≡ first = length-map nodes (λ (n : NodeFields). n.tag) ∙ here in
        let many : length piece.tags ≡ rows = ap (λ (t : List ℕ). length t) (sym more_tags) ∙ length-map more (λ (n : NodeFields). n.tag) ∙ more_long in
        let within = bad.within in
        let all : List ℕ = tags_of nodes ++ piece.tags in
        let are : all ≡ map (tag_in segment params seal) (range_with_len 0 (length (nodes ++ more))) = sym all_tags ∙ tags_told segment params seal (nodes ++ more) (all_told told) in
        let whole = all_long in
        let from = piece_begins bad.at (omega arith) in
        let stop = piece_stops bad.at (omega arith) in
        let up_to : take (first + bad.at) all ≡ tags_of nodes ++ take bad.at piece.tags = ap (λ (k : ℕ). take (k + bad.at) all) (sym size) ∙ take_behind (tags_of nodes) piece.tags bad.at in
        let up_is : tags_of nodes ++ take bad.at piece.tags ≡ map (tag_in segment params seal) (range_with_len 0 (first + bad.at)) = sym up_to ∙ ap (take (first + bad.at)) are ∙ take-map-range_with_len (tag_in segment params seal) 0 (length (nodes ++ more)) (first + bad.at) (omega arith) in
        let up_long : length (tags_of nodes ++ take bad.at piece.tags) ≡ first + bad.at = ap (λ (t : List ℕ). length t) up_is ∙ length-map-range_with_len (tag_in segment params seal) 0 (first + bad.at) in
        record {
          row = first + bad.at;
          within = omega arith;
          place = bad.place ∙ ap (λ (k : ℕ). node_block segment (k + bad.at)) size;
          before = subst (AreSoundRows segment params seal) (sym from) (before told);
          fault = inr (record {
            formed = λ other from_here l. formed_all told other (omega arith);
            repeated =
                repeats_is segment params seal all (length (nodes ++ more)) (first + bad.at) are (omega arith)
                ∙ ap₂ (λ (t : List ℕ) (x : ℕ). has t x) up_to (ap (λ (k : ℕ). get_or all (k + bad.at) 0) (sym size) ∙ get_behind (tags_of nodes) piece.tags bad.at 0)
                ∙ bad.repeated;
            first = λ earlier from_here l.
                repeats_is segment params seal (tags_of nodes ++ take bad.at piece.tags) (first + bad.at) earlier up_is l
                ∙ bad.first earlier (omega arith);
          });
        }
