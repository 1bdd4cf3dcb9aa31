-- The lists of a segment, read piece by piece.
use Rattle.std.proofs.Common.{◌≡◌, ◌≢◌, ℕ, zero, suc, ◌+◌, ◌-◌, ◌*◌, ◌/◌, ◌≤◌, ◌<◌, List, [], ◌∷◌, ◌++◌, None, map, length, get_or, min, refl, sym, ap, subst, ◌∙◌, arith, inl, inr, length-append, add-one}
use Rattle.std.specs.Prelude.{Result, Ok, Err, IfErr}
use Rattle.std.specs.Result.{IsErrAnd}
use Rattle.std.proofs.lemmas.Bool.{cases_lt}
use Rattle.std.proofs.lemmas.List.{get_or_append_left, get_or-append_right}
use Rattle.std.proofs.lemmas.List.FromFn.{fill_by_all, get_or-map-range_with_len, length-map-range_with_len}
use Rattle.ann_types.specs.Codes.{Book}
use Rattle.ann_types.specs.Graph.{Graph}
use Rattle.ann_types.specs.Rows.{AreNeighbours, pid_at}
use Rattle.ann_types.specs.declared.params.Params.{Params}
use Rattle.ann_types.proofs.Renamed.{Below}
use Rattle.ann_fault.specs.Counts.{next_count}
use Rattle.ann_vault.specs.Reads.{more_reads}
use Rattle.ann_block.specs.Node.{NodeFields, node_of}
use Rattle.ann_segment.specs.Segment.{SegmentView}
use Rattle.ann_segment.specs.Rows.{block_at, judged, links_in, row_block}
use Rattle.ann_mdelete.specs.Loaded.{LoadedView, node_on, piece_rows}
use Rattle.ann_mdelete.specs.Refusals.{Counts, HasLoaded, IsUnloaded}
use Rattle.ann_mdelete.specs.declared.refused.WorkRefused.{WorkRefused}
use Rattle.ann_mdelete.specs.declared.refused.WorkRefused.TheVariants.{Disk, BadSegment, Memory}
use Rattle.ann_mdelete.proofs.Held.{page_block}
use Rattle.ann_mdelete.proofs.Loads.{count_loaded}
use Rattle.ann_mplan.specs.Old.{AreUnread, HasFirstLists, HasLists, lists_in_segment, pieces_of}

reads_more : (n m count : ℕ) → more_reads n (more_reads m count) ≡ more_reads (n + m) count
reads_more zero m count = ap (λ (k : ℕ). more_reads k count) (let e : m ≡ 0 + m = omega arith in e)
reads_more (suc n) m count = ap next_count (reads_more n m count) ∙ ap (λ (k : ℕ). more_reads k count) (let e : suc (n + m) ≡ suc n + m = omega arith in e)

-- how many rows the pieces before this one have
abbrev pub rows_before : ℕ → ℕ → ℕ
rows_before count at = min (256 * at) count

module _ {S : Type 0} (tells : Type 0) (bytes : S → List ℕ) (segment : SegmentView S) (params : Params) where
  pub none_read : (lists : List (List ℕ)) (counts : Counts) → lists ≡ [] → HasFirstLists tells bytes segment params (rows_before (length segment.items) 0) 0 lists counts counts
  none_read lists counts none = record {
    count = (let size : length lists ≡ 0 = ap length none in omega arith);
    neighbours = λ row h. absurd (omega arith);
    told = λ t row h. absurd (omega arith);
    sound = λ t row h. absurd (omega arith);
    reads = refl;
    calm = refl;
  }

  -- one piece more
  pub piece_more : (at first : ℕ) (lists lists' : List (List ℕ)) (piece : LoadedView) (old now new : Counts) → first ≡ 256 * at → first < length segment.items → HasFirstLists tells bytes segment params (rows_before (length segment.items) at) at lists old now → HasLoaded tells bytes segment params first piece now new → lists' ≡ lists ++ piece.lists → HasFirstLists tells bytes segment params (rows_before (length segment.items) (at + 1)) (at + 1) lists' old new
  piece_more at first lists lists' piece old now new is within before loaded more =
      let count : ℕ = length segment.items in
      let long = count_loaded segment params first (piece_rows count first) piece loaded.rows in
      let size : length lists ≡ first = before.count ∙ (let e : rows_before count at ≡ first = omega arith in e) in
      let both = length-append lists piece.lists in
      let left : (row : ℕ) → row < first → get_or lists' row [] ≡ get_or lists row [] =
      λ row h. ap (λ (t : List (List ℕ)). get_or t row []) more ∙ get_or_append_left lists piece.lists [] row (omega arith) in
      let right : (row : ℕ) → first ≤ row → get_or lists' row [] ≡ get_or piece.lists (row - first) [] =
      λ row h. ap (λ (t : List (List ℕ)). get_or t row []) more ∙ get_or-append_right lists piece.lists first row [] size h in
      let block : tells → (row : ℕ) → first ≤ row → row < rows_before count (at + 1) → block_at piece.page (row - first) ≡ row_block segment (bytes segment.seal) row =
      λ t row a b. page_block segment (bytes segment.seal) piece.page first (row - first) (omega arith) (loaded.told t) ∙ ap (row_block segment (bytes segment.seal)) (let e : first + (row - first) ≡ row = omega arith in e) in
      record {
        count = ap length more ∙ both ∙ (let e : length lists + length piece.lists ≡ rows_before count (at + 1) = omega arith in e);
        neighbours = λ row h. elim (cases_lt row first) as (λ _. AreNeighbours params count row (get_or lists' row [])) [
          | inl l ↦ subst (AreNeighbours params count row) (sym (left row l)) (before.neighbours row (omega arith))
          | inr l ↦ subst (AreNeighbours params count row) (sym (right row l)) (subst (λ (k : ℕ). AreNeighbours params count k (get_or piece.lists (row - first) [])) (let e : first + (row - first) ≡ row = omega arith in e) (loaded.rows.neighbours (row - first) (omega arith)))
        ];
        told = λ t row h. elim (cases_lt row first) as (λ _. get_or lists' row [] ≡ links_in segment (bytes segment.seal) params.d row) [
          | inl l ↦ left row l ∙ before.told t row (omega arith)
          | inr l ↦ right row l ∙ ap (λ (s : List (List ℕ)). get_or s (row - first) []) loaded.rows.listed
              ∙ get_or-map-range_with_len (λ k. (node_on params piece.page k).neighbours) 0 (piece_rows count first) (row - first) (row - first) [] (omega arith) (omega arith)
              ∙ ap (λ (b : List ℕ). (node_of params.d b).neighbours) (block t row l h)
        ];
        sound = λ t row h. elim (cases_lt row first) as (λ _. judged segment params (row_block segment (bytes segment.seal) row) row ≡ None) [
          | inl l ↦ before.sound t row (omega arith)
          | inr l ↦ ap (λ (b : List ℕ). judged segment params b row) (sym (block t row l h))
              ∙ subst (λ (k : ℕ). judged segment params (block_at piece.page (row - first)) k ≡ None) (let e : first + (row - first) ≡ row = omega arith in e) (loaded.rows.format (row - first) (omega arith))
        ];
        reads = loaded.counted.read ∙ ap next_count before.reads ∙ ap (λ (k : ℕ). more_reads k old.reads) (sym (add-one at));
        calm = loaded.counted.calm ∙ before.calm;
      }

  -- all pieces
  pub all_read : (at : ℕ) (lists : List (List ℕ)) (old new : Counts) → at ≡ pieces_of (length segment.items) → HasFirstLists tells bytes segment params (rows_before (length segment.items) at) at lists old new → HasLists tells bytes segment params lists old new
  all_read at lists old new is w =
      let n : ℕ = length segment.items in
      let whole : rows_before n at ≡ n = omega arith in
      let count : length lists ≡ n = w.count ∙ whole in
      record {
        count = count;
        graph = λ row h. subst (λ (k : ℕ). AreNeighbours params k row (get_or lists row [])) (sym count) (w.neighbours row (omega arith));
        told = λ t. fill_by_all (links_in segment (bytes segment.seal) params.d) lists n [] count (λ row h. w.told t row (omega arith));
        sound = λ t row h. w.sound t row (omega arith);
        reads = w.reads ∙ ap (λ (k : ℕ). more_reads k old.reads) is;
        calm = w.calm;
      }

  -- a piece that is refused
  pub refused_then : (at first : ℕ) (lists : List (List ℕ)) (page : List ℕ) (old now new : Counts) (why : WorkRefused) → first ≡ 256 * at → first < length segment.items → HasFirstLists tells bytes segment params (rows_before (length segment.items) at) at lists old now → IsUnloaded tells bytes segment params first page now new why → AreUnread tells bytes segment params old new why
  refused_then at first lists page old now new Disk is within before refused = record {
    reads = (at, refused.unread ∙ before.reads);
    faulty = refused.faulty ∙ ap next_count before.calm;
  }
  refused_then at first lists page old now new (BadSegment block) is within before refused =
      let n : ℕ = length segment.items in
      let i : ℕ = refused.row.at in
      let inside = refused.row.within in
      let same : tells → (k : ℕ) → k < piece_rows n first → block_at page k ≡ row_block segment (bytes segment.seal) (first + k) =
      λ t k h. page_block segment (bytes segment.seal) page first k h (refused.told t) in
      record {
        row = first + i;
        within = omega arith;
        place = refused.row.place;
        bad = λ t. subst (λ (b : List ℕ). judged segment params b (first + i) ≢ None) (same t i inside) refused.row.bad;
        earlier = λ t below h. elim (cases_lt below first) as (λ _. judged segment params (row_block segment (bytes segment.seal) below) below ≡ None) [
          | inl l ↦ before.sound t below (omega arith)
          | inr l ↦ subst (λ (k : ℕ). judged segment params (row_block segment (bytes segment.seal) k) k ≡ None) (let e : first + (below - first) ≡ below = omega arith in e)
              (ap (λ (b : List ℕ). judged segment params b (first + (below - first))) (sym (same t (below - first) (omega arith))) ∙ refused.row.earlier (below - first) (omega arith))
        ];
        reads = refused.counted.read ∙ ap next_count before.reads ∙ ap (λ (k : ℕ). more_reads k old.reads) (let e : suc at ≡ 1 + (first + i) / 256 = omega arith in e);
        calm = refused.counted.calm ∙ before.calm;
      }
  refused_then at first lists page old now new Memory is within before refused = record {
    reads = (refused.reads.0 + at, refused.reads.2 ∙ ap (more_reads refused.reads.0) before.reads ∙ reads_more refused.reads.0 at old.reads);
    calm = refused.calm ∙ before.calm;
  }

  -- no memory for the lists of a piece that was read
  pub unread_after : (at first : ℕ) (lists : List (List ℕ)) (piece : LoadedView) (old now new : Counts) → HasFirstLists tells bytes segment params (rows_before (length segment.items) at) at lists old now → HasLoaded tells bytes segment params first piece now new → AreUnread tells bytes segment params old new Memory
  unread_after at first lists piece old now new before loaded = record {
    reads = (suc at, loaded.counted.read ∙ ap next_count before.reads);
    calm = loaded.counted.calm ∙ before.calm;
  }

-- a refusal that is handed on
pub refused_as : {T : Type 0} (P : WorkRefused → Type 0) (result : Result T WorkRefused) (why : WorkRefused) → IsErrAnd result (λ e. e ≡ why) → P why → IfErr result P
refused_as P (Ok x) why is refused = absurd is
refused_as P (Err e) why is refused = subst P (sym is) refused
