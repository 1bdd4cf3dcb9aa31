-- The lists of a segment, whichever eyes have read its pieces.
use Rattle.std.proofs.Common.{◌≡◌, ℕ, zero, suc, ◌+◌, ◌*◌, ◌≤◌, ◌<◌, List, [], ◌++◌, refl, ap, subst, ◌∙◌, arith, take, length, get_or}
use Rattle.std.specs.Prelude.{Some}
use Rattle.std.proofs.lemmas.List.{take_all}
use Rattle.ann_types.specs.declared.params.Params.{Params}
use Rattle.ann_vault.specs.Reads.{more_reads}
use Rattle.ann_segment.specs.Segment.{SegmentView}
use Rattle.ann_crew.specs.Crew.{ArePieces}
use Rattle.ann_mdelete.specs.Loaded.{piece_rows}
use Rattle.ann_mdelete.specs.Refusals.{Counts, counts_of}
use Rattle.ann_mdelete.proofs.Loads.{count_loaded}
use Rattle.ann_mlaws.specs.Rows.{AreOldLists}
use Rattle.ann_mplan.specs.Old.{HasFirstLists, pieces_of}
use Rattle.ann_mplan.proofs.Reading.{all_read, none_read, piece_more, rows_before}
use Rattle.ann_mphases.specs.Pieces.{joined}
use Rattle.ann_mphases.specs.Read.{IsReadPiece}
use Rattle.ann_mphases.proofs.Joins.{joined_more, piece_at}

module _ {S : Type 0} (tells : Type 0) (bytes : S → List ℕ) (segment : SegmentView S) (params : Params) where
  pub read_few : (number : ℕ) (lists : List (List ℕ)) → IsReadPiece tells bytes segment params number lists → length lists ≤ 256
  read_few number lists is =
      let size = ap length is.listed in
      let rows = count_loaded segment params (256 * number) (piece_rows (length segment.items) (256 * number)) is.piece is.rows in
      omega arith

  -- the counts of an eye that read so many pieces, from none on
  counted : ℕ → Counts
  counted k = counts_of (more_reads k 0) 0

  -- the first pieces are as if one eye had read them
  first_lists : (pieces : List (List (List ℕ))) → length pieces ≡ pieces_of (length segment.items) → ((i : ℕ) (d : List (List ℕ)) → i < length pieces → IsReadPiece tells bytes segment params i (get_or pieces i d)) → (k : ℕ) → k ≤ length pieces → HasFirstLists tells bytes segment params (rows_before (length segment.items) k) k (joined (take k pieces)) (counted 0) (counted k)
  unfolding counted
  first_lists pieces many are zero h = none_read tells bytes segment params (joined (take 0 pieces)) (counted 0) refl
  first_lists pieces many are (suc k) h =
      let here : k < length pieces = omega arith in
      let is = are k [] here in
      subst (λ (n : ℕ). HasFirstLists tells bytes segment params (rows_before (length segment.items) n) n (joined (take n pieces)) (counted 0) (counted (suc k)))
      (let e : k + 1 ≡ suc k = omega arith in e)
      (piece_more tells bytes segment params k (256 * k) (joined (take k pieces)) (joined (take (k + 1) pieces)) is.piece (counted 0) (counted k) (counted (suc k)) refl (omega arith)
      (first_lists pieces many are k (omega arith))
      (record { rows = is.rows; told = is.told; counted = record { read = refl; calm = refl } })
      (joined_more pieces k [] here ∙ ap (λ t. joined (take k pieces) ++ t) is.listed))

  -- all pieces
  pub old_lists : (count : ℕ) (pieces : List (List (List ℕ))) → count ≡ pieces_of (length segment.items) → ArePieces (IsReadPiece tells bytes segment params) 0 count pieces → AreOldLists tells bytes params (Some segment) (joined pieces)
  old_lists count pieces is are =
      let n : ℕ = length pieces in
      let many : n ≡ pieces_of (length segment.items) = are.many ∙ is in
      let first = first_lists pieces many (piece_at (IsReadPiece tells bytes segment params) count pieces are) n (omega arith) in
      let all = all_read tells bytes segment params n (joined pieces) (counted 0) (counted n) many
      (subst (λ (t : List (List (List ℕ))). HasFirstLists tells bytes segment params (rows_before (length segment.items) n) n (joined t) (counted 0) (counted n)) (take_all n pieces (omega arith)) first) in
      record { count = all.count; graph = all.graph; told = all.told }
