-- What the Delete phase leaves of the old long-term graph.
use Rattle.std.specs.Prelude.{◌≡◌, ℕ, List, [], All, Option, length, map, get_or}
use Rattle.ann_types.specs.Codes.{decode}
use Rattle.ann_types.specs.Index.{Index}
use Rattle.ann_pq.specs.Codebook.{CodebookView}
use Rattle.ann_segment.specs.Directory.{Item}
use Rattle.ann_segment.specs.Segment.{SegmentView}
use Rattle.ann_mlaws.specs.Rows.{AreOldLists, left_lists, left_vectors, survivors_of}
use Rattle.ann_mphases.specs.Repaired.{RepairView, left_in, ranked_rows}
use Rattle.ann_mphases.specs.declared.left.Left.{Left}

-- the rows that survive, and by their ranks their new lists and their vectors
pub record IsPacked (rows : RepairView) (left : Left) : Type 0 where
  pub survivors : left.survivors.items ≡ left_in rows
  pub lists : left.lists ≡ ranked_rows rows 0 (length rows.gone)
  pub vectors : left.decoded ≡ map (λ row. get_or rows.vectors row []) (left_in rows)

-- the same of the old graph and the deleted points; each vector has d components
pub record IsLeft {S : Type 0} (tells : Type 0) (bytes : S → List ℕ) (index : Index) (dead : List ℕ) (old : Option (SegmentView S)) (left : Left) : Type 0 where
  pub before : List (List ℕ)
  pub read : AreOldLists tells bytes index.params old before
  pub survivors : left.survivors.items ≡ survivors_of dead old
  pub lists : left.lists ≡ left_lists index dead old before
  pub vectors : left.decoded ≡ left_vectors index dead old
  pub wide : All (λ vector. length vector ≡ index.params.d) left.decoded

-- the code in each row stands for a vector of the codebook's dimension
abbrev pub AreWide : CodebookView → List Item → Type 0
AreWide book items = All (λ (item : Item). length (decode book.book item.1) ≡ book.d) items
