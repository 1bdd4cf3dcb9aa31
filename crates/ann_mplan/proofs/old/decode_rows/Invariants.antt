use Rattle.std.proofs.Common.{◌≡◌, take, length}
use Rattle.std.specs.Prelude.{All}
use Rattle.ann_mplan.specs.Old.{decoded_items}
use Rattle.ann_mplan.proofs.old.decode_rows.Given as goal

-- the vectors of the rows so far, of one width
abbrev pub invariant-loop-row : goal.invariant-loop-row
invariant-loop-row g l = record {
  vectors : l.decoded ≡ decoded_items l.book.book (take l.row l.segment.items);
  same : All (λ vector. length vector ≡ l.book.d) l.decoded;
}
