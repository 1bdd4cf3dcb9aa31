use Rattle.std.proofs.Common.{◌≡◌, ◌++◌, All, length, map, take}
use Rattle.ann_segment.specs.Directory.{item_of}
use Rattle.ann_mseal.proofs.front.add_rows.Given as goal

-- the rows so far were added
abbrev pub invariant-loop-row : goal.invariant-loop-row
invariant-loop-row g l = record {
  added : l.directory ≡ l.fn.directory ++ map (item_of l.segment.items) (take l.row-index l.survivors);
  codes : All (λ row. length (item_of l.segment.items row).1 ≡ l.segment.m) (take l.row-index l.survivors);
}
