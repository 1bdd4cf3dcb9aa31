-- What inserts work with.
use Rattle.std.specs.Prelude.{◌≡◌, ◌≤◌, ℕ, List, [], Result, OnOk, length, All, ◌<◌}
use Rattle.ann_types.specs.declared.params.Params.{Params}
use Rattle.ann_greedy.specs.Rows.{visited_rows}
use Rattle.ann_table.specs.Node.{Node, rows_of}
use Rattle.ann_insert.specs.Back.{most}
use Rattle.ann_insert.specs.declared.scratch.PutScratch.{PutScratch}

-- nothing is in it
pub record IsEmpty (scratch : PutScratch) : Type 0 where
  pub pool : scratch.pool.items ≡ []
  pub visited : scratch.visited.items ≡ []
  pub candidates : scratch.candidates.rows ≡ []
  pub kept : scratch.kept.items ≡ []
  pub kept_back : scratch.kept_back.items ≡ []

-- it has the rows that a walk to a vector visits, no candidates, and room for those of every prune that links the vector
pub record IsReady {T E : Type 0} (params : Params) (nodes : List Node) (vector : List ℕ) (result : Result T E) (scratch : PutScratch) : Type 0 where
  pub visited : OnOk result (scratch.visited.items ≡ visited_rows (rows_of params nodes) vector params.l_build (rows_of params nodes).start)
  pub rows : All (λ row. row < length nodes) scratch.visited.items
  pub empty : scratch.candidates.rows ≡ []
  pub room : OnOk result (length scratch.visited.items ≤ scratch.candidates.room)
  pub back : OnOk result (most ≤ scratch.candidates.room)
