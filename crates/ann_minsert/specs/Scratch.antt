-- What links are made with.
use Rattle.std.specs.Prelude.{◌≡◌, []}
use Rattle.ann_minsert.specs.declared.scratch.LinkScratch.{LinkScratch}

-- nothing is in it
pub record IsEmpty (scratch : LinkScratch) : Type 0 where
  pub pool : scratch.pool.items ≡ []
  pub visited : scratch.visited.items ≡ []
  pub candidates : scratch.candidates.rows ≡ []
  pub code : scratch.code.items ≡ []
  pub own : scratch.own.items ≡ []
