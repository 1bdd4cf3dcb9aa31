use Rattle.std.proofs.Common.{◌≡◌, ◌≤◌, ◌<◌, ◌-◌, ℕ, List, length, take}
use Rattle.std.specs.Prelude.{All}
use Rattle.ann_greedy.specs.Shows.{AreFar, AreRows, Shows}
use Rattle.ann_beam.proofs.Choosing.{Choosing}
use Rattle.ann_beam.proofs.candidates.choose.Given as goal

-- the rows so far are the first of the round
abbrev pub invariant-loop-count : goal.invariant-loop-count
invariant-loop-count l = record {
  size : length l.rows ≡ length l.fn.rows;
  few : l.count ≤ l.w;
  limit : l.guided.limit ≡ l.fn.guided.limit;
  far : (far : ℕ → ℕ) → AreFar far l.fn.guided.items → AreFar far l.guided.items;
  among : (count : ℕ) → AreRows count l.fn.guided.items → AreRows count l.guided.items;
  inside : (count : ℕ) → AreRows count l.fn.guided.items → All (λ row. row < count) (take l.count l.rows);
  chosen : (far : ℕ → ℕ) (visited order : List ℕ) → Shows far visited order l.fn.guided → Choosing l.w (l.w - l.count) (take l.count l.rows) l.fn.guided l.guided far visited order;
}

abbrev pub decreases-loop-count : goal.decreases-loop-count
decreases-loop-count l = l.w - l.count
