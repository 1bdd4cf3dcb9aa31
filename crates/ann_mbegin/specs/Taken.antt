-- What a merge takes from a view at its open Begin.
use Rattle.std.specs.Prelude.{◌≡◌, ◌+◌, ◌*◌, ℕ, MatchOption, map, take}
use Rattle.ann_types.specs.Fold.{Begun}
use Rattle.ann_pq.specs.Codebook.{CodebookView}
use Rattle.ann_frozen.specs.Frozen.{FrozenView}
use Rattle.ann_table.specs.Node.{graph_of}
use Rattle.ann_merge.specs.Job.{Order}
use Rattle.ann_view.specs.View.{IndexView}

-- it is what the view keeps for that Begin, with its segment, a codebook, and the number by the Begin's position
pub record IsTakenFrom {S : Type 0} (view : IndexView S) (codebook : CodebookView) (begun : Begun) (order : Order S) : Type 0 where
  pub old : order.old ≡ view.segment
  pub frozen : map (λ (f : FrozenView). graph_of f.nodes) order.frozen ≡ take begun.frozen view.memory.ros
  pub gone : order.gone ≡ begun.gone
  pub number : order.number ≡ 2 * begun.position + 1
  pub params : order.params ≡ view.params
  pub book : order.book ≡ codebook

abbrev pub IsTaken : {S : Type 0} → IndexView S → CodebookView → Order S → Type 0
IsTaken view codebook order = MatchOption view.memory.begun ⊥ (λ begun. IsTakenFrom view codebook begun order)

-- the view's open Begin stands at this position
abbrev pub OpensAt : {S : Type 0} → IndexView S → ℕ → Type 0
OpensAt view position = MatchOption view.memory.begun ⊥ (λ begun. begun.position ≡ position)
