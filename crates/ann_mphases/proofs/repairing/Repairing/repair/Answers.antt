use Rattle.std.proofs.Common.{◌≡◌, ◌*◌, ℕ, Bool, List, [], ap, sym, subst, arith, length, get_or}
use Rattle.ann_types.specs.declared.params.Params.{Params}
use Rattle.ann_mdelete.specs.Loaded.{piece_rows}
use Rattle.ann_mphases.proofs.Lefts.{ranked_each}
use Rattle.ann_mdelete.specs.Rows.{AreRows}
use Rattle.ann_mplan.specs.Packing.{IsRanked}
use Rattle.ann_mphases.specs.Repaired.{RepairView}
use Rattle.ann_mphases.proofs.repairing.Repairing.repair.Goals as goal

pub add_piece-requires : goal.add_piece-requires
add_piece-requires c =
    let params : Params = c.self.inside.params.now in
    let lists : List (List ℕ) = c.self.inside.lists.now in
    let vectors : List (List ℕ) = c.self.inside.decoded.now in
    let gone : List Bool = c.self.inside.gone.now in
    let w : AreRows params lists vectors gone = c.self.invariant.0 in
    let first : ℕ = 256 * c.args.number in
    let here = c.requires in
    let view : length lists ≡ length c.args.self.now.lists = ap (λ (r : RepairView). length r.lists) c.self.view_is in
    let values = w.with_values in
    λ i h. subst (λ (rows : List ℕ). IsRanked rows (get_or c.repair_piece.new.piece.lists i [])) (sym c.self.invariant.1)
    (ranked_each params lists vectors gone w first (piece_rows (length lists) first) c.repair_piece.new.piece.lists (omega arith) c.in_ok-repair_piece.ensures.repaired i h)
