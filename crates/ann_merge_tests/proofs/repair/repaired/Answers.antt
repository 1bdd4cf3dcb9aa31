use Rattle.std.proofs.Common.{◌≡◌, ◌≤◌, ◌∷◌, [], ℕ, List, sym, ap, ◌∙◌, subst, map, length, arith}
use Rattle.std.proofs.lemmas.List.{length-map}
use Rattle.ann_mdelete.specs.Rows.{AreLists}
use Rattle.ann_merge_tests.specs.Line.{line_lists}
use Rattle.ann_merge_tests.proofs.Lines.{line_is, line_size}
use Rattle.ann_merge_tests.proofs.repair.repaired.Goals as goal

pub repair_piece-requires-clause-rows : goal.repair_piece-requires-clause-rows
repair_piece-requires-clause-rows c =
    let n = length c.args.components.now in
    let is : c.in_ok-lists.lists ≡ line_lists n n = c.in_ok-lists.ensures in
    let size : length c.in_ok-lists.lists ≡ n = ap length is ∙ line_size n in
    let r = c.in_ok-params.ensures.1 in
    let wide = length-map c.args.components.now (λ x. x ∷ []) in
    let both = ap length c.in_ok-decoded.ensures.vectors in
    let values = c.requires.rows in
    record {
      graph = subst (AreLists c.in_ok-params.field-0) (sym is) (line_is c.in_ok-params.field-0 n (omega arith));
      with_vectors = omega arith;
      with_values = omega arith;
    }

pub repair_piece-requires-clause-first : goal.repair_piece-requires-clause-first
repair_piece-requires-clause-first c =
    let n = length c.args.components.now in
    let is : c.in_ok-lists.lists ≡ line_lists n n = c.in_ok-lists.ensures in
    let size : length c.in_ok-lists.lists ≡ n = ap length is ∙ line_size n in
    let inside = c.requires.first in
    omega arith
