use Rattle.std.proofs.Common.{◌≡◌, ◌<◌, ◌++◌, ◌∷◌, ℕ, [], true, ap, sym, subst, ◌∙◌, arith, length, get_or}
use Rattle.std.specs.Prelude.{All}
use Rattle.std.specs.List.{list_any}
use Rattle.ann_types.specs.Order.{has}
use Rattle.ann_types.specs.Kept.{rule_of}
use Rattle.ann_types.specs.Merge.{without}
use Rattle.ann_mdelete.specs.Rows.{gone_rows, behind}
use Rattle.ann_mdelete.proofs.Repairs.{repairs, all_gathered}
use Rattle.ann_mdelete.proofs.delete.Phase.repair.Goals as goal

pub prune-requires : goal.prune-requires
prune-requires c =
    let lists = c.args.self.now.lists.now in
    let gone = c.args.self.now.gone.now in
    let p = c.args.p in
    let list = c.get-list.result.now in
    let rows : c.gather_behind.new.candidates.rows ≡ without (p ∷ gone_rows gone) list ++ without (p ∷ gone_rows gone) (behind lists gone list) =
    c.in_ok-gather_behind.ensures ∙ ap (λ t. t ++ without (p ∷ gone_rows gone) (behind lists gone list)) (c.in_ok-gather.ensures ∙ ap (λ t. t ++ without (p ∷ gone_rows gone) list) c.clear-2.ensures.rows) in
    let each : (row : ℕ) → row < length lists → All (λ other. other < length c.args.self.now.decoded.now) (get_or lists row []) =
    λ row h. subst (λ n. All (λ other. other < n) (get_or lists row [])) (sym c.requires.rows.with_vectors) (c.requires.rows.graph row h).inside in
    record {
      rows = record {
        own = (let same = c.requires.rows.with_vectors in let row = c.requires.row in omega arith);
        others = all_gathered (λ row. row < length c.args.self.now.decoded.now) lists gone p list c.gather_behind.new.candidates.rows rows
            (subst (All (λ row. row < length c.args.self.now.decoded.now)) (sym c.get-list.ensures) (each p c.requires.row)) each;
      };
    }

pub returns : goal.returns
returns c =
    let lists = c.args.self.now.lists.now in
    let gone = c.args.self.now.gone.now in
    let p = c.args.p in
    let list = c.get-list.result.now in
    let rows : c.gather_behind.new.candidates.rows ≡ without (p ∷ gone_rows gone) list ++ without (p ∷ gone_rows gone) (behind lists gone list) =
    c.in_ok-gather_behind.ensures ∙ ap (λ t. t ++ without (p ∷ gone_rows gone) (behind lists gone list)) (c.in_ok-gather.ensures ∙ ap (λ t. t ++ without (p ∷ gone_rows gone) list) c.clear-2.ensures.rows) in
    let some : list_any (has (gone_rows gone)) list ≡ true = sym c.has_gone.ensures ∙ c.if-not-has_gone.false in
    c.prune.ensures.kept ∙ repairs (rule_of c.args.self.now.params.now) lists c.args.self.now.decoded.now gone p list c.gather_behind.new.candidates.rows c.requires.rows.with_vectors c.get-list.ensures some rows
