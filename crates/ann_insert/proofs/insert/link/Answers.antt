use Rattle.std.proofs.Common.{◌≡◌, ◌≢◌, ◌<◌, ◌++◌, ℕ, List, sym, ap, ◌∙◌, subst, arith, length}
use Rattle.std.proofs.lemmas.List.Elements.{All-weaker}
use Rattle.ann_types.specs.Kept.{rule_of, kept}
use Rattle.ann_types.specs.declared.params.Params.{Params}
use Rattle.ann_prune.specs.Newer.{AreSettled}
use Rattle.ann_table.specs.Node.{apart_rows}
use Rattle.ann_types.specs.Rows.{AreNeighbours}
use Rattle.ann_types.proofs.Neighbours.{kept_may}
use Rattle.ann_insert.proofs.Settling.{kept_settled}
use Rattle.ann_insert.proofs.insert.link.Goals as goal

pub set_kept-requires-clause-neighbours : goal.set_kept-requires-clause-neighbours
set_kept-requires-clause-neighbours c =
    let apart : ℕ → ℕ → ℕ = apart_rows c.args.table.now.nodes in
    let others : List ℕ = c.args.others.now in
    let is : c.deref.result.now ≡ kept (rule_of c.args.table.now.params) apart c.args.row others =
    c.deref.ensures.0 ∙ c.prune.ensures.kept
    ∙ ap (λ (ps : Params). kept (rule_of ps) apart c.args.row c.add_all_within.new.self.rows) c.params.ensures
    ∙ ap (kept (rule_of c.args.table.now.params) apart c.args.row) (c.add_all_within.ensures.rows ∙ ap (λ t. t ++ others) c.requires.empty) in
    let inside = c.requires.row in
    subst (AreNeighbours c.args.table.now.params (length c.args.table.now.nodes) c.args.row) (sym is)
    (kept_may c.args.table.now.params apart (length c.args.table.now.nodes) c.args.row others
    (All-weaker (λ other. other < c.args.row) (λ other. other < length c.args.table.now.nodes) (λ x l. omega arith) others c.requires.others)
    (All-weaker (λ other. other < c.args.row) (λ other. other ≢ c.args.row) (λ x l e. omega arith) others c.requires.others))

pub set_kept-requires-clause-settled : goal.set_kept-requires-clause-settled
set_kept-requires-clause-settled c =
    let apart : ℕ → ℕ → ℕ = apart_rows c.args.table.now.nodes in
    let others : List ℕ = c.args.others.now in
    let is : c.deref.result.now ≡ kept (rule_of c.args.table.now.params) apart c.args.row others =
    c.deref.ensures.0 ∙ c.prune.ensures.kept
    ∙ ap (λ (ps : Params). kept (rule_of ps) apart c.args.row c.add_all_within.new.self.rows) c.params.ensures
    ∙ ap (kept (rule_of c.args.table.now.params) apart c.args.row) (c.add_all_within.ensures.rows ∙ ap (λ t. t ++ others) c.requires.empty) in
    subst (AreSettled (rule_of c.args.table.now.params) apart c.args.row (length c.args.table.now.nodes)) (sym is)
    (kept_settled (rule_of c.args.table.now.params) apart c.args.row (length c.args.table.now.nodes) others)
