use Rattle.std.proofs.Common.{◌≡◌, ◌≢◌, ◌<◌, ◌++◌, ◌∷◌, [], ℕ, List, sym, ap, ◌∙◌, subst, length}
use Rattle.std.proofs.lemmas.List.Elements.{All-push}
use Rattle.ann_types.specs.Kept.{rule_of, kept}
use Rattle.ann_types.specs.declared.params.Params.{Params}
use Rattle.ann_prune.specs.Newer.{AreSettled}
use Rattle.ann_table.specs.Node.{node_at, apart_rows}
use Rattle.ann_types.specs.Rows.{AreNeighbours}
use Rattle.ann_table.proofs.Settled.{settled_push}
use Rattle.ann_types.proofs.Neighbours.{kept_may}
use Rattle.ann_insert.proofs.Settling.{kept_settled}
use Rattle.ann_insert.proofs.back.link_back.Goals as goal

pub prune_newer-requires-clause-settled : goal.prune_newer-requires-clause-settled
prune_newer-requires-clause-settled c =
    let apart : ℕ → ℕ → ℕ = apart_rows c.args.table.now.nodes in
    let links : List ℕ = (node_at c.args.table.now.nodes c.args.row).links in
    let rows : c.add_within.new.self.rows ≡ links ++ c.args.new ∷ [] =
    c.add_within.ensures.rows ∙ ap (λ t. t ++ c.args.new ∷ []) (c.gather_warm.ensures.rows ∙ ap (λ t. t ++ c.neighbours-2.result.now) c.requires.empty ∙ c.neighbours-2.ensures.links) in
    subst (λ (ps : Params). AreSettled (rule_of ps) apart c.args.row c.newer.result c.add_within.new.self.rows) (sym c.params-2.ensures)
    (subst (λ n. AreSettled (rule_of c.args.table.now.params) apart c.args.row n c.add_within.new.self.rows) (sym c.newer.ensures)
    (subst (AreSettled (rule_of c.args.table.now.params) apart c.args.row (node_at c.args.table.now.nodes c.args.row).newer) (sym rows)
    (settled_push (rule_of c.args.table.now.params) apart c.args.row (node_at c.args.table.now.nodes c.args.row).newer links c.args.new c.requires.behind.newer (c.known.ensures.each c.args.row c.requires.row).settled)))

pub set_kept-requires-clause-neighbours : goal.set_kept-requires-clause-neighbours
set_kept-requires-clause-neighbours c =
    let apart : ℕ → ℕ → ℕ = apart_rows c.args.table.now.nodes in
    let links : List ℕ = (node_at c.args.table.now.nodes c.args.row).links in
    let rows : c.add_within.new.self.rows ≡ links ++ c.args.new ∷ [] =
    c.add_within.ensures.rows ∙ ap (λ t. t ++ c.args.new ∷ []) (c.gather_warm.ensures.rows ∙ ap (λ t. t ++ c.neighbours-2.result.now) c.requires.empty ∙ c.neighbours-2.ensures.links) in
    let is : c.deref.result.now ≡ kept (rule_of c.args.table.now.params) apart c.args.row (links ++ c.args.new ∷ []) =
    c.deref.ensures.0 ∙ c.prune_newer.ensures.kept
    ∙ ap (λ (ps : Params). kept (rule_of ps) apart c.args.row c.add_within.new.self.rows) c.params-2.ensures
    ∙ ap (kept (rule_of c.args.table.now.params) apart c.args.row) rows in
    let known = c.known.ensures.each c.args.row c.requires.row in
    subst (AreNeighbours c.args.table.now.params (length c.args.table.now.nodes) c.args.row) (sym is)
    (kept_may c.args.table.now.params apart (length c.args.table.now.nodes) c.args.row (links ++ c.args.new ∷ [])
    (All-push (λ other. other < length c.args.table.now.nodes) links c.args.new known.links.inside c.requires.inside)
    (All-push (λ other. other ≢ c.args.row) links c.args.new known.links.others c.requires.other))

pub set_kept-requires-clause-settled : goal.set_kept-requires-clause-settled
set_kept-requires-clause-settled c =
    let apart : ℕ → ℕ → ℕ = apart_rows c.args.table.now.nodes in
    let is : c.deref.result.now ≡ kept (rule_of c.args.table.now.params) apart c.args.row c.add_within.new.self.rows =
    c.deref.ensures.0 ∙ c.prune_newer.ensures.kept
    ∙ ap (λ (ps : Params). kept (rule_of ps) apart c.args.row c.add_within.new.self.rows) c.params-2.ensures in
    subst (AreSettled (rule_of c.args.table.now.params) apart c.args.row (length c.args.table.now.nodes)) (sym is)
    (kept_settled (rule_of c.args.table.now.params) apart c.args.row (length c.args.table.now.nodes) c.add_within.new.self.rows)
