use Rattle.std.proofs.Common.{sym, ◌∙◌, arith, vec_len, vec_capacity}
use Rattle.std.proofs.lemmas.Bool.{false≢true}
use Rattle.ann_table.proofs.Tables.{seen_count, first_is, some_from}
use Rattle.ann_table.proofs.table.TableGraph.entry.Goals as goal

pub returns-else-is_empty-clause-inside : goal.returns-else-is_empty-clause-inside
returns-else-is_empty-clause-inside c =
    let some = some_from (vec_len c.self.inside.labels) (sym c.is_empty.ensures ∙ c.if-is_empty.false) in
    let count = seen_count c.self.inside.params c.self.inside.spare c.self.inside.labels.items c.self.inside.vectors c.self.inside.links c.args.self.now c.self.view_is (vec_len c.self.inside.labels) (vec_capacity c.self.inside.labels) c.self.inside.labels.ok.0 c.self.invariant.0 in
    let size = c.self.inside.labels.ok.0 in omega arith

pub returns-else-is_empty-clause-start : goal.returns-else-is_empty-clause-start
returns-else-is_empty-clause-start c = first_is c.args.self.now.nodes (returns-else-is_empty-clause-inside c)

pub returns-else-is_empty-clause-none : goal.returns-else-is_empty-clause-none
returns-else-is_empty-clause-none c = (
  λ e. absurd (false≢true (sym e)),
  λ e. absurd (let some = returns-else-is_empty-clause-inside c in omega arith),
)
