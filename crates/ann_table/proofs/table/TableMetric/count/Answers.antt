use Rattle.std.proofs.Common.{◌∙◌, arith, vec_len, vec_capacity}
use Rattle.ann_table.proofs.Tables.{seen_count, few_seen}
use Rattle.ann_table.proofs.table.TableMetric.count.Goals as goal

pub overflow_cast-result : goal.overflow_cast-result
overflow_cast-result c =
    let few = few_seen c.self.inside.params c.self.inside.spare c.self.inside.labels.items c.self.inside.vectors c.self.inside.links c.args.self.now c.self.view_is (vec_len c.self.inside.labels) (vec_capacity c.self.inside.labels) c.self.inside.labels.ok.0 c.self.invariant.0 c.self.invariant.1 in
    let count = seen_count c.self.inside.params c.self.inside.spare c.self.inside.labels.items c.self.inside.vectors c.self.inside.links c.args.self.now c.self.view_is (vec_len c.self.inside.labels) (vec_capacity c.self.inside.labels) c.self.inside.labels.ok.0 c.self.invariant.0 in
    let size = c.self.inside.labels.ok.0 in
    let is = c.len.ensures in omega arith

pub returns : goal.returns
returns c = c.len.ensures ∙ c.self.inside.labels.ok.0 ∙ seen_count c.self.inside.params c.self.inside.spare c.self.inside.labels.items c.self.inside.vectors c.self.inside.links c.args.self.now c.self.view_is (vec_len c.self.inside.labels) (vec_capacity c.self.inside.labels) c.self.inside.labels.ok.0 c.self.invariant.0
