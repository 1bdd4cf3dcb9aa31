use Rattle.std.proofs.Common.{◌∙◌, vec_len, vec_capacity}
use Rattle.ann_table.proofs.Tables.{seen_vector_row, seen_vector}
use Rattle.ann_table.proofs.table.TableGraph.vector.Goals as goal

pub get-requires : goal.get-requires
get-requires c = seen_vector_row c.self.inside.params c.self.inside.spare c.self.inside.labels.items c.self.inside.vectors c.self.inside.links c.args.self.now c.self.view_is (vec_len c.self.inside.labels) (vec_capacity c.self.inside.labels) c.self.inside.labels.ok.0 c.self.invariant.0 c.args.row c.requires

pub returns-clause-vector : goal.returns-clause-vector
returns-clause-vector c = c.get.ensures.vector ∙ seen_vector c.self.inside.params c.self.inside.spare c.self.inside.labels.items c.self.inside.vectors c.self.inside.links c.args.self.now c.self.view_is (vec_len c.self.inside.labels) (vec_capacity c.self.inside.labels) c.self.inside.labels.ok.0 c.self.invariant.0 c.args.row c.requires
