use Rattle.std.proofs.Common.{◌<◌, ◌≢◌, ℕ, List, sym, subst, ◌∙◌, length, vec_len, vec_capacity}
use Rattle.std.specs.List.{All}
use Rattle.ann_table.proofs.Tables.{seen_links_row, seen_links, known_is}
use Rattle.ann_table.proofs.table.TableGraph.neighbours.Goals as goal

pub get-requires : goal.get-requires
get-requires c = seen_links_row c.self.inside.params c.self.inside.spare c.self.inside.labels.items c.self.inside.vectors c.self.inside.links c.args.self.now c.self.view_is (vec_len c.self.inside.labels) (vec_capacity c.self.inside.labels) c.self.inside.labels.ok.0 c.self.invariant.0 c.args.row c.requires

pub returns-clause-links : goal.returns-clause-links
returns-clause-links c = c.get.ensures.list ∙ seen_links c.self.inside.params c.self.inside.spare c.self.inside.labels.items c.self.inside.vectors c.self.inside.links c.args.self.now c.self.view_is (vec_len c.self.inside.labels) (vec_capacity c.self.inside.labels) c.self.inside.labels.ok.0 c.self.invariant.0 c.args.row c.requires

pub returns-clause-inside : goal.returns-clause-inside
returns-clause-inside c =
    let sound = known_is c.self.inside.params c.self.inside.spare c.self.inside.labels.items c.self.inside.vectors c.self.inside.links c.args.self.now c.self.view_is (vec_len c.self.inside.labels) (vec_capacity c.self.inside.labels) c.self.inside.labels.ok.0 c.self.invariant.0 c.self.invariant.1 in
    subst (λ (t : List ℕ). All (λ other. other < length c.args.self.now.nodes) t) (sym (returns-clause-links c)) (sound.each c.args.row c.requires).links.inside

pub returns-clause-others : goal.returns-clause-others
returns-clause-others c =
    let sound = known_is c.self.inside.params c.self.inside.spare c.self.inside.labels.items c.self.inside.vectors c.self.inside.links c.args.self.now c.self.view_is (vec_len c.self.inside.labels) (vec_capacity c.self.inside.labels) c.self.inside.labels.ok.0 c.self.invariant.0 c.self.invariant.1 in
    subst (λ (t : List ℕ). All (λ other. other ≢ c.args.row) t) (sym (returns-clause-links c)) (sound.each c.args.row c.requires).links.others
