use Rattle.std.proofs.Common.{◌≡◌, ◌<◌, ◌++◌, ◌∷◌, [], ℕ, List, refl, sym, ap, ◌∙◌, subst, arith, length}
use Rattle.std.specs.List.{AllByRecursion}
use Rattle.std.proofs.lemmas.List.Elements.{All-from_recursion, recursion_from_All}
use Rattle.ann_types.specs.Kept.{rule_of, kept}
use Rattle.ann_types.specs.declared.params.Params.{Params}
use Rattle.ann_types.proofs.Sets.{Rises, increasing_from_rises}
use Rattle.ann_types.proofs.Keeps.{kept_rises}
use Rattle.ann_types.proofs.Renamed.{Below}
use Rattle.ann_greedy.specs.Rows.{visited_rows}
use Rattle.ann_types.specs.Graph.{Graph, pids_of}
use Rattle.ann_types.proofs.Graphs.{pids_put}
use Rattle.ann_table.specs.Node.{Node, rows_of, first_row, apart_rows, linked, graph_of}
use Rattle.ann_table.specs.Table.{AreNodes}
use Rattle.ann_table.proofs.Sound.{nodes_added}
use Rattle.ann_table.proofs.Graphs.{pids_are}
use Rattle.ann_insert.specs.Back.{AreLinkedBack}
use Rattle.ann_insert.proofs.Putting.{put_from, out_inside, behind_all}
use Rattle.ann_insert.proofs.insert.put.Goals.{After-deref-2}
use Rattle.ann_insert.proofs.insert.put.Goals as goal

module _ (c : After-deref-2) where
  abbrev params : Params
  params = c.args.table.now.params

  abbrev nodes : List Node
  nodes = c.args.table.now.nodes

  abbrev node : Node
  node = record { pid = c.args.pid; tag = c.args.tag; vector = c.args.vector.now; links = []; newer = 0 }

  abbrev near : List ℕ
  near = visited_rows (rows_of params nodes) c.args.vector.now params.l_build (first_row nodes)

  row_is : c.count-row.result ≡ length nodes
  row_is = c.count-row.ensures ∙ ap length c.prepare.ensures.nodes

  seen_is : c.deref.result.now ≡ near
  seen_is = c.deref.ensures.value ∙ c.in_ok-prepare.ensures.ready.visited

  near_below : Below (length nodes) near
  near_below = subst (AllByRecursion (λ row. row < length nodes)) c.in_ok-prepare.ensures.ready.visited (recursion_from_All (λ row. row < length nodes) c.prepare.new.scratch.visited.items c.in_ok-prepare.ensures.ready.rows)

  rows_are : c.add.new.self.nodes ≡ nodes ++ node ∷ []
  rows_are = c.add.ensures.nodes ∙ ap (λ ns. ns ++ node ∷ []) c.prepare.ensures.nodes

  params_are : c.add.new.self.params ≡ params
  params_are = c.add.ensures.params ∙ c.prepare.ensures.params

  own_is : c.deref-2.result.now ≡ kept (rule_of params) (apart_rows c.add.new.self.nodes) c.count-row.result c.deref.result.now
  own_is = c.deref-2.ensures.0 ∙ c.link.ensures.kept ∙ ap (λ (ps : Params). kept (rule_of ps) (apart_rows c.add.new.self.nodes) c.count-row.result c.deref.result.now) params_are

  linked_are : c.link.new.table.nodes ≡ linked c.add.new.self.nodes c.count-row.result c.deref-2.result.now (length c.add.new.self.nodes)
  linked_are = c.link.ensures.nodes ∙ ap (λ t. linked c.add.new.self.nodes c.count-row.result t (length c.add.new.self.nodes)) (sym c.deref-2.ensures.0)

  sound_added : AreNodes params (nodes ++ node ∷ [])
  sound_added = nodes_added params nodes node c.known.ensures c.requires.above c.requires.small c.requires.vector
      (record { rising = λ k l. absurd (omega arith); inside = λ k d l. absurd (omega arith); others = λ k d l. absurd (omega arith); few = omega arith }) refl

  out_below : Below c.count-row.result c.deref-2.result.now
  out_below = out_inside params nodes c.args.pid c.args.tag c.args.vector.now c.known.ensures sound_added near_below c.count-row.result row_is c.deref.result.now seen_is c.add.new.self.nodes rows_are c.deref-2.result.now own_is (length c.add.new.self.nodes) c.link.new.table.nodes linked_are

pub link_all_back-requires-clause-rows : goal.link_all_back-requires-clause-rows
link_all_back-requires-clause-rows c = All-from_recursion (λ row. row < c.count-row.result) c.deref-2.result.now (out_below c)

pub link_all_back-requires-clause-distinct : goal.link_all_back-requires-clause-distinct
link_all_back-requires-clause-distinct c =
    increasing_from_rises c.deref-2.result.now
    (subst Rises (sym (own_is c)) (kept_rises (rule_of c.args.table.now.params) (apart_rows c.add.new.self.nodes) c.count-row.result c.deref.result.now))

pub link_all_back-requires-clause-behind : goal.link_all_back-requires-clause-behind
link_all_back-requires-clause-behind c =
    behind_all c.args.table.now.params c.args.table.now.nodes c.args.pid c.args.tag c.args.vector.now c.known.ensures (sound_added c) (near_below c) c.count-row.result (row_is c) c.deref.result.now (seen_is c) c.add.new.self.nodes (rows_are c) c.deref-2.result.now (own_is c) (length c.add.new.self.nodes) c.link.new.table.nodes (linked_are c)

pub returns-clause-put : goal.returns-clause-put
returns-clause-put c =
    let d : After-deref-2 = (goal.at.returns-clause-put c).After-deref-2 in
    put_from c.args.table.now.params c.args.table.now.nodes c.args.pid c.args.tag c.args.vector.now c.known.ensures (sound_added d) (near_below d) c.count-row.result (row_is d) c.deref.result.now (seen_is d) c.add.new.self.nodes (rows_are d) c.deref-2.result.now (own_is d) (length c.add.new.self.nodes) c.link.new.table.nodes (linked_are d)
    c.link_all_back.new.table.nodes c.link_all_back.ensures.same
    (λ apart are. subst (λ (ps : Params). AreLinkedBack (rule_of ps) apart c.count-row.result c.deref-2.result.now c.link.new.table.nodes c.link_all_back.new.table.nodes) (c.link.ensures.params ∙ params_are d) (c.link_all_back.ensures.linked apart are))

pub returns-clause-pids : goal.returns-clause-pids
returns-clause-pids c =
    sym (pids_are c.link_all_back.new.table.nodes)
    ∙ ap (λ (g : Graph). pids_of g.points) (returns-clause-put c)
    ∙ pids_put c.args.table.now.params (graph_of c.args.table.now.nodes) c.args.pid c.args.tag c.args.vector.now
    ∙ ap (λ t. t ++ c.args.pid ∷ []) (pids_are c.args.table.now.nodes)
