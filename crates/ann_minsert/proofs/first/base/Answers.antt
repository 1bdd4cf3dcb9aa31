use Rattle.std.proofs.Common.{◌≡◌, ℕ, List, sym, ap, subst, ◌∙◌, length}
use Rattle.ann_types.specs.Graph.{Graph}
use Rattle.ann_types.specs.Index.{Index}
use Rattle.ann_types.specs.Merge.{central, put_decoded}
use Rattle.ann_types.specs.declared.params.Params.{Params}
use Rattle.ann_types.proofs.Merges.{new_pids}
use Rattle.ann_types.proofs.Sets.{rises_from_increasing}
use Rattle.ann_table.specs.Node.{Node, graph_of}
use Rattle.ann_table.specs.Table.{TableView}
use Rattle.ann_minsert.specs.Base.{BaseView, AreListsOf, IsBaseOf, StandsFor}
use Rattle.ann_minsert.specs.Made.{vectors_in, links_in}
use Rattle.ann_minsert.proofs.TableRows.{lists_may, stands_is}
use Rattle.ann_minsert.proofs.Bases.{base_made}
use Rattle.ann_minsert.proofs.first.base.Goals as goal

pub of-requires : goal.of-requires
of-requires c =
    subst (λ (vs : List (List ℕ)). AreListsOf (length vs) c.copy_rows.new.lists) (sym c.in_ok-copy_rows.ensures.vectors)
    (subst (AreListsOf (length (vectors_in c.put_all.new.table.nodes))) (sym c.in_ok-copy_rows.ensures.lists) (lists_may c.put_all.new.table.params c.put_all.new.table.nodes c.known.ensures))

pub returns : goal.returns
returns c =
    let b : BaseView = c.in_ok-base.base in
    let params : Params = c.args.params.now in
    let nodes : List Node = c.put_all.new.table.nodes in
    let index : Index = record { params = params; book = c.args.book.now.book } in
    let made : graph_of nodes ≡ put_decoded index c.args.points.now =
    c.in_ok-put_all.ensures.graph
    ∙ ap (λ (t : TableView). put_decoded (record { params = t.params; book = c.args.book.now.book }) c.args.points.now) c.new-table.ensures in
    let params_are : c.put_all.new.table.params ≡ params = c.put_all.ensures.params ∙ ap (λ (t : TableView). t.params) c.new-table.ensures in
    let of_rows : IsBaseOf (links_in nodes) (vectors_in nodes) b =
    subst (λ ls. IsBaseOf ls (vectors_in nodes) b) c.in_ok-copy_rows.ensures.lists (subst (λ vs. IsBaseOf c.copy_rows.new.lists vs b) c.in_ok-copy_rows.ensures.vectors c.in_ok-base.ensures) in
    subst (λ (g : Graph). StandsFor g b) (base_made index c.args.points.now c.requires.most (rises_from_increasing (new_pids c.args.points.now) c.requires.rising))
    (subst (λ (g : Graph). StandsFor (record { entry = central params.d g.points; points = g.points }) b) made
    (subst (λ (ps : Params). StandsFor (record { entry = central ps.d (graph_of nodes).points; points = (graph_of nodes).points }) b) params_are
    (stands_is c.put_all.new.table.params nodes b c.known.ensures of_rows)))
