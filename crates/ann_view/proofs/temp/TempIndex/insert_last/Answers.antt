use Rattle.std.proofs.Common.{◌<◌, [], List, sym, ap, ◌∙◌, subst}
use Rattle.std.specs.Prelude.{All}
use Rattle.ann_types.specs.Graph.{Point}
use Rattle.ann_view.specs.Temp.{Temp, state_of}
use Rattle.ann_table.specs.Table.{TableView}
use Rattle.ann_frozen.specs.Frozen.{FrozenView, frozen_of}
use Rattle.ann_view.proofs.Inserts.{above_nodes, kept_more, temp, inserted_full}
use Rattle.ann_view.proofs.temp.TempIndex.insert_last.Goals as goal

pub freeze_with_point-requires-clause-above : goal.freeze_with_point-requires-clause-above
freeze_with_point-requires-clause-above c =
    above_nodes c.self.inside.rw.nodes c.args.pid
    (subst (λ (t : Temp). All (λ (x : Point). x.pid < c.args.pid) t.state.rw.points) (sym c.self.view_is) c.requires.above)

pub invariant_of-self-2 : goal.invariant_of-self-2
invariant_of-self-2 c =
    let frozen = c.in_ok-freeze_with_point.ensures.added in
    kept_more c.self.inside.params c.self.inside.rw c.new.result c.self.inside.ros c.freeze_with_point.new.ros c.self.inside.dead c.self.inside.begun (record { params = c.self.inside.rw.params; nodes = frozen_of frozen.full }) c.self.invariant c.self.invariant.table c.new.ensures frozen.added

pub returns-clause-inserted : goal.returns-clause-inserted
returns-clause-inserted c =
    let frozen = c.in_ok-freeze_with_point.ensures.added in
    ap (λ (t : TableView). temp c.self.inside.params (state_of t c.freeze_with_point.new.ros c.self.inside.dead c.self.inside.begun)) c.new.ensures
    ∙ ap (λ (t : List FrozenView). temp c.self.inside.params (state_of (record { params = c.self.inside.params; nodes = []; spare = 0 }) t c.self.inside.dead c.self.inside.begun)) frozen.added
    ∙ inserted_full c.args.self.now c.self.inside.params c.self.inside.rw c.self.inside.ros c.self.inside.dead c.self.inside.begun c.self.view_is c.self.inside.rw.params c.self.inside.rw.params frozen.full 0 c.args.pid c.args.tag c.args.vector.now c.self.invariant.table c.requires.last
    frozen.point
