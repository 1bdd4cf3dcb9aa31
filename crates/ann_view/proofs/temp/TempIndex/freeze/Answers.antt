use Rattle.std.proofs.Common.{[], List, ap, ◌∙◌}
use Rattle.ann_table.specs.Table.{TableView}
use Rattle.ann_frozen.specs.Frozen.{FrozenView, frozen_of}
use Rattle.ann_view.specs.Temp.{state_of}
use Rattle.ann_view.proofs.Inserts.{kept_more, temp, frozen_rw}
use Rattle.ann_view.proofs.temp.TempIndex.freeze.Goals as goal

pub invariant_of-self-2 : goal.invariant_of-self-2
invariant_of-self-2 c =
    kept_more c.self.inside.params c.self.inside.rw c.new.result c.self.inside.ros c.freeze.new.self c.self.inside.dead c.self.inside.begun (record { params = c.self.inside.rw.params; nodes = frozen_of c.self.inside.rw.nodes }) c.self.invariant c.self.invariant.table c.new.ensures c.in_ok-freeze.ensures.added

pub returns-clause-frozen : goal.returns-clause-frozen
returns-clause-frozen c =
    ap (λ (t : TableView). temp c.self.inside.params (state_of t c.freeze.new.self c.self.inside.dead c.self.inside.begun)) c.new.ensures
    ∙ ap (λ (t : List FrozenView). temp c.self.inside.params (state_of (record { params = c.self.inside.params; nodes = []; spare = 0 }) t c.self.inside.dead c.self.inside.begun)) c.in_ok-freeze.ensures.added
    ∙ frozen_rw c.args.self.now c.self.inside.params c.self.inside.rw c.self.inside.ros c.self.inside.dead c.self.inside.begun c.self.view_is c.self.inside.rw.params 0 (λ e. c.if-count-eq0.false (c.count.ensures ∙ e))
