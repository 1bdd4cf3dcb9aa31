use Rattle.std.proofs.Common.{◌≡◌, ◌-◌, ◌*◌, length}
use Rattle.ann_said.specs.Knowing.{Known}
use Rattle.ann_connection.specs.Opening.{Opening}
use Rattle.ann_session.proofs.Fills.{Filling}
use Rattle.ann_session.proofs.fill.fill.Given as goal

-- so many updates were made, and all accepted
abbrev pub invariant-loop-updates : goal.invariant-loop-updates
invariant-loop-updates g l = record {
  left : length l.filling ≡ l.count - 64 * l.updates;
  made : (run : Opening) (known : Known) → g.C.Connection.knows l.fn.connection run known →
      Filling run known (g.C.Connection.knows l.connection run) (g.C.Connection.counts l.fn.connection) (g.C.Connection.counts l.connection) l.seed l.count l.first l.updates l.filling l.at;
}
