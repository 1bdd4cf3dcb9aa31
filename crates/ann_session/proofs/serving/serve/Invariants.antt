use Rattle.std.proofs.Common.{◌≡◌, ◌+◌, [], map}
use Rattle.ann_script.specs.Order.{order_of}
use Rattle.ann_said.specs.Knowing.{Known, IsSaidSoFar}
use Rattle.ann_connection.specs.Opening.{Opening}
use Rattle.ann_session.proofs.Lines.{Serving}
use Rattle.ann_session.proofs.serving.serve.Given as goal

-- the commands so far were served
abbrev pub invariant-loop-command : goal.invariant-loop-command
invariant-loop-command g l = record {
  counted : l.number ≡ l.command-index + 1;
  served : (run : Opening) (known : Known) → g.C.Connection.knows l.fn.connection run known → IsSaidSoFar run.index run.list known [] →
      Serving run known (g.C.Connection.knows l.connection run) g.C.Connection.alone (g.C.Connection.counts l.fn.connection) (g.C.Connection.counts l.connection) l.name (map order_of l.commands) l.command-index l.fn.transcript l.transcript;
}
