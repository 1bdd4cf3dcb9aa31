use Rattle.std.proofs.Common.{◌≡◌, ◌≤◌, ◌+◌, arith, take, length, subst, sym}
use Rattle.std.specs.Prelude.{Result, Err, IfErr}
use Rattle.std.proofs.lemmas.List.{length-take}
use Rattle.ann_init.specs.Input.{limit, IsUnread}
use Rattle.ann_init.specs.declared.refused.InitWhy.TheVariants.{Memory}
use Rattle.ann_init.proofs.Readings.{broken, if_err}
use Rattle.ann_init.proofs.input.read_bytes.Goals as goal

pub returns-in_err-extend_from_slice-in-Ok-clause-unread :
    goal.returns-in_err-extend_from_slice-in-Ok-clause-unread
returns-in_err-extend_from_slice-in-Ok-clause-unread g c = λ p.
    let left = g.S.Source.left in
    let short : length c.loop-buffer.bytes.items + length (take c.in-Ok.taken c.read_piece.new.buffer) ≤ limit = omega (arith, length-take c.in-Ok.taken c.read_piece.new.buffer, c.in-Ok.ensures.bound, c.min-room.ensures, c.loop-buffer.invariant.short, c.len-in-loop-buffer.ensures) in
    if_err c.from_residual.result (IsUnread p (left c.args.input.now) (left c.read_piece.new.input)) Memory c.from_residual.ensures.1
    (broken (left c.args.input.now) (left c.loop-buffer.input) (left c.read_piece.new.input) c.loop-buffer.bytes.items (take c.in-Ok.taken c.read_piece.new.buffer) c.loop-buffer.invariant.read c.in-Ok.ensures.bytes.0 short)
