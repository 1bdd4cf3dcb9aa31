use Rattle.ann_init.specs.Input.{IsUnread}
use Rattle.ann_init.proofs.Readings.{if_err}
use Rattle.ann_init.proofs.book.read_book.Goals as goal

pub returns-in_err-bytes-clause-unread : goal.returns-in_err-bytes-clause-unread
returns-in_err-bytes-clause-unread g c =
    let left = g.S.Source.left in
    if_err c.from_residual.result (IsUnread c.args.params.now (left c.args.input.now) (left c.read_bytes.new.input)) c.in_err-bytes.field-0.0 c.from_residual.ensures.1 (c.in_err-bytes.ensures.unread c.args.params.now)
