use Rattle.std.proofs.Common.{sym, ap, ◌∙◌}
use Rattle.std.specs.Prelude.{is_some}
use Rattle.std.specs.FinMap.{get}
use Rattle.ann_tags.specs.Tags.{Pids}
use Rattle.ann_tags.proofs.Maps.{live_is}
use Rattle.ann_reopen.proofs.reading.Reading.is_live.Goals as goal

pub returns-clause-live : goal.returns-clause-live
returns-clause-live c live is =
    c.is_some.ensures
    ∙ ap is_some c.get.ensures
    ∙ ap (λ (m : Pids). is_some (get m c.args.tag)) is
    ∙ sym (live_is live c.args.tag)
