use Rattle.std.proofs.Common.{◌∙◌}
use Rattle.ann_preamble.proofs.Within.{is_found}
use Rattle.ann_log.proofs.make.is_made.Goals as goal

pub returns-clause-made : goal.returns-clause-made
returns-clause-made g c told =
    c.is_some.ensures
    ∙ is_found (g.F.LogFile.seen c.args.file.now) c.deref.result.now c.in_ok-read.field-0 (c.deref.ensures.value ∙ c.in_ok-bytes.ensures.bytes told) c.in_ok-read.ensures.found
