-- Why the list of a log isn't read.
use Rattle.ann_base.specs.declared.refused.BaseRefused.{BaseRefused}
use Rattle.ann_base.specs.declared.refused.BaseRefused.TheVariants as base
use Rattle.ann_reopen.specs.declared.judged.JudgeRefused.{JudgeRefused}
use Rattle.ann_reopen.specs.declared.judged.JudgeRefused.TheVariants as judging
use Rattle.ann_state.specs.declared.refused.ListRefused.{ListRefused}
use Rattle.ann_state.specs.declared.refused.ListRefused.TheVariants.{BadLog, BadSegment, Disk, Memory}

-- a refusal of opening a segment
abbrev pub of_base : BaseRefused → ListRefused
of_base (base.BadSegment block) = BadSegment block
of_base base.Disk = Disk
of_base base.Memory = Memory

-- a refusal of judging the entries
abbrev pub of_judging : JudgeRefused → ListRefused
of_judging (judging.BadLog entry) = BadLog entry
of_judging judging.Memory = Memory
