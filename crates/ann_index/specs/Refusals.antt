-- A refusal of a merge's steps, as the merge answers it.
use Rattle.ann_mdelete.specs.declared.refused.WorkRefused.{WorkRefused}
use Rattle.ann_mdelete.specs.declared.refused.WorkRefused.TheVariants as work
use Rattle.ann_ledger.specs.declared.refused.FinishWhy.{FinishWhy}
use Rattle.ann_ledger.specs.declared.refused.FinishWhy.TheVariants as ending
use Rattle.ann_index.specs.declared.refusal.MergeRefused.{MergeRefused}
use Rattle.ann_index.specs.declared.refusal.MergeRefused.TheVariants.{Stopped, Memory, LogFault, Disk, BadSegment}

-- that of its job
abbrev pub of_work : WorkRefused → MergeRefused
of_work work.Disk = Disk
of_work (work.BadSegment block) = BadSegment block
of_work work.Memory = Memory

-- that of its End
abbrev pub of_finish : FinishWhy → MergeRefused
of_finish (ending.Stopped at) = Stopped at
of_finish ending.Memory = Memory
of_finish ending.LogFault = LogFault
