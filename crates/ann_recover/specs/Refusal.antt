-- Why an index isn't opened again.
use Rattle.ann_log.specs.declared.refused.OpenWhy.{OpenWhy}
use Rattle.ann_log.specs.declared.refused.OpenWhy.TheVariants as opening
use Rattle.ann_resume.specs.declared.refused.RemoveRefused.{RemoveRefused}
use Rattle.ann_resume.specs.declared.refused.RemoveRefused.TheVariants as remove
use Rattle.ann_segment.specs.declared.refused.VerifyRefused.{VerifyRefused}
use Rattle.ann_segment.specs.declared.refused.VerifyRefused.TheVariants as verify
use Rattle.ann_state.specs.declared.refused.ListRefused.{ListRefused}
use Rattle.ann_state.specs.declared.refused.ListRefused.TheVariants as list
use Rattle.ann_recover.specs.declared.refused.RecoverWhy.{RecoverWhy}
use Rattle.ann_recover.specs.declared.refused.RecoverWhy.TheVariants.{NoIndex, BadLog, BadSegment, Disk, Memory}

-- a refusal of opening the log
abbrev pub of_open : OpenWhy → RecoverWhy
of_open opening.NoIndex = NoIndex
of_open (opening.BadLog entry) = BadLog entry
of_open opening.Disk = Disk
of_open opening.Memory = Memory

-- a refusal of reading its list
abbrev pub of_list : ListRefused → RecoverWhy
of_list (list.BadLog entry) = BadLog entry
of_list (list.BadSegment block) = BadSegment block
of_list list.Disk = Disk
of_list list.Memory = Memory

-- a refusal of removing segments
abbrev pub of_remove : RemoveRefused → RecoverWhy
of_remove remove.Disk = Disk
of_remove remove.Memory = Memory

-- a refusal of reading a node block
abbrev pub of_verify : VerifyRefused → RecoverWhy
of_verify verify.Disk = Disk
of_verify (verify.BadSegment block) = BadSegment block
