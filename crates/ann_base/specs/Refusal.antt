-- Why a segment that a log names isn't opened.
use Rattle.ann_mdelete.specs.declared.refused.WorkRefused.{WorkRefused}
use Rattle.ann_mdelete.specs.declared.refused.WorkRefused.TheVariants as work
use Rattle.ann_segment.specs.declared.refused.SegmentRefused.{SegmentRefused}
use Rattle.ann_segment.specs.declared.refused.SegmentRefused.TheVariants as segment
use Rattle.ann_base.specs.declared.refused.BaseRefused.{BaseRefused}
use Rattle.ann_base.specs.declared.refused.BaseRefused.TheVariants.{BadSegment, Disk, Memory}

-- a refusal of opening a segment
abbrev pub of_segment : SegmentRefused → BaseRefused
of_segment segment.Disk = Disk
of_segment segment.Memory = Memory
of_segment (segment.BadSegment block) = BadSegment block

-- a refusal of loading a piece
abbrev pub of_work : WorkRefused → BaseRefused
of_work work.Disk = Disk
of_work (work.BadSegment block) = BadSegment block
of_work work.Memory = Memory
