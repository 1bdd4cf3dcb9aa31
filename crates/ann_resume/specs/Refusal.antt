-- Why segments aren't removed.
use Rattle.ann_vault.specs.declared.vault.NumbersRefused.{NumbersRefused}
use Rattle.ann_vault.specs.declared.vault.NumbersRefused.TheVariants.{Failed, Memory as NoMemory}
use Rattle.ann_resume.specs.declared.refused.RemoveRefused.{RemoveRefused}
use Rattle.ann_resume.specs.declared.refused.RemoveRefused.TheVariants.{Disk, Memory}

-- a refusal of the vault's numbers is one of removing
abbrev pub refusal_of : NumbersRefused → RemoveRefused
refusal_of Failed = Disk
refusal_of (NoMemory error) = Memory
