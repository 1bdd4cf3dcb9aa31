-- What is left once the log was written anew and the segments that nobody names were removed.
use Rattle.std.specs.Prelude.{◌≡◌, ◌⊎◌, List, Option}
use Rattle.std.specs.FinMap.{retain_keys}
use Rattle.ann_types.specs.declared.entry.Entry.{Entry}
use Rattle.ann_disk.specs.declared.file.LogFile.{Ghosts}
use Rattle.ann_log.specs.LogView.{LogView}
use Rattle.ann_reopen.specs.declared.judged.Merge.{Merge}
use Rattle.ann_resume.specs.Removed.{is_named, MayLack}
use Rattle.ann_vault.specs.Held.{Holding}
use Rattle.ann_recover.specs.Renewal.{renewal_of, number_of, IsRenewed, IsNotRenewed}

module _ {F : Type 0} (D : Ghosts F) (tells : Type 0) (old : LogView F) (merge : Option Merge) (tail : List Entry) (before : Holding) where
  -- the log was written anew where it must, and what is left is what its base and the last End name
  pub record IsSettled (new : LogView F) (after : Holding) : Type 0 where
    pub renewed : IsRenewed D old (renewal_of old.base old.generation merge) tail new
    pub removed : tells → after ≡ retain_keys before (is_named new.base.segment (number_of merge))

  -- the log was to be written anew, and wasn't; nothing was removed
  pub record IsUnturned (new : LogView F) (after : Holding) : Type 0 where
    pub not_renewed : IsNotRenewed D old (renewal_of old.base old.generation merge) tail new
    pub kept : tells → after ≡ before

  -- the log was written anew where it must, and some segments that nobody names may be gone
  pub record IsUncleared (new : LogView F) (after : Holding) : Type 0 where
    pub renewed : IsRenewed D old (renewal_of old.base old.generation merge) tail new
    pub lacks : tells → MayLack (is_named new.base.segment (number_of merge)) before after

  abbrev pub IsUnsettled : LogView F → Holding → Type 0
  IsUnsettled new after = IsUnturned new after ⊎ IsUncleared new after
