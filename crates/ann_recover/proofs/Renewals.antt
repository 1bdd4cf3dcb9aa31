-- A log that is written anew, or stays as it is.
use Rattle.std.proofs.Common.{◌≡◌, ℕ, List, sym, subst}
use Rattle.std.specs.Prelude.{Option, Some, None}
use Rattle.ann_types.specs.declared.entry.Entry.{Entry}
use Rattle.ann_disk.specs.Image.{IsImage}
use Rattle.ann_disk.specs.declared.file.LogFile.{Ghosts}
use Rattle.ann_log.specs.Pairs.{EachPair, LeavePairs}
use Rattle.ann_log.specs.Renewed.{IsOldOrNew, renewed}
use Rattle.ann_log.specs.Text.{Held, StandsFor}
use Rattle.ann_log.specs.Told.{MayLeave, LeaveFiles}
use Rattle.ann_log.specs.declared.files.Files.{Files}
use Rattle.ann_log.proofs.Pairs.{idle, at_once}
use Rattle.ann_preamble.specs.declared.base.Base.{Base}
use Rattle.ann_recover.specs.Renewal.{IsOldOrRenewed}

module _ {F : Type 0} (D : Ghosts F) where
  -- nothing was done
  pub still_pairs : (files : Files F) (P : List ℕ → List ℕ → Type 0) → EachPair D.unsynced P files → LeavePairs D.past D.unsynced files files P
  still_pairs files P each =
      at_once D.past D.unsynced files files (IsImage (D.unsynced files.first)) (IsImage (D.unsynced files.second)) P (λ a b is_a is_b. each a is_a b is_b)
      (idle D.past D.unsynced files.first (IsImage (D.unsynced files.first)) (λ image is. is))
      (idle D.past D.unsynced files.second (IsImage (D.unsynced files.second)) (λ image is. is))

  pub none_during : (files : Files F) (held : Held) (o : Option Base) (tail : List Entry) → o ≡ None → MayLeave D files (StandsFor held) → LeaveFiles D files files (IsOldOrRenewed held o tail)
  none_during files held o tail none after told =
      subst (λ (b : Option Base). LeavePairs D.past D.unsynced files files (IsOldOrRenewed held b tail)) (sym none) (still_pairs files (StandsFor held) (after told))

  pub some_during : (old new : Files F) (held : Held) (o : Option Base) (base : Base) (tail these : List Entry) → o ≡ Some base → these ≡ tail → LeaveFiles D old new (IsOldOrNew held (renewed held base these)) → LeaveFiles D old new (IsOldOrRenewed held o tail)
  some_during old new held o base tail these some same during told =
      subst (λ (b : Option Base). LeavePairs D.past D.unsynced old new (IsOldOrRenewed held b tail)) (sym some)
      (subst (λ (t : List Entry). LeavePairs D.past D.unsynced old new (IsOldOrNew held (renewed held base t))) same (during told))
