-- What a search of an index answers and leaves.
use Rattle.std.specs.Prelude.{◌≡◌, ℕ, Bool, List, Result, IsTrue, IfOk, IfErr, OnOk, map, length}
use Rattle.ann_types.specs.Answer.{answer}
use Rattle.ann_types.specs.Fold.{fold_of}
use Rattle.ann_types.specs.Index.{Index}
use Rattle.ann_types.specs.Lists.{BasedList, BeginsWith, length_of}
use Rattle.ann_types.specs.Rounds.{rounds}
use Rattle.ann_types.specs.declared.ask.Ask.{Ask}
use Rattle.ann_disk.specs.declared.file.LogFile.{Ghosts}
use Rattle.ann_vault.specs.Held.{Holding}
use Rattle.ann_vault.specs.Reads.{more_reads}
use Rattle.ann_beam.specs.Quest.{Standing}
use Rattle.ann_beam.specs.Ranking.{hit_of}
use Rattle.ann_beam.specs.declared.refused.SearchRefused.{SearchRefused}
use Rattle.ann_beam.specs.declared.refused.SearchRefused.TheVariants.{Disk}
use Rattle.ann_view.specs.declared.search.Found.{Found}
use Rattle.ann_journal.specs.Journal.{index_in}
use Rattle.ann_index.specs.Index.{HolderView, IsIndexOf}

-- how many points of a list's long-term graph a search visits; each is read once
abbrev pub visits : Index → BasedList → Ask → ℕ
visits index h ask = length (rounds index.book (fold_of index h).lti ask.vector ask.l index.params.w)

-- what stands on the desk of an index, and the counts of its eye
abbrev pub standing_of : {F V E S : Type 0} → (E → ℕ) → (E → ℕ) → HolderView F V E S → Standing
standing_of reads faults index =
    record { result = index.result; page = index.page; reads = reads index.eye; faults = faults index.eye }

-- What was logged is shown as far as there is memory for it, all of it where all was shown before. The answer is that of the
-- part that is shown then; where the place is sound, by the definition of an answer.
pub record HasSearched {F V E S : Type 0} (D : Ghosts F) (tells : Type 0) (bytes : S → List ℕ) (held : V → Holding) (reads : E → ℕ) (sound : Bool) (h shown : BasedList) (ask : Ask) (old new : HolderView F V E S) (result : Result Found SearchRefused) : Type 0 where
  pub later : BasedList
  pub index : IsIndexOf D tells bytes held sound h later new.kept
  pub on : BeginsWith later shown
  pub all : shown ≡ h → later ≡ h
  pub at : IfOk result (λ found. found.at ≡ length_of later)
  pub answers : IsTrue sound → OnOk result (map hit_of new.result.points ≡ answer (index_in new.kept.journal.log) later ask)
  pub reads_are : IsTrue sound → OnOk result (reads new.eye ≡ more_reads (visits (index_in new.kept.journal.log) later ask) (reads old.eye))
  -- of the blocks that it reads, none is bad there
  pub calm : IsTrue sound → length ask.vector ≡ new.kept.view.params.d → IfErr result (λ why. why ≡ Disk)
