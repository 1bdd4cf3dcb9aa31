-- What making a log leaves, by its files.
use Rattle.std.proofs.Common.{◌≡◌, ℕ, List, sym, subst}
use Rattle.ann_types.specs.declared.params.Params.{Params}
use Rattle.ann_pq.specs.Format.{codebook}
use Rattle.ann_disk.specs.Image.{IsImage}
use Rattle.ann_disk.specs.declared.file.LogFile.{Ghosts}
use Rattle.ann_preamble.specs.Preamble.{no_base}
use Rattle.ann_log.specs.LogView.{LogView, files_of}
use Rattle.ann_log.specs.Making.{base_alone, HoldsNothing, IsMade, IsNotMade}
use Rattle.ann_log.specs.Pairs.{EachPair}
use Rattle.ann_log.specs.Text.{Held, StandsFor}
use Rattle.ann_log.specs.declared.files.Files.{Files}
use Rattle.ann_log.specs.declared.refused.MakeWhy.{MakeWhy}
use Rattle.ann_log.specs.declared.refused.MakeWhy.TheVariants as make
use Rattle.ann_init.specs.Ends.{IsMadeOf, IsUnmadeFor, AreLeft, said_by}

module _ {F : Type 0} (D : Ghosts F) where
  -- a file's bytes are one of its images
  pub made_of : (p : Params) (bytes : List ℕ) (old new : Files F) (log : LogView F) → ((file : F) → D.tells → IsImage (D.unsynced file) (D.seen file)) → IsMade D old p (codebook p.d p.m bytes) no_base HoldsNothing log → new ≡ files_of log → IsMadeOf D p bytes old new
  made_of p bytes old new log image made is =
      let after : D.tells → EachPair D.unsynced (StandsFor (base_alone p bytes no_base)) (files_of log) = λ told. subst (λ (held : Held). EachPair D.unsynced (StandsFor held) (files_of log)) (made.held told) (made.after told) in
      subst (IsMadeOf D p bytes old) (sym is) (record {
        none = made.none;
        stands = λ told. after told (D.seen (files_of log).first) (image (files_of log).first told) (D.seen (files_of log).second) (image (files_of log).second told);
        during = made.during;
        after = after;
      })

  -- a refusal of the log, by what it says
  pub unmade_for : (p : Params) (bytes : List ℕ) (old new : Files F) (why : MakeWhy) → IsNotMade D old (base_alone p bytes no_base) HoldsNothing new why → IsUnmadeFor D p bytes old new (said_by why)
  unmade_for p bytes old new make.IndexThere refused = refused
  unmade_for p bytes old new make.Disk refused = refused
  unmade_for p bytes old new make.Memory refused = record { same = refused.refused; calm = refused.cause.calm (λ is. absurd cc) }
