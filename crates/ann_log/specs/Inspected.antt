-- What looking into a log's files finds.
use Rattle.std.specs.Prelude.{◌≡◌, true}
use Rattle.ann_disk.specs.declared.file.LogFile.{Ghosts}
use Rattle.ann_frame.specs.Frames.{HaveComponents}
use Rattle.ann_preamble.specs.Base.{is_base}
use Rattle.ann_log.specs.LogView.{held_by}
use Rattle.ann_log.specs.Text.{StandsFor}
use Rattle.ann_log.specs.declared.files.Files.{Files}
use Rattle.ann_log.specs.declared.inspect.Inspected.{Inspected}

module _ {F : Type 0} (D : Ghosts F) where
  -- the files stand for what was found; its parts go together, whatever the files tell
  pub record IsInspected (files : Files F) (found : Inspected) : Type 0 where
    pub held : D.tells → StandsFor (held_by found) (D.seen files.first) (D.seen files.second)
    pub sizes : (found.book.d ≡ found.params.d) × (found.book.m ≡ found.params.m)
    pub valid : is_base found.base ≡ true
    pub components : HaveComponents found.params.d found.entries
