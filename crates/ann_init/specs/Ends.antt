-- What making an empty index left of its files.
use Rattle.std.specs.Prelude.{◌≡◌, List, ℕ, Option}
use Rattle.ann_types.specs.declared.params.Params.{Params}
use Rattle.ann_disk.specs.declared.file.LogFile.{Ghosts}
use Rattle.ann_preamble.specs.Preamble.{no_base}
use Rattle.ann_log.specs.Causes.{AreCalm}
use Rattle.ann_log.specs.Making.{base_alone, HaveNone, HoldsNothing, IsNotMade}
use Rattle.ann_log.specs.Pairs.{EachPair, LeavePairs}
use Rattle.ann_log.specs.Text.{StandsFor}
use Rattle.ann_log.specs.Told.{AreSame, MayLeave}
use Rattle.ann_log.specs.declared.files.Files.{Files}
use Rattle.ann_log.specs.declared.refused.MakeWhy.{MakeWhy}
use Rattle.ann_log.specs.declared.refused.MakeWhy.TheVariants as make
use Rattle.ann_init.specs.Input.{ReadsBook, FindsFault, IsCut, BreaksOff}
use Rattle.ann_init.specs.declared.refused.InitWhy.{InitWhy}
use Rattle.ann_init.specs.declared.refused.InitWhy.TheVariants.{ReadFault, BadBook, IndexThere, StoreFault, Memory}

-- why no index is made, where the log was refused
abbrev pub said_by : MakeWhy → InitWhy
said_by make.IndexThere = IndexThere
said_by make.Disk = StoreFault
said_by make.Memory = Memory

module _ {F : Type 0} (D : Ghosts F) where
  -- an empty index of these parameters and this codebook was made where none was
  pub record IsMadeOf (p : Params) (bytes : List ℕ) (old new : Files F) : Type 0 where
    pub none : HaveNone D old
    pub stands : D.tells → StandsFor (base_alone p bytes no_base) (D.seen new.first) (D.seen new.second)
    -- where a crash before the call leaves no index or an empty one, a crash at any moment of it does
    pub during : D.tells → EachPair D.unsynced HoldsNothing old → LeavePairs D.past D.unsynced old new HoldsNothing
    -- a crash after the call leaves the index that was made
    pub after : MayLeave D new (StandsFor (base_alone p bytes no_base))

  -- neither what the files hold changed, nor what a crash leaves of them
  pub record AreLeft (old new : Files F) : Type 0 where
    pub same : AreSame D old new
    pub calm : AreCalm D old new

  -- a codebook was read, and an index was made of it
  pub record HasMade (p : Params) (left left' : Option (List ℕ)) (old new : Files F) : Type 0 where
    pub bytes : List ℕ
    pub book : ReadsBook p left left' bytes
    pub made : IsMadeOf p bytes old new

  -- a codebook was read, and no index was made of it
  pub record HasNotMade (p : Params) (left left' : Option (List ℕ)) (old new : Files F) (why : MakeWhy) : Type 0 where
    pub bytes : List ℕ
    pub book : ReadsBook p left left' bytes
    pub refused : IsNotMade D old (base_alone p bytes no_base) HoldsNothing new why

  -- No index was made. A fault of the input comes before any call of the files; an index that is there is left as it is; and
  -- want of memory leaves the files as they are.
  abbrev pub IsRefusedFor : Params → Option (List ℕ) → Option (List ℕ) → Files F → Files F → InitWhy → Type 0
  IsRefusedFor p left left' old new ReadFault = IsCut left left' × (new ≡ old)
  IsRefusedFor p left left' old new (BadBook found) = FindsFault p left left' found × (new ≡ old)
  IsRefusedFor p left left' old new IndexThere = HasNotMade p left left' old new make.IndexThere
  IsRefusedFor p left left' old new StoreFault = HasNotMade p left left' old new make.Disk
  IsRefusedFor p left left' old new Memory = BreaksOff left left' × AreLeft old new

  -- of these bytes, a codebook, no index was made
  abbrev pub IsUnmadeFor : Params → List ℕ → Files F → Files F → InitWhy → Type 0
  IsUnmadeFor p bytes old new ReadFault = ⊥
  IsUnmadeFor p bytes old new (BadBook found) = ⊥
  IsUnmadeFor p bytes old new IndexThere = IsNotMade D old (base_alone p bytes no_base) HoldsNothing new make.IndexThere
  IsUnmadeFor p bytes old new StoreFault = IsNotMade D old (base_alone p bytes no_base) HoldsNothing new make.Disk
  IsUnmadeFor p bytes old new Memory = AreLeft old new
