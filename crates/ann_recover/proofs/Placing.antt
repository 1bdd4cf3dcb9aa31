-- The place of an index before and after it is opened again.
use Rattle.std.proofs.Common.{◌≡◌, ℕ, List, inl, inr, ap₂, subst, ◌∙◌}
use Rattle.ann_types.specs.declared.entry.Entry.{Entry}
use Rattle.ann_types.specs.declared.params.Params.{Params}
use Rattle.ann_disk.specs.Image.{IsImage}
use Rattle.ann_disk.specs.declared.file.LogFile.{Ghosts}
use Rattle.ann_log.specs.Causes.{AreCalm}
use Rattle.ann_log.specs.LogView.{LogView, files_of}
use Rattle.ann_log.specs.Opened.{IsOpened}
use Rattle.ann_log.specs.Pairs.{EachPair, LeavePairs, ReadAsBefore}
use Rattle.ann_log.specs.Text.{Held}
use Rattle.ann_log.specs.Told.{LeaveFiles}
use Rattle.ann_log.specs.declared.files.Files.{Files}
use Rattle.ann_log.proofs.Pairs.{weaker_pairs, joined_pairs, last_pair}
use Rattle.ann_pq.specs.Codebook.{CodebookView}
use Rattle.ann_vault.specs.Held.{Holding}
use Rattle.ann_recover.specs.Causes.{Faults, faults_of, IsCausedBy, IsCounted}
use Rattle.ann_recover.specs.Fresh.{held_with}
use Rattle.ann_recover.specs.Places.{IsKeptList, StandKept, IsSoundPlace}
use Rattle.ann_recover.specs.Recovered.{HaveStood, AreOfList, AreLeft}
use Rattle.ann_recover.proofs.Opening.{has_stood}
use Rattle.ann_recover.proofs.Saying.{held_same}
use Rattle.ann_recover.proofs.Sounding.{stand_inside}

-- ---- faults behind a call of the files that went well

pub counted_from : {F E : Type 0} (D : Ghosts F) (of_eye : E → ℕ) (is_fault : Type 0) (old mid : Files F) (vault : ℕ) (first : E) (rest : List E) (new : Files F) (vault' : ℕ) (eyes : List E) → AreCalm D old mid → IsCounted D.faults of_eye is_fault mid vault first rest new vault' eyes → IsCounted D.faults of_eye is_fault old vault first rest new vault' eyes
counted_from D of_eye is_fault old mid vault first rest new vault' eyes calm w = record {
  now = w.now;
  eyes = w.eyes;
  caused =
      subst (λ (f : Faults). IsCausedBy is_fault f (faults_of D.faults new vault' (of_eye w.now)))
      (ap₂ (λ (n m : ℕ). let f : Faults = record { first = n; second = m; vault = vault; eye = of_eye first } in f) calm.first calm.second) w.caused;
}

-- ---- crashes behind opening the log

module _ {F S : Type 0} (D : Ghosts F) (tells : Type 0) (bytes : S → List ℕ) (held : Holding) (files : Files F) where
  pub read_during : (new : Files F) → LeaveFiles D files new (ReadAsBefore (D.unsynced files.first) (D.unsynced files.second)) → LeaveFiles D files new (AreLeft D tells bytes held files)
  read_during new during told =
      weaker_pairs D.past D.unsynced files new (ReadAsBefore (D.unsynced files.first) (D.unsynced files.second)) (AreLeft D tells bytes held files) (λ one two w. inl w) (during told)

  pub left_during : (log : LogView F) (entries : List Entry) → IsOpened D files log entries → (new : Files F) → LeaveFiles D (files_of log) new (AreOfList tells bytes held (held_with log entries) log.generation) → LeaveFiles D files new (AreLeft D tells bytes held files)
  left_during log entries opened new during told =
      joined_pairs D.past D.unsynced files (files_of log) new (AreLeft D tells bytes held files) (read_during (files_of log) opened.during told)
      (weaker_pairs D.past D.unsynced (files_of log) new (AreOfList tells bytes held (held_with log entries) log.generation) (AreLeft D tells bytes held files)
      (λ one two w. inr (record { was = held_with log entries; generation = log.generation; stood = has_stood D tells bytes held files log entries opened; are = w })) (during told))

-- ---- sound places

-- each image stands for a list that is kept, and a read gives one of them
pub place_of : {F : Type 0} (D : Ghosts F) → ((file : F) → D.tells → IsImage (D.unsynced file) (D.seen file)) → D.tells → (files : Files F) (vault : Holding) (params : Params) (book : CodebookView) → EachPair D.unsynced (StandKept vault params book) files → IsSoundPlace D files vault params book
place_of D law told files vault params book each = record {
  read = each (D.seen files.first) (law files.first told) (D.seen files.second) (law files.second told);
  images = each;
}

-- for these parameters and this codebook
pub place_with : {F : Type 0} (D : Ghosts F) → ((file : F) → D.tells → IsImage (D.unsynced file) (D.seen file)) → D.tells → (files : Files F) (vault : Holding) (params params' : Params) (book book' : CodebookView) → (params' ≡ params) × (book' ≡ book) → EachPair D.unsynced (StandKept vault params' book') files → IsSoundPlace D files vault params book
place_with D law told files vault params params' book book' same each =
    subst (λ (p : Params). IsSoundPlace D files vault p book) same.0
    (subst (λ (b : CodebookView). IsSoundPlace D files vault params' b) same.1 (place_of D law told files vault params' book' each))

module _ {F S : Type 0} (D : Ghosts F) (tells : Type 0) (bytes : S → List ℕ) (held : Holding) (files : Files F) (params : Params) (book : CodebookView) (told : D.tells) (sound : IsSoundPlace D files held params book) where
  -- what reads as an image did
  pub read_kept : (one two : List ℕ) → ReadAsBefore (D.unsynced files.first) (D.unsynced files.second) one two → StandKept held params book one two
  read_kept one two w =
      let is = sound.images w.one w.first_image w.two w.second_image in
      record { was = is.was; stands = (is.stands.0, w.same ∙ is.stands.1); index = is.index; list = is.list }

  -- what a read gives is one list
  same_read : (was : Held) (generation : ℕ) → HaveStood D files was generation → sound.read.was ≡ was
  same_read was generation stood = held_same sound.read.was was sound.read.stands.0 generation (D.seen files.first) (D.seen files.second) sound.read.stands.1 (stood.stood told)

  pub kept_read : (was : Held) (generation : ℕ) → HaveStood D files was generation → IsKeptList held was
  kept_read was generation stood = subst (λ (h : Held). IsKeptList held h) (same_read was generation stood) sound.read.list

  pub index_read : (was : Held) (generation : ℕ) → HaveStood D files was generation → (was.params ≡ params) × (was.book ≡ book)
  index_read was generation stood = subst (λ (h : Held). (h.params ≡ params) × (h.book ≡ book)) (same_read was generation stood) sound.read.index

  -- a crash inside leaves a list that the vault kept
  left_is_kept : tells → (one two : List ℕ) → AreLeft D tells bytes held files one two → StandKept held params book one two
  left_is_kept seals one two (inl w) = read_kept one two w
  left_is_kept seals one two (inr w) =
      let index = index_read w.was w.generation w.stood in
      subst (λ (p : Params). StandKept held p book one two) index.0
      (subst (λ (b : CodebookView). StandKept held w.was.params b one two) index.1
      (stand_inside tells bytes held w.was w.generation seals (kept_read w.was w.generation w.stood) one two w.are))

  pub kept_during : tells → (new : Files F) → LeaveFiles D files new (AreLeft D tells bytes held files) → LeavePairs D.past D.unsynced files new (StandKept held params book)
  kept_during seals new during = weaker_pairs D.past D.unsynced files new (AreLeft D tells bytes held files) (StandKept held params book) (left_is_kept seals) (during told)

  -- and so does a refusal of opening the log
  pub refused_kept : (new : Files F) → LeaveFiles D files new (ReadAsBefore (D.unsynced files.first) (D.unsynced files.second)) → EachPair D.unsynced (StandKept held params book) new
  refused_kept new during one is_one two is_two =
      read_kept one two (last_pair D.past D.unsynced files new (ReadAsBefore (D.unsynced files.first) (D.unsynced files.second)) (during told) one is_one two is_two)
