-- What a refusal leaves of the files and of the vault.
use Rattle.std.proofs.Common.{◌≡◌, ◌⊎◌, ℕ, List, inl, inr, refl, sym, ap, subst, ◌∙◌}
use Rattle.std.specs.Prelude.{Option, Some, None}
use Rattle.ann_types.specs.declared.entry.Entry.{Entry}
use Rattle.ann_disk.specs.Image.{IsImage}
use Rattle.ann_disk.specs.declared.file.LogFile.{Ghosts}
use Rattle.ann_log.specs.LogView.{LogView, files_in, files_of, held_of}
use Rattle.ann_log.specs.Found.{IsRefused}
use Rattle.ann_log.specs.Opened.{IsOpened, IsNotOpened, seen_on, seen_off}
use Rattle.ann_log.specs.Renewed.{renewed}
use Rattle.ann_log.specs.Text.{Held, StandsFor, log_text}
use Rattle.ann_log.specs.Told.{MayLeave}
use Rattle.ann_log.specs.declared.files.Files.{Files}
use Rattle.ann_log.specs.declared.refused.OpenWhy.{OpenWhy}
use Rattle.ann_log.specs.declared.refused.OpenWhy.TheVariants as opening
use Rattle.ann_preamble.specs.declared.base.Base.{Base}
use Rattle.ann_preamble.specs.declared.choice.Side.{Side}
use Rattle.ann_preamble.specs.declared.choice.Side.TheVariants.{First, Second}
use Rattle.ann_vault.specs.Held.{Holding}
use Rattle.ann_resume.specs.Removed.{is_named, MayLack}
use Rattle.ann_recover.specs.Causes.{IsOfStore}
use Rattle.ann_recover.specs.Fresh.{IsFresh, held_with}
use Rattle.ann_recover.specs.Loaded.{IsLoaded, IsLoadRefused}
use Rattle.ann_recover.specs.NotRecovered.{IsUnread, IsRefusedFor, AreTrimmed, HoldList, IsCleared, IsReadAndCleared, IsNotRevived, IsNotRecovered}
use Rattle.ann_recover.specs.Refusal.{of_open}
use Rattle.ann_recover.specs.Renewal.{renewal_of, renewed_on, number_of, IsRenewed}
use Rattle.ann_recover.specs.Settled.{IsUnsettled}
use Rattle.ann_recover.specs.declared.load.Loaded.{Loaded}
use Rattle.ann_recover.specs.declared.refused.RecoverWhy.{RecoverWhy}
use Rattle.ann_recover.specs.declared.refused.RecoverWhy.TheVariants.{NoIndex, BadLog, BadSegment, Disk, Memory}
use Rattle.ann_recover.proofs.Opening.{same_held, has_stood, store_refused}

-- what a read gives is what a crash may leave
may_seen : {F : Type 0} (D : Ghosts F) → ((file : F) → D.tells → IsImage (D.unsynced file) (D.seen file)) → (files : Files F) (P : List ℕ → List ℕ → Type 0) → MayLeave D files P → D.tells → P (D.seen files.first) (D.seen files.second)
may_seen D law files P w told = w told (D.seen files.first) (law files.first told) (D.seen files.second) (law files.second told)

-- ---- a log that was just opened

-- its list is refused, and nothing was done
pub load_left : {F S : Type 0} (D : Ghosts F) (tells : Type 0) (bytes : S → List ℕ) (held after : Holding) (log : LogView F) (entries : List Entry) → (tells → after ≡ held) → (why : RecoverWhy) → IsLoadRefused tells bytes held log.params log.base entries why → IsNotRevived D tells bytes held after log entries (files_of log) why
load_left D tells bytes held after log entries same why is = record {
  why = is;
  vault = λ told. record { kept = λ other. same told; lacks = inl (same told) };
  files = λ other. refl;
}

module _ {F S : Type 0} (D : Ghosts F) (law : (file : F) → D.tells → IsImage (D.unsynced file) (D.seen file)) (tells : Type 0) (bytes : S → List ℕ) (held : Holding) (log : LogView F) (entries : List Entry) (fresh : IsFresh D log entries) (loaded : Loaded S) (is : IsLoaded tells bytes held log.params log.book log.base entries loaded) where
  abbrev was : Held
  was = held_with log entries

  abbrev StandInFiles : Held → Files F → Type 0
  StandInFiles now files = StandsFor now (D.seen files.first) (D.seen files.second)

  stand_whole : D.tells → StandInFiles was (files_of log)
  stand_whole told =
      subst (λ (h : Held). StandInFiles h (files_of log)) (same_held D tells bytes held log entries fresh told)
      (may_seen D law (files_of log) (StandsFor (held_of log)) fresh.leaves told)

  cleared_by : (new : LogView F) (after : Holding) → MayLack (is_named new.base.segment (number_of loaded.merge)) held after → (o : Option Base) → renewal_of log.base log.generation loaded.merge ≡ o → IsRenewed D log o loaded.tail.items new → IsCleared D tells bytes held after was log.generation (files_of new)
  cleared_by new after lacks None must same = record {
    merge = loaded.merge;
    replayed = is.list;
    now = was;
    renewed = ap (λ (o : Option Base). renewed_on was o is.list.left.entries) (sym must);
    stand = λ told. subst (λ (v : LogView F). StandInFiles was (files_of v)) (sym same) (stand_whole told);
    lacks = subst (λ (v : LogView F). MayLack (is_named v.base.segment (number_of loaded.merge)) held after) same lacks;
  }
  cleared_by new after lacks (Some base) must w = record {
    merge = loaded.merge;
    replayed = is.list;
    now = renewed was base is.list.left.entries;
    renewed = ap (λ (o : Option Base). renewed_on was o is.list.left.entries) (sym must);
    stand = λ told.
        subst (λ (t : List Entry). StandInFiles (renewed was base t) (files_of new)) is.tail_is
        (subst (λ (h : Held). StandInFiles (renewed h base loaded.tail.items) (files_of new)) (same_held D tells bytes held log entries fresh told)
        (subst (λ (h : Held). StandInFiles h (files_of new)) (w.renewed told)
        (may_seen D law (files_of new) (StandsFor (held_of new)) w.after told)));
    lacks = subst (λ (b : Base). MayLack (is_named b.segment (number_of loaded.merge)) held after) w.turned.behind lacks;
  }

  module _ (new : LogView F) (middle after : Holding) (same : tells → middle ≡ held) where
    lacks_by : tells → IsUnsettled D tells log loaded.merge loaded.tail.items middle new after → (after ≡ held) ⊎ IsCleared D tells bytes held after was log.generation (files_of new)
    lacks_by told (inl w) = inl (w.kept told ∙ same told)
    lacks_by told (inr w) =
        inr (cleared_by new after
        (subst (λ (v : Holding). MayLack (is_named new.base.segment (number_of loaded.merge)) v after) (same told) (w.lacks told))
        (renewal_of log.base log.generation loaded.merge) refl w.renewed)

    -- the store failed behind the reading of its list
    pub settle_left : (why : RecoverWhy) → IsOfStore why → IsUnsettled D tells log loaded.merge loaded.tail.items middle new after → IsNotRevived D tells bytes held after log entries (files_of new) why
    settle_left why store w = record {
      why = store_refused tells bytes held log.params log.base entries why store;
      vault = λ told. record { kept = λ other. absurd (other store); lacks = lacks_by told w };
      files = λ other. absurd (other store);
    }

-- ---- the files from which it was opened

seen_log : {F : Type 0} (D : Ghosts F) (side : Side) (log other : F) → seen_on D side (files_in side log other) ≡ D.seen log
seen_log D First log other = refl
seen_log D Second log other = refl

seen_other : {F : Type 0} (D : Ghosts F) (side : Side) (log other : F) → seen_off D side (files_in side log other) ≡ D.seen other
seen_other D First log other = refl
seen_other D Second log other = refl

module _ {F S : Type 0} (D : Ghosts F) (law : (file : F) → D.tells → IsImage (D.unsynced file) (D.seen file)) (tells : Type 0) (bytes : S → List ℕ) (held : Holding) (files : Files F) (log : LogView F) (entries : List Entry) (opened : IsOpened D files log entries) where
  unread : (why : RecoverWhy) → IsLoadRefused tells bytes held log.params log.base entries why → IsUnread D tells bytes held files why
  unread why is = record { was = held_with log entries; generation = log.generation; stood = has_stood D tells bytes held files log entries opened; refused = is }

  list_refused : (why : RecoverWhy) → IsLoadRefused tells bytes held log.params log.base entries why → IsRefusedFor D tells bytes held files why
  list_refused NoIndex is = absurd is
  list_refused (BadLog entry) is = inr (unread (BadLog entry) is)
  list_refused (BadSegment block) is = unread (BadSegment block) is
  list_refused Disk is = tt
  list_refused Memory is = tt

  trimmed : D.tells → AreTrimmed D files (files_of log)
  trimmed told = record {
    was = held_of log;
    generation = log.generation;
    stood = opened.held told;
    stand = may_seen D law (files_of log) (StandsFor (held_of log)) opened.after told;
    side = log.side;
    log = seen_log D log.side log.log log.other ∙ opened.cut told;
    other = seen_other D log.side log.log log.other ∙ opened.other told;
  }

  read_before : (after : Holding) (left : Files F) → (after ≡ held) ⊎ IsCleared D tells bytes held after (held_with log entries) log.generation left → (after ≡ held) ⊎ IsReadAndCleared D tells bytes held after files left
  read_before after left (inl same) = inl same
  read_before after left (inr w) = inr (record { was = held_with log entries; generation = log.generation; stood = has_stood D tells bytes held files log entries opened; cleared = w })

  pub not_recovered : (after : Holding) (left : Files F) (why : RecoverWhy) → IsNotRevived D tells bytes held after log entries left why → IsNotRecovered D tells bytes held after files left why
  not_recovered after left why w = record {
    why = list_refused why w.why;
    vault = λ told. record { kept = (w.vault told).kept; lacks = read_before after left (w.vault told).lacks };
    files = λ other told. subst (HoldList D files) (sym (w.files other)) (inr (trimmed told));
  }

-- ---- no log was opened

module _ {F S : Type 0} (D : Ghosts F) (tells : Type 0) (bytes : S → List ℕ) (held : Holding) (files : Files F) where
  text_refused : (why : OpenWhy) → (D.tells → IsRefused (log_text (D.seen files.first) (D.seen files.second)) why) → IsRefusedFor D tells bytes held files (of_open why)
  text_refused opening.NoIndex is = is
  text_refused (opening.BadLog entry) is = inl is
  text_refused opening.Disk is = tt
  text_refused opening.Memory is = tt

  pub not_opened : (left : Files F) (why : OpenWhy) (e : RecoverWhy) → e ≡ of_open why → IsNotOpened D files left why → IsNotRecovered D tells bytes held held files left e
  not_opened left why e same w =
      subst (IsNotRecovered D tells bytes held held files left) (sym same)
      (record {
        why = text_refused why w.refused;
        vault = λ told. record { kept = λ other. refl; lacks = inl refl };
        files = λ other told. inl ((w.left told).held (λ disk. other (subst (λ (y : OpenWhy). IsOfStore (of_open y)) (sym disk) tt)));
      })
