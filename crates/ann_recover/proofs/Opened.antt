-- A sound place opens as a sound index.
use Rattle.std.proofs.Common.{◌≡◌, ℕ, List, sym, ap, subst, ◌∙◌}
use Rattle.std.specs.Prelude.{Option, Some, None}
use Rattle.ann_types.specs.Index.{Index}
use Rattle.ann_types.specs.Lists.{BasedList, ListBase}
use Rattle.ann_types.specs.declared.entry.Entry.{Entry}
use Rattle.ann_types.specs.declared.params.Params.{Params}
use Rattle.ann_disk.specs.declared.file.LogFile.{Ghosts}
use Rattle.ann_laws.specs.Replays.{LastMerge}
use Rattle.ann_log.specs.LogView.{LogView}
use Rattle.ann_log.specs.Opened.{IsOpened}
use Rattle.ann_log.specs.Text.{Held}
use Rattle.ann_log.specs.declared.files.Files.{Files}
use Rattle.ann_pq.specs.Codebook.{CodebookView}
use Rattle.ann_preamble.specs.declared.base.Base.{Base}
use Rattle.ann_tags.specs.Tags.{TagsView}
use Rattle.ann_vault.specs.Held.{Holding}
use Rattle.ann_view.specs.View.{IndexView}
use Rattle.ann_resume.specs.Removed.{is_named}
use Rattle.ann_state.specs.List.{list_on}
use Rattle.ann_state.specs.State.{index_with, AreKept}
use Rattle.ann_recover.specs.Fresh.{held_with}
use Rattle.ann_recover.specs.Opened.{IsSoundlyOpened}
use Rattle.ann_recover.specs.Places.{IsKeptList, IsSoundPlace}
use Rattle.ann_recover.specs.Recovered.{IsNow, IsRevived, IsRecovered}
use Rattle.ann_recover.specs.Renewal.{renewal_of, number_of}
use Rattle.ann_recover.proofs.Ends.{last_named, left_unended}
use Rattle.ann_recover.proofs.Keeping.{retained, kept_named}
use Rattle.ann_recover.proofs.Opening.{has_stood}
use Rattle.ann_recover.proofs.Placing.{kept_read, index_read}
use Rattle.ann_recover.proofs.Sounding.{kept_whole, kept_left}

-- ---- what the list of the log names is still there

module _ {F S : Type 0} (D : Ghosts F) (tells : Type 0) (bytes : S → List ℕ) (held after : Holding) (was : Held) (generation : ℕ) (log : LogView F) (view : IndexView S) (tags : TagsView) (begun : Option ℕ) (r : IsRevived D tells bytes held after was generation log view tags begun) (seals : tells) (kept : IsKeptList held was) where
  abbrev index : Index
  index = index_with was.params was.book.book

  abbrev whole : BasedList
  whole = list_on was.base r.replayed.graph was.entries

  abbrev left : BasedList
  left = r.replayed.left

  -- where its merges name no other segment than the last End
  named_kept : (h : BasedList) → r.h ≡ h → ((m : LastMerge h) → m.segment ≡ number_of r.merge) → AreKept held was.params was.book.book h → AreKept after was.params was.book.book r.h
  named_kept h same merged all =
      subst (λ (g : BasedList). AreKept after was.params was.book.book g) (sym same)
      (kept_named log.base.segment (number_of r.merge) held after (retained (is_named log.base.segment (number_of r.merge)) held after (r.removed seals)) was.params was.book.book h
      (ap (λ (g : BasedList). g.base.segment) (sym same) ∙ ap (λ (b : ListBase). b.segment) r.list.base) merged all)

  by_base : (o : Option Base) → IsNow o generation whole left log r.h → AreKept after was.params was.book.book r.h
  by_base None now =
      named_kept whole now.0 (last_named index whole r.merge left r.replayed.is_left)
      (kept_whole tells bytes held was r.merge r.replayed seals kept)
  by_base (Some base) now =
      named_kept left now.0 (λ m. absurd (left_unended index whole r.merge left r.replayed.is_left m))
      (kept_left tells bytes held was r.merge r.replayed seals kept)

  pub list_kept : AreKept after log.params log.book.book r.h
  list_kept =
      subst (λ (p : Params). AreKept after p log.book.book r.h) (sym r.index.0)
      (subst (λ (b : CodebookView). AreKept after was.params b.book r.h) (sym r.index.1)
      (by_base (renewal_of was.base generation r.merge) r.now))

-- ---- opening

module _ {F S : Type 0} (D : Ghosts F) (tells : Type 0) (bytes : S → List ℕ) (held after : Holding) (files : Files F) where
  -- a log was opened, and then revived
  pub recovered_is : (old : LogView F) (entries : List Entry) → IsOpened D files old entries → (log : LogView F) (view : IndexView S) (tags : TagsView) (begun : Option ℕ) → IsRevived D tells bytes held after (held_with old entries) old.generation log view tags begun → IsRecovered D tells bytes held after files log view tags begun
  recovered_is old entries opened log view tags begun w = record {
    was = held_with old entries;
    generation = old.generation;
    stood = has_stood D tells bytes held files old entries opened;
    revived = w;
  }

  pub soundly_opened : (params : Params) (book : CodebookView) → D.tells → tells → IsSoundPlace D files held params book → (log : LogView F) (view : IndexView S) (tags : TagsView) (begun : Option ℕ) → IsRecovered D tells bytes held after files log view tags begun → IsSoundlyOpened D tells bytes held after files params book log view tags begun
  soundly_opened params book told seals sound log view tags begun w =
      let kept : IsKeptList held w.was = kept_read D tells bytes held files params book told sound w.was w.generation w.stood in
      let index = index_read D tells bytes held files params book told sound w.was w.generation w.stood in
      record {
        recovered = w;
        index = (w.revived.index.0 ∙ index.0, w.revived.index.1 ∙ index.1);
        holds = w.revived.holds seals (kept_whole tells bytes held w.was w.revived.merge w.revived.replayed seals kept);
        kept = list_kept D tells bytes held after w.was w.generation log view tags begun w.revived seals kept;
      }
