-- What a search leaves, by what the search of its view does.
use Rattle.std.proofs.Common.{◌≡◌, ◌≢◌, ◌∙◌, ℕ, Bool, List, inl, inr, length, map, subst}
use Rattle.std.specs.Prelude.{Result, Ok, Err, IsErrOf, IfOk, OnOk}
use Rattle.std.proofs.lemmas.Bool.{cases_eq}
use Rattle.ann_types.specs.Answer.{answer}
use Rattle.ann_types.specs.Index.{Index}
use Rattle.ann_types.specs.Lists.{BasedList, BeginsWith}
use Rattle.ann_types.specs.declared.ask.Ask.{Ask}
use Rattle.ann_disk.specs.declared.file.LogFile.{Ghosts}
use Rattle.ann_vault.specs.Held.{Holding}
use Rattle.ann_vault.specs.Reads.{more_reads}
use Rattle.ann_beam.specs.Found.{IsSearched}
use Rattle.ann_beam.specs.Ranking.{hit_of}
use Rattle.ann_beam.specs.declared.refused.SearchRefused.{SearchRefused}
use Rattle.ann_beam.specs.declared.refused.SearchRefused.TheVariants.{Dimension}
use Rattle.ann_view.specs.Search.{IsAnswered, from_near, quest_in}
use Rattle.ann_view.specs.Stands.{lti_of}
use Rattle.ann_view.specs.View.{index_of}
use Rattle.ann_view.specs.declared.search.Found.{Found}
use Rattle.ann_journal.specs.Journal.{index_in}
use Rattle.ann_showing.proofs.Stepping.{view_index}
use Rattle.ann_index.specs.Index.{HolderView, IsIndexOf}
use Rattle.ann_index.specs.Searched.{HasSearched, standing_of, visits}

-- an answer is none of a refusal
not_refused : (found : Found) (e : SearchRefused) → IsErrOf (Ok found) e → ⊥
not_refused found e is = cc

-- where a search is answered the lengths are the same
same_length : (a b : ℕ) (found : Found) (e : SearchRefused) → (a ≢ b → IsErrOf (Ok found) e) → a ≡ b
same_length a b found e differ =
    elim (cases_eq a b) [ inl same ↦ same | inr other ↦ absurd (not_refused found e (differ other)) ]

module _ {F V E S : Type 0} (D : Ghosts F) (tells : Type 0) (bytes : S → List ℕ) (held : V → Holding) (reads faults : E → ℕ) (sound : Bool) (h shown later : BasedList) (ask : Ask) (old new : HolderView F V E S) (index : IsIndexOf D tells bytes held sound h later new.kept) where
  -- what the search of its view tells
  pub record Tells (r : Result Found SearchRefused) : Type 0 where
    pub at : IfOk r (λ found. found.at ≡ new.kept.view.at)
    pub differ : length ask.vector ≢ new.kept.view.params.d → IsErrOf r (Dimension (length ask.vector) new.kept.view.params.d)
    pub searched : length ask.vector ≡ new.kept.view.params.d → IsSearched tells bytes (quest_in new.kept.view ask) (from_near new.kept.view ask (standing_of reads faults old)) (standing_of reads faults new) r
    pub answered : tells → OnOk r (IsAnswered bytes new.kept.view ask new.result.points)

  same : index_of new.kept.view ≡ index_in new.kept.journal.log
  same = view_index new.kept.journal.log new.kept.view index.follows.shows.index

  pub has_searched : (r : Result Found SearchRefused) → BeginsWith later shown → (shown ≡ h → later ≡ h) → Tells r → HasSearched D tells bytes held reads sound h shown ask old new r
  has_searched (Ok found) on all w = record {
    later = later;
    index = index;
    on = on;
    all = all;
    at = w.at ∙ index.follows.shows.stands.at;
    answers = λ t. subst (λ (i : Index). map hit_of new.result.points ≡ answer i later ask) same
        ((w.answered (index.ledger.told t).1).answer later index.follows.shows.stands (index.follows.shows.holds t));
    reads_are = λ t.
        let width : length ask.vector ≡ new.kept.view.params.d = same_length (length ask.vector) new.kept.view.params.d found (Dimension (length ask.vector) new.kept.view.params.d) w.differ in
        subst (λ (i : Index). reads new.eye ≡ more_reads (visits i later ask) (reads old.eye)) same
        ((w.searched width).found.held (index.ledger.told t).1 (lti_of new.kept.view later) (index.follows.shows.holds t)).reads;
    calm = λ t width. (w.searched width).sound (index.ledger.told t).1 (lti_of new.kept.view later) (index.follows.shows.holds t);
  }
  has_searched (Err why) on all w = record {
    later = later;
    index = index;
    on = on;
    all = all;
    at = tt;
    answers = λ t. tt;
    reads_are = λ t. tt;
    calm = λ t width. (w.searched width).sound (index.ledger.told t).1 (lti_of new.kept.view later) (index.follows.shows.holds t);
  }
