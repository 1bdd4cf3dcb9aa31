-- A log that was read and put in order, with the view of its list.
use Rattle.std.proofs.Common.{◌≡◌, ℕ, true, false, List, length, refl, sym, ap, ap₂, subst, ◌∙◌}
use Rattle.std.specs.Prelude.{Option, Some, None, ◌==◌, ◌&&◌, nat_lt, ◌^◌, ◌-◌, if◌then◌else◌}
use Rattle.std.specs.Option.{option_map}
use Rattle.std.specs.FinMap.{retain_keys}
use Rattle.ann_types.specs.Fold.{Begun, State as Graphs, fold_of}
use Rattle.ann_types.specs.Index.{Index}
use Rattle.ann_types.specs.Legal.{IsLegal}
use Rattle.ann_types.specs.Lists.{BasedList}
use Rattle.ann_types.specs.declared.entry.Entry.{Entry}
use Rattle.ann_types.specs.declared.params.Params.{Params}
use Rattle.ann_disk.specs.declared.file.LogFile.{Ghosts}
use Rattle.ann_laws.specs.Replays.{StandsForList}
use Rattle.ann_log.specs.LogView.{LogView, files_of, held_of}
use Rattle.ann_log.specs.Renewed.{HasRenewed}
use Rattle.ann_log.specs.Text.{Held, StandsFor as Stands}
use Rattle.ann_log.specs.Told.{MayLeave}
use Rattle.ann_named.specs.Named.{IsCurrent}
use Rattle.ann_pq.specs.Codebook.{CodebookView}
use Rattle.ann_preamble.specs.declared.base.Base.{Base}
use Rattle.ann_tags.specs.Tags.{map_of}
use Rattle.ann_vault.specs.Held.{Holding}
use Rattle.ann_view.specs.View.{index_of}
use Rattle.ann_reopen.specs.declared.judged.Merge.{Merge}
use Rattle.ann_resume.specs.Removed.{is_named}
use Rattle.ann_state.specs.List.{base_on, list_on}
use Rattle.ann_state.specs.State.{index_with, IsLeftOf}
use Rattle.ann_recover.specs.Fresh.{IsFresh, held_with}
use Rattle.ann_recover.specs.Loaded.{IsLoaded}
use Rattle.ann_recover.specs.Recovered.{IsNow, IsListOf, IsShown, IsRevived}
use Rattle.ann_recover.specs.Renewal.{base_of, renewal_of, number_of, IsRenewed}
use Rattle.ann_recover.specs.Settled.{IsSettled}
use Rattle.ann_recover.specs.declared.load.Loaded.{Loaded}
use Rattle.ann_recover.proofs.Loading.{stands_on, holds_on}
use Rattle.ann_recover.proofs.Tails.{left_base}

-- ---- the base with which a log is written anew is that of the list on its last merge

base_again : (base : Base) (generation : ℕ) (b : Base) → renewal_of base generation None ≡ Some b → base ≡ b
base_again base generation b must = elim (generation == 0) as (λ t. (if t then Some base else None) ≡ Some b → base ≡ b) [ true ↦ λ e. cc | false ↦ λ e. cc ] must

base_merged : (base : Base) (generation : ℕ) (merge : Merge) (b : Base) → renewal_of base generation (Some merge) ≡ Some b → base_of merge ≡ b
base_merged base generation merge b must = elim (nat_lt generation (2 ^ 64 - 1) && nat_lt merge.segment (2 ^ 63)) as (λ t. (if t then Some (base_of merge) else None) ≡ Some b → base_of merge ≡ b) [ true ↦ λ e. cc | false ↦ λ e. cc ] must

pub renewed_base : (index : Index) (base : Base) (h : BasedList) (generation : ℕ) (merge : Option Merge) (left : BasedList) (b : Base) → IsLeftOf index h merge left → h.base ≡ base_on base h.base.graph → renewal_of base generation merge ≡ Some b → left.base ≡ base_on b left.base.graph
renewed_base index base h generation None left b is on must =
    subst (λ (g : BasedList). g.base ≡ base_on b g.base.graph) (sym is.1)
    (subst (λ (x : Base). h.base ≡ base_on x h.base.graph) (base_again base generation b must) on)
renewed_base index base h generation (Some merge) left b is on must =
    subst (λ (x : Base). left.base ≡ base_on x left.base.graph) (base_merged base generation merge b must) (left_base index h merge left is)

-- ---- the view of a list

module _ {F S : Type 0} (D : Ghosts F) (tells : Type 0) (bytes : S → List ℕ) (held : Holding) (old new : LogView F) (entries : List Entry) (fresh : IsFresh D old entries) (loaded : Loaded S) (is : IsLoaded tells bytes held old.params old.book old.base entries loaded) where
  abbrev whole : BasedList
  whole = list_on old.base is.list.graph entries

  abbrev left : BasedList
  left = is.list.left

  abbrev index : Index
  index = index_with old.params old.book.book

  same_index : index ≡ index_of loaded.view
  same_index = ap₂ (λ (p : Params) (b : CodebookView). index_with p b.book) (sym is.index.0) (sym is.index.1)

  stands : StandsForList (index_of loaded.view) whole left
  stands = subst (λ (i : Index). StandsForList i whole left) same_index is.list.stands

  -- of the list itself
  shown_whole : new.params ≡ old.params → new.book ≡ old.book → new.is_closed ≡ false → IsShown new loaded.view loaded.tags loaded.begun whole
  shown_whole params book open_now = record {
    index = (is.index.0 ∙ sym params, is.index.1 ∙ sym book);
    open_now = (open_now, is.open_now);
    legal = subst (λ (i : Index). IsLegal i whole) same_index is.list.legal;
    stands = stands_on loaded.view whole left stands is.stands_for;
    current = subst (λ (i : Index). IsCurrent i whole loaded.view.segment) same_index is.current;
    tags_are = is.tags_are ∙ ap map_of is.list.stands.live;
    begun_is =
        is.begun_is
        ∙ ap (λ (s : Graphs). option_map (λ (b : Begun). b.position) s.begun) is.list.stands.state
        ∙ ap (λ (i : Index). option_map (λ (b : Begun). b.position) (fold_of i whole).begun) same_index;
  }

  -- of the list on its last merge
  shown_left : new.params ≡ old.params → new.book ≡ old.book → new.is_closed ≡ false → IsShown new loaded.view loaded.tags loaded.begun left
  shown_left params book open_now = record {
    index = (is.index.0 ∙ sym params, is.index.1 ∙ sym book);
    open_now = (open_now, is.open_now);
    legal = stands.legal;
    stands = is.stands_for;
    current = subst (λ (i : Index). IsCurrent i left loaded.view.segment) same_index is.left_current;
    tags_are = is.tags_are;
    begun_is = is.begun_is ∙ ap (λ (i : Index). option_map (λ (b : Begun). b.position) (fold_of i left).begun) same_index;
  }

  module _ (after : Holding) (open_now : new.is_closed ≡ false) (removed : tells → after ≡ retain_keys held (is_named new.base.segment (number_of loaded.merge))) where
    kept_log : new ≡ old → renewal_of old.base old.generation loaded.merge ≡ None → IsRevived D tells bytes held after (held_with old entries) old.generation new loaded.view loaded.tags loaded.begun
    kept_log same none = record {
      merge = loaded.merge;
      replayed = is.list;
      h = whole;
      index = (ap (λ (v : LogView F). v.params) same, ap (λ (v : LogView F). v.book) same);
      now = subst (λ (b : Option Base). IsNow b old.generation whole left new whole) (sym none) (refl, ap (λ (v : LogView F). v.generation) same);
      list = subst (λ (v : LogView F). IsListOf D v whole) (sym same) (record { base = refl; count = fresh.count; entries = fresh.listed });
      shown = shown_whole (ap (λ (v : LogView F). v.params) same) (ap (λ (v : LogView F). v.book) same) open_now;
      holds = λ told kept. holds_on loaded.view whole left stands bytes (is.holds told kept);
      leaves = subst (λ (v : LogView F). MayLeave D (files_of v) (Stands (held_of v))) (sym same) fresh.leaves;
      removed = removed;
    }

    new_log : (b : Base) → HasRenewed D old b loaded.tail.items new → renewal_of old.base old.generation loaded.merge ≡ Some b → IsRevived D tells bytes held after (held_with old entries) old.generation new loaded.view loaded.tags loaded.begun
    new_log b w must = record {
      merge = loaded.merge;
      replayed = is.list;
      h = left;
      index = (w.constant.params, w.constant.book);
      now = subst (λ (o : Option Base). IsNow o old.generation whole left new left) (sym must) (refl, w.turned.generation);
      list = record {
        base = subst (λ (x : Base). left.base ≡ base_on x left.base.graph) (sym w.turned.behind) (renewed_base index old.base whole old.generation loaded.merge left b is.list.is_left refl must);
        count = w.count ∙ ap (λ (t : List Entry). length t) is.tail_is;
        entries = λ told. ap (λ (x : Held). x.entries) (w.renewed told) ∙ is.tail_is;
      };
      shown = shown_left w.constant.params w.constant.book open_now;
      holds = is.holds;
      leaves = w.after;
      removed = removed;
    }

    by_base : (o : Option Base) → renewal_of old.base old.generation loaded.merge ≡ o → IsRenewed D old o loaded.tail.items new → IsRevived D tells bytes held after (held_with old entries) old.generation new loaded.view loaded.tags loaded.begun
    by_base None must w = kept_log w must
    by_base (Some b) must w = new_log b w must

  pub revived_is : (after : Holding) → new.is_closed ≡ false → (middle : Holding) → (tells → middle ≡ held) → IsSettled D tells old loaded.merge loaded.tail.items middle new after → IsRevived D tells bytes held after (held_with old entries) old.generation new loaded.view loaded.tags loaded.begun
  revived_is after open_now middle same w =
      by_base after open_now (λ told. w.removed told ∙ ap (λ (x : Holding). retain_keys x (is_named new.base.segment (number_of loaded.merge))) (same told))
      (renewal_of old.base old.generation loaded.merge) refl w.renewed
