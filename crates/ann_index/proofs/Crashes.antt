-- What a crash leaves while a merge goes on.
use Rattle.std.proofs.Common.{◌≡◌, ◌∙◌, ◌++◌, ℕ, List, [], ◌∷◌, inl, inr, refl, ap, append-nil, append_assoc, subst, sym}
use Rattle.std.specs.Prelude.{IsSome, Option, Some, None}
use Rattle.ann_types.specs.Fold.{Begun, fold_of}
use Rattle.ann_types.specs.Lists.{BasedList}
use Rattle.ann_types.specs.declared.entry.Entry.{Entry}
use Rattle.ann_types.specs.declared.entry.Entry.TheVariants.{Begin, End}
use Rattle.ann_disk.specs.declared.file.LogFile.{Ghosts}
use Rattle.ann_log.specs.LogView.{LogView, extended, files_of, held_of, IsBeforeOrAfter}
use Rattle.ann_log.specs.Pairs.{EachPair, LeavePairs}
use Rattle.ann_log.specs.Text.{Held, StandsFor}
use Rattle.ann_log.proofs.Pairs.{joined_pairs, weaker_pairs}
use Rattle.ann_journal.specs.Journal.{index_in}
use Rattle.ann_journal.proofs.Frames.{idle_pairs}
use Rattle.ann_index.specs.Merged.{IsBegun, IsBegunBy, IsOfMerge, begins, end_for, segment_for}

-- no entries more
held_none : (held : Held) → extended held [] ≡ held
held_none held = ap (λ es. record held { entries = es }) (append-nil held.entries)

-- some, and then others
held_more : (held : Held) (es more : List Entry) → extended (extended held es) more ≡ extended held (es ++ more)
held_more held es more = ap (λ xs. record held { entries = xs }) (append_assoc held.entries es more)

module _ {F : Type 0} (D : Ghosts F) (h : BasedList) (log : LogView F) where
  abbrev pub Leaves : LogView F → LogView F → Type 0
  Leaves old new = LeavePairs D.past D.unsynced (files_of old) (files_of new) (IsOfMerge (index_in log) h (held_of log))

  pub unmoved : EachPair D.unsynced (StandsFor (held_of log)) (files_of log) → Leaves log log
  unmoved each = idle_pairs D.past D.unsynced (files_of log) (IsOfMerge (index_in log) h (held_of log)) (λ a is_a b is_b. inl (each a is_a b is_b))

  module _ (new : LogView F) (each : EachPair D.unsynced (StandsFor (held_of log)) (files_of log)) (goes : IsSome (fold_of (index_in log) h).begun → new ≡ log) (run : LeavePairs D.past D.unsynced (files_of log) (files_of new) (IsBeforeOrAfter (held_of log) (Begin 0 ∷ []))) where
    start_by : (o : Option Begun) → (fold_of (index_in log) h).begun ≡ o → Leaves log new
    start_by None none = weaker_pairs D.past D.unsynced (files_of log) (files_of new) (IsBeforeOrAfter (held_of log) (Begin 0 ∷ [])) (IsOfMerge (index_in log) h (held_of log))
        (λ a b w. elim w [ inl s ↦ inl s | inr s ↦ inr (inl (subst (λ (o : Option Begun). StandsFor (extended (held_of log) (begins o)) a b) (sym none) s)) ]) run
    start_by (Some b) some = subst (λ (l : LogView F). Leaves log l) (sym (goes (subst (λ (o : Option Begun). IsSome o) (sym some) refl))) (unmoved each)

    -- it begins, or goes on
    pub while_starting : Leaves log new
    while_starting = start_by (fold_of (index_in log) h).begun refl

  -- what the log holds then
  held_by : (o : Option Begun) (mid : LogView F) → D.tells → IsBegunBy D (index_in log) h log o mid → held_of mid ≡ extended (held_of log) (begins o)
  held_by None mid tells is = is.appended.appended tells
  held_by (Some b) mid tells is = ap (λ (l : LogView F). held_of l) is ∙ sym (held_none (held_of log))

  pub while_ending : (mid new : LogView F) (number : ℕ) → D.tells → IsBegun D (index_in log) h log mid → number ≡ segment_for (index_in log) h → Leaves log mid → LeavePairs D.past D.unsynced (files_of mid) (files_of new) (IsBeforeOrAfter (held_of mid) (End 0 number ∷ [])) → Leaves log new
  while_ending mid new number tells is numbered first run =
      let es : List Entry = begins (fold_of (index_in log) h).begun in
      let holds : held_of mid ≡ extended (held_of log) es = held_by (fold_of (index_in log) h).begun mid tells is in
      let ends : extended (held_of mid) (End 0 number ∷ []) ≡ extended (held_of log) (es ++ end_for (index_in log) h ∷ []) =
      ap (λ (x : Held). extended x (End 0 number ∷ [])) holds ∙ held_more (held_of log) es (End 0 number ∷ []) ∙ ap (λ n. extended (held_of log) (es ++ End 0 n ∷ [])) numbered in
      joined_pairs D.past D.unsynced (files_of log) (files_of mid) (files_of new) (IsOfMerge (index_in log) h (held_of log)) first
      (weaker_pairs D.past D.unsynced (files_of mid) (files_of new) (IsBeforeOrAfter (held_of mid) (End 0 number ∷ [])) (IsOfMerge (index_in log) h (held_of log))
      (λ a b w. elim w [
        | inl s ↦ inr (inl (subst (λ (x : Held). StandsFor x a b) holds s))
        | inr s ↦ inr (inr (subst (λ (x : Held). StandsFor x a b) ends s))
      ]) run)
