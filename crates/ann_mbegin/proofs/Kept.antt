-- What an open merge takes stays with each entry that is no End.
use Rattle.std.proofs.Common.{◌≡◌, ◌≤◌, true, false, cond, eqb, [], ◌∷◌, refl, sym, ap, ◌∙◌, subst, arith, take, length}
use Rattle.std.specs.Prelude.{Option, Some, is_none}
use Rattle.std.proofs.lemmas.Bool.{false≢true, and_parts}
use Rattle.std.proofs.lemmas.List.{take-append-le}
use Rattle.ann_types.specs.Graph.{Graph}
use Rattle.ann_types.specs.Put.{put}
use Rattle.ann_types.specs.Index.{Index}
use Rattle.ann_types.specs.Lists.{BasedList, upto, with_entry, next_pid, pids_at, live_of}
use Rattle.ann_types.specs.Fold.{Begun, State, frozen, grown, deleted, step, fold_of}
use Rattle.ann_types.specs.Legal.{has_work, may_follow}
use Rattle.ann_types.specs.declared.params.Params.{Params}
use Rattle.ann_types.specs.declared.entry.Entry.{Entry}
use Rattle.ann_types.specs.declared.entry.Entry.TheVariants.{Insert, Delete, Begin, End, Replace}
use Rattle.ann_types.proofs.Folds.{fold_push}
use Rattle.ann_laws.specs.Replays.{is_end}
use Rattle.ann_laws.proofs.Newer.{OpenNewer, open_newer, open_within, upto_push}

-- the Begin stays open, and its graphs and the long-term graph are the same
pub record Keeps (s t : State) (b : Begun) : Type 0 where
  pub begun : t.begun ≡ Some b
  pub taken : take b.frozen t.ros ≡ take b.frozen s.ros
  pub lti : t.lti ≡ s.lti

grown_keeps : (params : Params) (s : State) (g : Graph) (b : Begun) → b.frozen ≤ length s.ros → s.begun ≡ Some b → Keeps s (grown params s g) b
grown_keeps params s g b l o =
    elim (eqb (length g.points) params.freeze_at) as (λ t. Keeps s (cond t (frozen s g) (record s { rw = g })) b) [
      | true ↦ record { begun = o; taken = take-append-le b.frozen s.ros (g ∷ []) l; lti = refl }
      | false ↦ record { begun = o; taken = refl; lti = refl }
    ]

step_keeps : (index : Index) (h : BasedList) (s : State) (e : Entry) (b : Begun) → may_follow index.params h s e ≡ true → is_end e ≡ false → b.frozen ≤ length s.ros → s.begun ≡ Some b → Keeps s (step index h s e) b
step_keeps index h s (Insert by tag vector) b m n l o = grown_keeps index.params s (put index.params s.rw (next_pid h) tag vector) b l o
step_keeps index h s (Delete by tag) b m n l o = record { begun = o; taken = refl; lti = refl }
step_keeps index h s (Begin by) b m n l o = absurd (false≢true (ap (λ (x : Option Begun). is_none x) (sym o) ∙ (and_parts (is_none s.begun) (has_work s) m).0))
step_keeps index h s (End by segment) b m n l o = absurd (false≢true (sym n))
step_keeps index h s (Replace by tag vector) b m n l o =
    let less : State = deleted s (pids_at (live_of h) tag) in
    let kept : Keeps less (grown index.params less (put index.params less.rw (next_pid h) tag vector)) b = grown_keeps index.params less (put index.params less.rw (next_pid h) tag vector) b l o in
    record { begun = kept.begun; taken = kept.taken; lti = kept.lti }

frozen_there : (index : Index) (h : BasedList) (b : Begun) → (fold_of index h).begun ≡ Some b → b.frozen ≤ length (fold_of index h).ros
frozen_there index h b o = (subst (OpenNewer h (fold_of index h)) o (open_newer index h)).1.frozen

pub fold_keeps : (index : Index) (h : BasedList) (e : Entry) (b : Begun) → may_follow index.params h (fold_of index h) e ≡ true → is_end e ≡ false → (fold_of index h).begun ≡ Some b → Keeps (fold_of index h) (fold_of index (with_entry h e)) b
fold_keeps index h e b m n o =
    subst (λ (t : State). Keeps (fold_of index h) t b) (sym (fold_push index h e))
    (step_keeps index h (fold_of index h) e b m n (frozen_there index h b o) o)

-- and so does the list up to the Begin
pub upto_kept : (index : Index) (h : BasedList) (e : Entry) (b : Begun) → (fold_of index h).begun ≡ Some b → upto (with_entry h e) b.position ≡ upto h b.position
upto_kept index h e b o = let first = open_within index h b o in upto_push h e b.position (omega arith)
