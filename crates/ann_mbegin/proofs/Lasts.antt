-- A job stays that of the open Begin while the list grows.
use Rattle.std.proofs.Common.{◌≡◌, ℕ, ◌+◌, ◌*◌, ◌<◌, true, false, not, List, sym, subst, ◌∙◌, arith}
use Rattle.std.specs.List.{list_all}
use Rattle.std.specs.Prelude.{Option, Some, None}
use Rattle.ann_types.specs.Index.{Index}
use Rattle.ann_types.specs.Lists.{BasedList, with_entries, with_entry, next_pid}
use Rattle.ann_types.specs.Fold.{Begun, fold_of}
use Rattle.ann_types.specs.Legal.{IsLegal, may_follow}
use Rattle.ann_types.specs.declared.entry.Entry.{Entry}
use Rattle.ann_laws.specs.Replays.{is_end}
use Rattle.ann_segment.specs.Segment.{SegmentView}
use Rattle.ann_named.specs.Named.{named_in, IsNamed, AreBelow}
use Rattle.ann_named.proofs.Current.{named_same}
use Rattle.ann_named.proofs.Entries.{named_push, named_stays}
use Rattle.ann_named.proofs.Frames.{lasts_all}
use Rattle.ann_named.proofs.Numbers.{named_older}
use Rattle.ann_mlaws.specs.Plan.{IsLti}
use Rattle.ann_merge.specs.Job.{Order}
use Rattle.ann_mbegin.specs.Begun.{IsJobOf, IsNumberedBelow}
use Rattle.ann_mbegin.proofs.Kept.{fold_keeps, upto_kept}

pub job_lasts : {S : Type 0} (index : Index) (h : BasedList) (e : Entry) (order : Order S) → may_follow index.params h (fold_of index h) e ≡ true → is_end e ≡ false → IsJobOf index h order → IsJobOf index (with_entry h e) order
job_lasts index h e order m n w =
    let kept = fold_keeps index h e w.begun m n w.open_now in
    record {
      begun = w.begun;
      open_now = kept.begun;
      numbered = w.numbered;
      of_index = w.of_index;
      gone = w.gone;
      frozen = w.frozen ∙ sym kept.taken;
      named = named_same h (with_entry h e) order.old (named_push h e ∙ named_stays (named_in h) e n) w.named;
      older = subst (λ (g : BasedList). AreBelow (next_pid g) order.old) (sym (upto_kept index h e w.begun w.open_now)) w.older;
    }

pub lti_lasts : {S : Type 0} (bytes : S → List ℕ) (index : Index) (h : BasedList) (e : Entry) (order : Order S) → may_follow index.params h (fold_of index h) e ≡ true → is_end e ≡ false → IsJobOf index h order → IsLti bytes index order.old (fold_of index h).lti → IsLti bytes index order.old (fold_of index (with_entry h e)).lti
lti_lasts bytes index h e order m n w held =
    subst (IsLti bytes index order.old) (sym (fold_keeps index h e w.begun m n w.open_now).lti) held

-- ---- over a frame

pub job_lasts_all : {S : Type 0} (index : Index) (h : BasedList) (es : List Entry) (order : Order S) → IsLegal index (with_entries h es) → list_all (λ e. not (is_end e)) es ≡ true → IsJobOf index h order → IsJobOf index (with_entries h es) order
job_lasts_all index h es order = lasts_all index (λ g. IsJobOf index g order) (λ g e l. job_lasts index g e order) h es

pub lti_lasts_all : {S : Type 0} (bytes : S → List ℕ) (index : Index) (h : BasedList) (es : List Entry) (order : Order S) → IsLegal index (with_entries h es) → list_all (λ e. not (is_end e)) es ≡ true → IsJobOf index h order → IsLti bytes index order.old (fold_of index h).lti → IsLti bytes index order.old (fold_of index (with_entries h es)).lti
lti_lasts_all bytes index h es order l n w held =
    (lasts_all index (λ g. IsJobOf index g order × IsLti bytes index order.old (fold_of index g).lti)
    (λ g e legal m none both. (job_lasts index g e order m none both.0, lti_lasts bytes index g e order m none both.0 both.1))
    h es l n (w, held)).1

-- ---- numbers

pub numbered_below : {S : Type 0} (index : Index) (h : BasedList) (b : Begun) (segment : Option (SegmentView S)) → IsLegal index h → h.base.segment < 2 * h.base.position + 1 → (fold_of index h).begun ≡ Some b → IsNamed h segment → IsNumberedBelow (2 * b.position + 1) segment
numbered_below index h b None l first o named = tt
numbered_below index h b (Some segment) l first o named =
    let less = named_older index h b l first o in
    let is = named.0 in
    omega arith
