-- What is left of a list behind the Begin of its last merge.
use Rattle.std.proofs.Common.{◌≡◌, ℕ, ◌+◌, ◌-◌, cond, List, [], ◌∷◌, ◌++◌, refl, sym, ap, ap₂, ◌∙◌, arith, drop, length, append_assoc, count_by, length-append}
use Rattle.std.specs.Prelude.{Option, None}
use Rattle.std.proofs.lemmas.List.{take_at, drop_at, length_push}
use Rattle.std.proofs.lemmas.List.Sums.{sum_by-append, sum_by-cons}
use Rattle.ann_types.specs.Index.{Index}
use Rattle.ann_types.specs.Legal.{IsLegal}
use Rattle.ann_types.specs.Lists.{BasedList, Names, names_of, makes_point, next_pid, live_after, live_from, live_of}
use Rattle.ann_types.specs.declared.entry.Entry.{Entry}
use Rattle.ann_types.specs.declared.entry.Entry.TheVariants.{Begin, End}
use Rattle.ann_types.proofs.Folds.{live_append}
use Rattle.ann_laws.specs.Replays.{with_only}
use Rattle.ann_laws.proofs.Replayed.{merged_names}
use Rattle.ann_reopen.specs.Gone.{gone_from, gone_of}
use Rattle.ann_reopen.specs.Judged.{IsLastMerge}
use Rattle.ann_reopen.specs.declared.judged.Merge.{Merge}
use Rattle.ann_reopen.proofs.Knowing.{gone_append}
use Rattle.ann_resume.specs.Cut.{without_merge, on_merge, IsTailOf}

-- ---- lists

pub cut_parts : {A : Type 0} (before inside behind : List A) (b e : A) (i j : ℕ) → i ≡ length before → j ≡ i + length inside + 1 → without_merge i j ((before ++ b ∷ inside) ++ e ∷ behind) ≡ inside ++ behind
cut_parts before inside behind b e i j first last =
    let size : length (before ++ b ∷ inside) ≡ j = (let all = length-append before (b ∷ inside) in omega arith) in
    let more : length ((before ++ b ∷ inside) ++ e ∷ []) ≡ j + 1 = (let all = length_push (before ++ b ∷ inside) e in omega arith) in
    let begin : length (before ++ b ∷ []) ≡ i + 1 = (let all = length_push before b in omega arith) in
    ap₂ ◌++◌
    (ap (drop (i + 1)) (take_at (before ++ b ∷ inside) (e ∷ behind) j size)
    ∙ ap (drop (i + 1)) (sym (append_assoc before (b ∷ []) inside))
    ∙ drop_at (before ++ b ∷ []) inside (i + 1) begin)
    (ap (drop (j + 1)) (sym (append_assoc (before ++ b ∷ inside) (e ∷ []) behind))
    ∙ drop_at ((before ++ b ∷ inside) ++ e ∷ []) behind (j + 1) more)

pub length-gone_from : (live : Names) (next : ℕ) (es : List Entry) → length (gone_from live next es) ≡ length es
length-gone_from live next [] = refl
length-gone_from live next (e ∷ es) = let rest = length-gone_from (live_after live next e) (next + cond (makes_point e) 1 0) es in omega arith

-- ---- the Pids that a list's entries delete, by the parts of its last merge

module _ (live : Names) (next : ℕ) (before inside behind : List Entry) (begin_by end_by segment : ℕ) where
  -- the live tags and the next Pid before the Begin, and before the End
  abbrev live1 : Names
  live1 = live_from live next before

  abbrev next1 : ℕ
  next1 = next + count_by makes_point before

  abbrev front : List Entry
  front = before ++ Begin begin_by ∷ inside

  live3 : live_from live next front ≡ live_from live1 next1 inside
  live3 =
      live_append live next before (Begin begin_by ∷ inside)
      ∙ ap (λ n. live_from live1 n inside) (let e : next1 + 0 ≡ next1 = omega arith in e)

  next3 : next + count_by makes_point front + 0 ≡ next1 + count_by makes_point inside
  next3 =
      let all = sum_by-append (λ x. cond (makes_point x) 1 0) before (Begin begin_by ∷ inside) in
      let one = sum_by-cons (λ x. cond (makes_point x) 1 0) (Begin begin_by) inside in
      omega arith

  pub gone_parts : gone_from live next (front ++ End end_by segment ∷ behind) ≡ (gone_from live next before ++ None ∷ gone_from live1 next1 inside) ++ None ∷ gone_from (live_from live1 next1 inside) (next1 + count_by makes_point inside) behind
  gone_parts =
      gone_append live next front (End end_by segment ∷ behind)
      ∙ ap₂ (λ (x y : List (Option ℕ)). x ++ None ∷ y)
      (gone_append live next before (Begin begin_by ∷ inside)
      ∙ ap (λ n. gone_from live next before ++ None ∷ gone_from live1 n inside) (let e : next1 + 0 ≡ next1 = omega arith in e))
      (ap₂ (λ (l : Names) (n : ℕ). gone_from l n behind) live3 next3)

-- ---- what is left

module _ (index : Index) (position : ℕ) (h : BasedList) (merge : Merge) (last : IsLastMerge h merge) (all : List Entry) (deleted : List (Option ℕ)) (at : h.base.position ≡ position) where
  begins : merge.position - position ≡ length last.before
  begins = let first = last.position in omega arith

  ends : merge.end - position ≡ (merge.position - position) + length last.inside + 1
  ends = let first = last.position in let second = last.end in omega arith

  pub left_entries : h.entries ≡ all → without_merge (merge.position - position) (merge.end - position) all ≡ (on_merge index h merge last).entries
  left_entries are =
      ap (without_merge (merge.position - position) (merge.end - position)) (sym are ∙ last.merge.entries)
      ∙ cut_parts last.before last.inside last.behind (Begin last.merge.begin_by) (End last.merge.end_by merge.segment) (merge.position - position) (merge.end - position) begins ends

  gone_again : IsLegal index h → gone_of (on_merge index h merge last) ≡ gone_from (live_of (with_only h last.before)) (next_pid (with_only h last.before)) last.inside ++ gone_from (live_from (live_of (with_only h last.before)) (next_pid (with_only h last.before)) last.inside) (next_pid (with_only h last.before) + count_by makes_point last.inside) last.behind
  gone_again legal =
      ap (λ (l : Names). gone_from l (next_pid (with_only h last.before)) (last.inside ++ last.behind)) (merged_names index h last.before last.inside merge.segment last.behind legal last.merge)
      ∙ gone_append (live_of (with_only h last.before)) (next_pid (with_only h last.before)) last.inside last.behind

  pub left_gone : IsLegal index h → h.entries ≡ all → deleted ≡ gone_of h → without_merge (merge.position - position) (merge.end - position) deleted ≡ gone_of (on_merge index h merge last)
  left_gone legal are is =
      let names : Names = names_of h.base.graph.points in
      let size = length-gone_from names h.base.next last.before in
      let more = length-gone_from (live_of (with_only h last.before)) (next_pid (with_only h last.before)) last.inside in
      let first = begins in
      let second = ends in
      ap (without_merge (merge.position - position) (merge.end - position))
      (is ∙ ap (gone_from names h.base.next) last.merge.entries ∙ gone_parts names h.base.next last.before last.inside last.behind last.merge.begin_by last.merge.end_by merge.segment)
      ∙ cut_parts (gone_from names h.base.next last.before) (gone_from (live_of (with_only h last.before)) (next_pid (with_only h last.before)) last.inside) (gone_from (live_from (live_of (with_only h last.before)) (next_pid (with_only h last.before)) last.inside) (next_pid (with_only h last.before) + count_by makes_point last.inside) last.behind) None None (merge.position - position) (merge.end - position) (omega arith) (omega arith)
      ∙ sym (gone_again legal)

pub tail_is : (index : Index) (position : ℕ) (h : BasedList) (merge : Merge) → (last : IsLastMerge h merge) → (all : List Entry) (deleted : List (Option ℕ)) → IsTailOf index position h merge last all deleted (without_merge (merge.position - position) (merge.end - position) all) (without_merge (merge.position - position) (merge.end - position) deleted)
tail_is index position h merge last all deleted = record {
  entries = λ at are. left_entries index position h merge last all deleted at are;
  gone = λ at legal are is. left_gone index position h merge last all deleted at legal are is;
}
