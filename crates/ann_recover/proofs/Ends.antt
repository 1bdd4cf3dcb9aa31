-- The last End of a list: which segment it names.
use Rattle.std.proofs.Common.{◌≡◌, ℕ, true, not, List, [], ◌∷◌, ◌++◌, sym, subst, ◌∙◌}
use Rattle.std.specs.List.{list_all}
use Rattle.std.specs.Prelude.{Option, Some, None}
use Rattle.std.proofs.lemmas.Bool.{false≢true, and_parts}
use Rattle.ann_types.specs.Index.{Index}
use Rattle.ann_types.specs.Lists.{BasedList}
use Rattle.ann_types.specs.declared.entry.Entry.{Entry}
use Rattle.ann_types.specs.declared.entry.Entry.TheVariants.{Begin, End}
use Rattle.ann_laws.specs.Replays.{is_end, LastMerge}
use Rattle.ann_reopen.specs.declared.judged.Merge.{Merge}
use Rattle.ann_state.specs.State.{IsLeftOf}
use Rattle.ann_state.proofs.Marks.{none_ends, left_ends}
use Rattle.ann_recover.specs.Renewal.{number_of}

no_end_in : (front : List Entry) (by segment : ℕ) (behind : List Entry) → list_all (λ e. not (is_end e)) (front ++ End by segment ∷ behind) ≡ true → ⊥
no_end_in [] by segment behind all = false≢true all
no_end_in (e ∷ front) by segment behind all = no_end_in front by segment behind (and_parts (not (is_end e)) (list_all (λ x. not (is_end x)) (front ++ End by segment ∷ behind)) all).1

one_end : (f g : List Entry) (a s b t : ℕ) (u v : List Entry) → f ++ End a s ∷ u ≡ g ++ End b t ∷ v → list_all (λ e. not (is_end e)) u ≡ true → list_all (λ e. not (is_end e)) v ≡ true → s ≡ t
one_end [] [] a s b t u v same no_u no_v = cc
one_end [] (e ∷ g) a s b t u v same no_u no_v =
    let rest : u ≡ g ++ End b t ∷ v = cc in
    absurd (no_end_in g b t v (subst (λ (l : List Entry). list_all (λ x. not (is_end x)) l ≡ true) rest no_u))
one_end (e ∷ f) [] a s b t u v same no_u no_v =
    let rest : v ≡ f ++ End a s ∷ u = cc in
    absurd (no_end_in f a s u (subst (λ (l : List Entry). list_all (λ x. not (is_end x)) l ≡ true) rest no_v))
one_end (e ∷ f) (x ∷ g) a s b t u v same no_u no_v =
    let rest : f ++ End a s ∷ u ≡ g ++ End b t ∷ v = cc in
    one_end f g a s b t u v rest no_u no_v

none_last : (h : BasedList) → list_all (λ e. not (is_end e)) h.entries ≡ true → LastMerge h → ⊥
none_last h none m =
    no_end_in (m.before ++ Begin m.merge.begin_by ∷ m.inside) m.merge.end_by m.segment m.behind
    (subst (λ (l : List Entry). list_all (λ x. not (is_end x)) l ≡ true) m.merge.entries none)

-- each last merge of a list names the segment of the one that was found
pub last_named : (index : Index) (h : BasedList) (merge : Option Merge) (left : BasedList) → IsLeftOf index h merge left → (m : LastMerge h) → m.segment ≡ number_of merge
last_named index h None left is m = absurd (none_last h (none_ends h.entries is.0) m)
last_named index h (Some merge) left is m =
    let last = is.0 in
    one_end (m.before ++ Begin m.merge.begin_by ∷ m.inside) (last.before ++ Begin last.merge.begin_by ∷ last.inside) m.merge.end_by m.segment last.merge.end_by merge.segment m.behind last.behind (sym m.merge.entries ∙ last.merge.entries) m.merge.last last.merge.last

-- no End is left on the last merge
pub left_unended : (index : Index) (h : BasedList) (merge : Option Merge) (left : BasedList) → IsLeftOf index h merge left → LastMerge left → ⊥
left_unended index h None left is m = none_last h (none_ends h.entries is.0) (subst (λ (g : BasedList). LastMerge g) is.1 m)
left_unended index h (Some merge) left is m =
    let last = is.0 in
    none_last left (subst (λ (g : BasedList). list_all (λ e. not (is_end e)) g.entries ≡ true) (sym is.1) (left_ends last.inside last.behind last.merge.inner last.merge.last)) m
