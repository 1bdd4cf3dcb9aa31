-- What is left of a list behind its last merge: its entries are entries of the list, and its base is that of the merge.
use Rattle.std.proofs.Common.{◌≡◌, ◌<◌, ◌+◌, ◌^◌, ℕ, List, ◌∷◌, ◌++◌, length, sym, ap, ap₂, subst, arith, length-append}
use Rattle.std.specs.Prelude.{Option, Some, None}
use Rattle.std.specs.List.{AllByRecursion}
use Rattle.ann_entry.specs.EntryBytes.{HasComponents}
use Rattle.ann_frame.specs.Frames.{HaveComponents}
use Rattle.ann_types.specs.Index.{Index}
use Rattle.ann_types.specs.Legal.{IsLegal}
use Rattle.ann_types.specs.Lists.{BasedList}
use Rattle.ann_types.specs.declared.entry.Entry.{Entry}
use Rattle.ann_types.specs.declared.entry.Entry.TheVariants.{Begin, End}
use Rattle.ann_types.proofs.Sets.{all_append, all_left, all_right}
use Rattle.ann_laws.proofs.Replayed.{merge_number}
use Rattle.ann_reopen.specs.declared.judged.Merge.{Merge}
use Rattle.ann_base.specs.Grounded.{base_over}
use Rattle.ann_resume.specs.Cut.{on_merge}
use Rattle.ann_state.specs.List.{base_on}
use Rattle.ann_state.specs.State.{IsLeftOf}
use Rattle.ann_recover.specs.Renewal.{base_of, IsNumbered}

-- ---- components

-- of the items before, between and behind two of them, those between and behind
left_of : {X : Type 0} (P : X → Type 0) (before inside behind : List X) (b e : X) → AllByRecursion P ((before ++ b ∷ inside) ++ e ∷ behind) → AllByRecursion P (inside ++ behind)
left_of P before inside behind b e all =
    all_append P inside behind
    (all_right P before (b ∷ inside) (all_left P (before ++ b ∷ inside) (e ∷ behind) all)).1
    (all_right P (before ++ b ∷ inside) (e ∷ behind) all).1

pub left_components : (d : ℕ) (index : Index) (h : BasedList) (merge : Option Merge) (left : BasedList) → IsLeftOf index h merge left → HaveComponents d h.entries → HaveComponents d left.entries
left_components d index h None left is all = subst (λ (g : BasedList). HaveComponents d g.entries) (sym is.1) all
left_components d index h (Some merge) left is all =
    let last = is.0 in
    subst (λ (g : BasedList). HaveComponents d g.entries) (sym is.1)
    (left_of (HasComponents d) last.before last.inside last.behind (Begin last.merge.begin_by) (End last.merge.end_by merge.segment) (subst (HaveComponents d) last.merge.entries all))

-- ---- numbers

pub left_numbered : (index : Index) (h : BasedList) (merge : Option Merge) (left : BasedList) → IsLeftOf index h merge left → IsLegal index h → h.base.position + length h.entries < 2 ^ 63 → IsNumbered merge
left_numbered index h None left is legal room = tt
left_numbered index h (Some merge) left is legal room =
    let last = is.0 in
    let place = last.position in
    let number = merge_number index h last.before last.inside merge.segment last.behind legal last.merge in
    let all : length h.entries ≡ length ((last.before ++ Begin last.merge.begin_by ∷ last.inside) ++ End last.merge.end_by merge.segment ∷ last.behind) = ap (λ (t : List Entry). length t) last.merge.entries in
    let outer = length-append (last.before ++ Begin last.merge.begin_by ∷ last.inside) (End last.merge.end_by merge.segment ∷ last.behind) in
    let inner = length-append last.before (Begin last.merge.begin_by ∷ last.inside) in
    (omega (arith, place, all, outer, inner, room), omega (arith, place, number))

-- ---- the base

-- a list on its last merge has that merge's base
pub left_base : (index : Index) (h : BasedList) (merge : Merge) (left : BasedList) → IsLeftOf index h (Some merge) left → left.base ≡ base_on (base_of merge) left.base.graph
left_base index h merge left is =
    let last = is.0 in
    let place = last.position in
    subst (λ (g : BasedList). g.base ≡ base_on (base_of merge) g.base.graph) (sym is.1)
    (ap₂ (λ (n m : ℕ). base_over n m merge.segment (on_merge index h merge last).base.graph) (omega (arith, place)) (sym last.next))
