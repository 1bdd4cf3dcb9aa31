-- Lists without an End.
use Rattle.std.proofs.Common.{◌≡◌, ◌∙◌, Bool, true, false, not, ◌||◌, List, [], ◌∷◌, ◌++◌, refl, sym, ap₂}
use Rattle.std.specs.List.{list_all, list_any}
use Rattle.std.proofs.lemmas.Bool.{false≢true, and_parts, not-true}
use Rattle.std.proofs.lemmas.List.Folds.{list_all-append}
use Rattle.ann_types.specs.declared.entry.Entry.{Entry}
use Rattle.ann_types.specs.declared.entry.Entry.TheVariants.{Insert, Delete, Begin, End, Replace}
use Rattle.ann_laws.specs.Replays.{is_mark, is_end}
use Rattle.ann_laws.proofs.Commuted.{and_both}

none_or : (a b : Bool) → (a || b) ≡ false → (not a ≡ true) × (b ≡ false)
none_or true b e = absurd (false≢true (sym e))
none_or false b e = (refl, e)

-- none of them is an End
pub none_ends : (es : List Entry) → list_any is_end es ≡ false → list_all (λ e. not (is_end e)) es ≡ true
none_ends [] n = refl
none_ends (e ∷ es) n =
    let both = none_or (is_end e) (list_any is_end es) n in
    and_both (not (is_end e)) (list_all (λ x. not (is_end x)) es) both.0 (none_ends es both.1)

no_mark : (e : Entry) → not (is_mark e) ≡ true → not (is_end e) ≡ true
no_mark (Insert by tag vector) n = refl
no_mark (Delete by tag) n = refl
no_mark (Begin by) n = refl
no_mark (End by segment) n = absurd (false≢true n)
no_mark (Replace by tag vector) n = refl

no_marks : (es : List Entry) → list_all (λ e. not (is_mark e)) es ≡ true → list_all (λ e. not (is_end e)) es ≡ true
no_marks [] n = refl
no_marks (e ∷ es) n =
    let both = and_parts (not (is_mark e)) (list_all (λ x. not (is_mark x)) es) n in
    and_both (not (is_end e)) (list_all (λ x. not (is_end x)) es) (no_mark e both.0) (no_marks es both.1)

-- nor of the entries inside a merge and those behind it
pub left_ends : (inside behind : List Entry) → list_all (λ e. not (is_mark e)) inside ≡ true → list_all (λ e. not (is_end e)) behind ≡ true → list_all (λ e. not (is_end e)) (inside ++ behind) ≡ true
left_ends inside behind inner last =
    list_all-append (λ x. not (is_end x)) inside behind
    ∙ and_both (list_all (λ x. not (is_end x)) inside) (list_all (λ x. not (is_end x)) behind) (no_marks inside inner) last

-- and back
pub no_ends : (es : List Entry) → list_all (λ e. not (is_end e)) es ≡ true → list_any is_end es ≡ false
no_ends [] n = refl
no_ends (e ∷ es) n =
    let both = and_parts (not (is_end e)) (list_all (λ x. not (is_end x)) es) n in
    ap₂ ◌||◌ (not-true (is_end e) both.0) (no_ends es both.1)
