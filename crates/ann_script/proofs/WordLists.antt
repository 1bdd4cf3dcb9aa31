-- The words of a text, taken one after another.
use Rattle.std.proofs.Common.{◌≡◌, ◌<◌, ℕ, ◌+◌, List, [], ◌∷◌, length, refl, sym, ap, subst, ◌∙◌, take, drop, arith, true, false, not, cond, zero, suc}
use Rattle.std.specs.Prelude.{filter}
use Rattle.std.specs.List.{position_or_len, slice_split, onto_first}
use Rattle.ann_script.specs.Words.{is_blank, is_word, words}

-- a blank in front says nothing
words-blank : (b : ℕ) (bs : List ℕ) → is_blank b ≡ true → words (b ∷ bs) ≡ words bs
words-blank b bs e = ap (λ t. filter is_word (cond t ([] ∷ slice_split is_blank bs) (onto_first b (slice_split is_blank bs)))) e

-- the number of blanks in front
abbrev pub blanks_of : List ℕ → ℕ
blanks_of text = position_or_len (λ byte. not (is_blank byte)) text

pub words-skipped : (text : List ℕ) → words (drop (blanks_of text) text) ≡ words text
words-skipped [] = refl
words-skipped (b ∷ bs) =
    elim (is_blank b) as (λ t. is_blank b ≡ t → words (drop (cond (not (not t)) (1 + blanks_of bs) 0) (b ∷ bs)) ≡ words (b ∷ bs)) [
      | true ↦ λ e.
          let P : ℕ → Type 0 = λ k. words (drop k (b ∷ bs)) ≡ words (b ∷ bs) in
          let one : suc (blanks_of bs) ≡ 1 + blanks_of bs = omega arith in
          subst P one (words-skipped bs ∙ sym (words-blank b bs e))
      | false ↦ λ e. refl
    ] refl

-- behind blanks a word stands, where anything does
pub word_len-skipped : (text : List ℕ) → 0 < length (drop (blanks_of text) text) → 0 < position_or_len is_blank (drop (blanks_of text) text)
word_len-skipped [] = λ some. absurd (omega arith)
word_len-skipped (b ∷ bs) =
    elim (is_blank b) as (λ t. is_blank b ≡ t → 0 < length (drop (cond (not (not t)) (1 + blanks_of bs) 0) (b ∷ bs)) → 0 < position_or_len is_blank (drop (cond (not (not t)) (1 + blanks_of bs) 0) (b ∷ bs))) [
      | true ↦ λ e.
          let P : ℕ → Type 0 = λ k. 0 < length (drop k (b ∷ bs)) → 0 < position_or_len is_blank (drop k (b ∷ bs)) in
          let one : suc (blanks_of bs) ≡ 1 + blanks_of bs = omega arith in
          subst P one (word_len-skipped bs)
      | false ↦ λ e some.
          let long : position_or_len is_blank (b ∷ bs) ≡ 1 + position_or_len is_blank bs = ap (λ t. cond (not t) (1 + position_or_len is_blank bs) 0) e in
          omega (arith, long)
    ] refl

-- the parts of a text at its blanks are the first, of this length, and those of the text behind it
abbrev Parted : List ℕ → ℕ → Type 0
Parted text k = (parts : List (List ℕ)) × (slice_split is_blank text ≡ take k text ∷ parts) × (filter is_word parts ≡ words (drop k text))

parted_by_first : (text : List ℕ) → Parted text (position_or_len is_blank text)
parted_by_first [] = ([], refl, refl)
parted_by_first (b ∷ bs) =
    elim (is_blank b) as (λ t. is_blank b ≡ t → Parted (b ∷ bs) (cond (not t) (1 + position_or_len is_blank bs) 0)) [
      | true ↦ λ e. (
        slice_split is_blank bs,
        ap (λ t. cond t ([] ∷ slice_split is_blank bs) (onto_first b (slice_split is_blank bs))) e,
        sym (words-blank b bs e),
      )
      | false ↦ λ e.
          let rest = parted_by_first bs in
          let one : suc (position_or_len is_blank bs) ≡ 1 + position_or_len is_blank bs = omega arith in
          let first = ap (λ t. cond t ([] ∷ slice_split is_blank bs) (onto_first b (slice_split is_blank bs))) e in
          subst (Parted (b ∷ bs)) one (rest.0, first ∙ ap (onto_first b) rest.1, rest.2)
    ] refl

is_word-take : (k b : ℕ) (bs : List ℕ) → 0 < k → is_word (take k (b ∷ bs)) ≡ true
is_word-take zero b bs some = absurd (omega arith)
is_word-take (suc k) b bs some = refl

-- the first word and those behind it
pub words-first : (text : List ℕ) → 0 < position_or_len is_blank text → words text ≡ take (position_or_len is_blank text) text ∷ words (drop (position_or_len is_blank text) text)
words-first [] some = absurd (omega arith)
words-first (b ∷ bs) some =
    let k = position_or_len is_blank (b ∷ bs) in
    let parted = parted_by_first (b ∷ bs) in
    let word = is_word-take k b bs some in
    ap (filter is_word) parted.1 ∙ ap (λ t. cond t (take k (b ∷ bs) ∷ filter is_word parted.0) (filter is_word parted.0)) word ∙ ap (λ w. take k (b ∷ bs) ∷ w) parted.2
