-- The lines of a text, taken one after another.
use Rattle.std.proofs.Common.{◌≡◌, ◌<◌, ℕ, ◌+◌, List, [], ◌∷◌, ◌++◌, refl, sym, ap, subst, ◌∙◌, take, drop, get_or, arith, true, false, cond}
use Rattle.std.proofs.lemmas.Bool.{eqb-true}
use Rattle.std.proofs.lemmas.List.{get_or-take, length-take}
use Rattle.std.proofs.lemmas.List.Sums.{fails_before_first, passes_at_first, split_at_first}
use Rattle.std.proofs.lemmas.List.Splits.{slice_split_none, slice_split_at}
use Rattle.std.specs.Prelude.{position, Option, Some, None, Result, Err}
use Rattle.std.specs.List.{position_or_len, onto_first}
use Rattle.ann_script.proofs.Places.{found_is_first, none_is_past}
use Rattle.ann_script.specs.Script.{Client, Ending, is_line_feed, lines, said, lines_said}
use Rattle.ann_script.specs.Drafts.{IsOneLine}
use Rattle.ann_script.specs.declared.verbs.Rules.{Rules}

-- no line feed is found in a text that has none
pub one_line-from_none : (text : List ℕ) → position is_line_feed text ≡ None → IsOneLine text
one_line-from_none text none k d inside = fails_before_first is_line_feed text k d (omega (arith, none_is_past is_line_feed text none))

pub one_line-front : (text : List ℕ) (end : ℕ) → position is_line_feed text ≡ Some end → IsOneLine (take end text)
one_line-front text end found k d inside =
    let first = found_is_first is_line_feed text end found in
    let before : k < end = omega (arith, length-take end text) in
    let early : k < position_or_len is_line_feed text = omega (arith, first.0) in
    ap is_line_feed (get_or-take end text k d before) ∙ fails_before_first is_line_feed text k d early

pub split_at_found : (text : List ℕ) (end : ℕ) → position is_line_feed text ≡ Some end → text ≡ take end text ++ 10 ∷ drop (end + 1) text
split_at_found text end found =
    let first = found_is_first is_line_feed text end found in
    let P : ℕ → Type 0 = λ k. text ≡ take k text ++ 10 ∷ drop (k + 1) text in
    let at = position_or_len is_line_feed text in
    subst P (sym first.0) (split_at_first is_line_feed text 10 first.1 ∙ ap (λ b. take at text ++ b ∷ drop (at + 1) text) (eqb-true (get_or text at 10) 10 (passes_at_first is_line_feed text 10 first.1)))

pub lines-one : (text : List ℕ) → IsOneLine text → lines text ≡ text ∷ []
lines-one text one = slice_split_none is_line_feed text one

pub lines-first : (line rest : List ℕ) → IsOneLine line → lines (line ++ 10 ∷ rest) ≡ line ∷ lines rest
lines-first line rest one = slice_split_at is_line_feed line 10 rest one refl

-- a text has a line at least
some_line : (text : List ℕ) → (first : List ℕ) × (others : List (List ℕ)) × (lines text ≡ first ∷ others)
some_line [] = ([], [], refl)
some_line (b ∷ bs) =
    let rest = some_line bs in
    elim (is_line_feed b) as (λ t. (first : List ℕ) × (others : List (List ℕ)) × (cond t ([] ∷ lines bs) (onto_first b (lines bs)) ≡ first ∷ others)) [
      | true ↦ ([], lines bs, refl)
      | false ↦ (b ∷ rest.0, rest.1, ap (onto_first b) rest.2)
    ]

-- what is said of a line and of those behind it
abbrev pub said_on : Rules → Ending → ℕ → List ℕ → Option (List Client) → Result (List Client) ℕ
said_on rules ending number rest None = Err number
said_on rules ending number rest (Some more) = lines_said rules ending more (number + 1) (lines rest)

-- a whole line in front is judged, and then the others
pub lines_said-first : (rules : Rules) (ending : Ending) (clients : List Client) (number : ℕ) (line rest : List ℕ) → IsOneLine line → lines_said rules ending clients number (lines (line ++ 10 ∷ rest)) ≡ said_on rules ending number rest (said rules clients line)
lines_said-first rules ending clients number line rest one =
    let more = some_line rest in
    ap (lines_said rules ending clients number) (lines-first line rest one ∙ ap (λ t. line ∷ t) more.2) ∙ judged rules ending number more.0 more.1 rest more.2 (said rules clients line)
  where
    judged : (rules : Rules) (ending : Ending) (number : ℕ) (first : List ℕ) (others : List (List ℕ)) (rest : List ℕ) → lines rest ≡ first ∷ others → (judgement : Option (List Client)) → elim judgement [ None ↦ Err number | Some more ↦ lines_said rules ending more (number + 1) (first ∷ others) ] ≡ said_on rules ending number rest judgement
    judged rules ending number first others rest is None = refl
    judged rules ending number first others rest is (Some more) = ap (lines_said rules ending more (number + 1)) (sym is)
