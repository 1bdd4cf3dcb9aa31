-- A script of which a part was read.
use Rattle.std.specs.Prelude.{◌≡◌, ℕ, ◌+◌, ◌≤◌, List, [], ◌∷◌, ◌++◌, length, false, Option, Some, None, MatchOption, Result, Ok, Err, All}
use Rattle.std.specs.Borrow.{Bor}
use Rattle.ann_script.specs.Script.{Client, Ending, Whole, is_line_feed, said, lines, lines_said}
use Rattle.ann_script.specs.declared.draft.Draft.{Draft}
use Rattle.ann_script.specs.declared.script_refused.ScriptRefused.{ScriptRefused}
use Rattle.ann_script.specs.declared.script_refused.ScriptRefused.TheVariants.{Line, Failed, Memory}

-- no line feed stands in the text
abbrev pub IsOneLine : List ℕ → Type 0
IsOneLine text = All (λ byte. is_line_feed byte ≡ false) text

-- the line in front of the first line feed, and what stands behind it; none where there is no line feed
abbrev pub SplitsLine : List ℕ → Option (Bor (List ℕ) × Bor (List ℕ)) → Type 0
SplitsLine text result = MatchOption result (IsOneLine text) (λ parts. IsOneLine parts.0.now × (text ≡ parts.0.now ++ 10 ∷ parts.1.now))

-- what the rest of the text says behind a draft
abbrev pub said_from : Draft → Ending → List ℕ → Result (List Client) ℕ
said_from draft ending rest = lines_said draft.rules ending draft.script draft.number (lines (draft.line.items ++ rest))

-- a text was taken: whatever follows, it says the same behind the new draft as this text with it behind the old one
pub record Continues (old new : Draft) (text : List ℕ) : Type 0 where
  pub same : (ending : Ending) (rest : List ℕ) → said_from old ending (text ++ rest) ≡ said_from new ending rest
  pub one_line : IsOneLine new.line.items
  pub rules : new.rules ≡ old.rules
  pub number : new.number ≤ old.number + length text

-- a text was taken, or one of its lines is the first at fault, whatever follows
abbrev pub Takes : Draft → Draft → List ℕ → Result (Unit {0}) ScriptRefused → Type 0
Takes old new text (Ok done) = Continues old new text
Takes old new text (Err (Line number)) = (ending : Ending) (rest : List ℕ) → said_from old ending (text ++ rest) ≡ Err number
Takes old new text (Err Failed) = ⊥
Takes old new text (Err (Memory e)) = Unit {0}

-- the line that begins in the draft and ends with these bytes was judged, or is at fault
abbrev pub Judges : Draft → Draft → List ℕ → Result (Unit {0}) ScriptRefused → Type 0
Judges old new bytes (Ok done) = (said old.rules old.script (old.line.items ++ bytes) ≡ Some new.script) × (new.rules ≡ old.rules) × (new.number ≡ old.number)
Judges old new bytes (Err (Line number)) = (said old.rules old.script (old.line.items ++ bytes) ≡ None) × (number ≡ old.number)
Judges old new bytes (Err Failed) = ⊥
Judges old new bytes (Err (Memory e)) = Unit {0}

-- the text ended behind the draft
abbrev pub Finishes : Draft → Result (List Client) ScriptRefused → Type 0
Finishes draft (Ok script) = said_from draft Whole [] ≡ Ok script
Finishes draft (Err (Line number)) = said_from draft Whole [] ≡ Err number
Finishes draft (Err Failed) = ⊥
Finishes draft (Err (Memory e)) = Unit {0}
