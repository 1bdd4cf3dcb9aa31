-- Drafts of a script, and the texts that they take.
use Rattle.std.proofs.Common.{◌≡◌, false, ◌≤◌, ℕ, ◌+◌, List, [], ◌∷◌, ◌++◌, length, sym, ap, subst, ◌∙◌, arith, append_assoc, length-append}
use Rattle.std.specs.Prelude.{Some, None, Ok, Err}
use Rattle.ann_script.specs.Script.{Ending, Whole, is_line_feed, said, lines, lines_said}
use Rattle.ann_script.specs.Drafts.{IsOneLine, Continues, Judges, Takes, Finishes, said_from}
use Rattle.ann_script.specs.declared.script_refused.ScriptRefused.{ScriptRefused}
use Rattle.ann_script.specs.declared.script_refused.ScriptRefused.TheVariants.{Line, Failed, Memory}
use Rattle.std.proofs.lemmas.List.Elements.{All-append, All-nil}
use Rattle.ann_script.specs.declared.draft.Draft.{Draft}
use Rattle.ann_script.proofs.Lines.{lines_said-first, lines-one, said_on}

-- a draft's line, the bytes that end it, a line feed and more
regroup : (line bytes rest : List ℕ) → line ++ ((bytes ++ 10 ∷ []) ++ rest) ≡ (line ++ bytes) ++ 10 ∷ rest
regroup line bytes rest = simp append_assoc

said_from-line : (old : Draft) (bytes : List ℕ) (ending : Ending) (rest : List ℕ) → IsOneLine (old.line.items ++ bytes) → said_from old ending ((bytes ++ 10 ∷ []) ++ rest) ≡ said_on old.rules ending old.number rest (said old.rules old.script (old.line.items ++ bytes))
said_from-line old bytes ending rest one =
    ap (λ t. lines_said old.rules ending old.script old.number (lines t)) (regroup old.line.items bytes rest) ∙ lines_said-first old.rules ending old.script old.number (old.line.items ++ bytes) rest one

-- the line was judged
pub ended_ok : (old new : Draft) (bytes : List ℕ) → IsOneLine (old.line.items ++ bytes) → said old.rules old.script (old.line.items ++ bytes) ≡ Some new.script → new.rules ≡ old.rules → new.number ≡ old.number + 1 → new.line.items ≡ [] → Continues old new (bytes ++ 10 ∷ [])
ended_ok old new bytes one judged rules number line = record {
  same = λ ending rest. said_from-line old bytes ending rest one ∙ ap (said_on old.rules ending old.number rest) judged ∙ same_place ending rest;
  one_line = λ k d inside. absurd (omega (arith, ap length line));
  rules = rules;
  number = omega (arith, length-append bytes (10 ∷ []));
}
  where
    same_place : (ending : Ending) (rest : List ℕ) → lines_said old.rules ending new.script (old.number + 1) (lines rest) ≡ said_from new ending rest
    same_place ending rest =
        ap (λ r. lines_said r ending new.script (old.number + 1) (lines rest)) (sym rules) ∙ ap (λ n. lines_said new.rules ending new.script n (lines rest)) (sym number) ∙ ap (λ t. lines_said new.rules ending new.script new.number (lines (t ++ rest))) (sym line)

-- the line is at fault, whatever follows
pub ended_bad : (old : Draft) (bytes : List ℕ) (number : ℕ) → IsOneLine (old.line.items ++ bytes) → said old.rules old.script (old.line.items ++ bytes) ≡ None → number ≡ old.number → (ending : Ending) (rest : List ℕ) → said_from old ending ((bytes ++ 10 ∷ []) ++ rest) ≡ Err number
ended_bad old bytes number one judged is ending rest =
    said_from-line old bytes ending rest one ∙ ap (said_on old.rules ending old.number rest) judged ∙ ap Err (sym is)

pub one_line-append : (a b : List ℕ) → IsOneLine a → IsOneLine b → IsOneLine (a ++ b)
one_line-append a b one two = All-append (λ byte. is_line_feed byte ≡ false) a b one two

-- a line that wasn't taken
pub takes-refused : (old new : Draft) (bytes : List ℕ) (refused : ScriptRefused) → IsOneLine (old.line.items ++ bytes) → Judges old new bytes (Err refused) → Takes old new (bytes ++ 10 ∷ []) (Err refused)
takes-refused old new bytes (Line number) one judged = ended_bad old bytes number one judged.0 judged.1
takes-refused old new bytes Failed one judged = judged
takes-refused old new bytes (Memory e) one judged = judged

-- the last line was judged
pub finish-one : (draft : Draft) → IsOneLine draft.line.items → lines (draft.line.items ++ []) ≡ (draft.line.items ++ []) ∷ []
finish-one draft one = lines-one (draft.line.items ++ []) (one_line-append draft.line.items [] one (All-nil (λ byte. is_line_feed byte ≡ false)))

pub finished : (draft new : Draft) → IsOneLine draft.line.items → said draft.rules draft.script (draft.line.items ++ []) ≡ Some new.script → said_from draft Whole [] ≡ Ok new.script
finished draft new one judged = ap (lines_said draft.rules Whole draft.script draft.number) (finish-one draft one) ∙ ap (λ o. elim o [ None ↦ Err draft.number | Some more ↦ Ok more ]) judged

pub finishes-refused : (draft new : Draft) (refused : ScriptRefused) → IsOneLine draft.line.items → Judges draft new [] (Err refused) → Finishes draft (Err refused)
finishes-refused draft new (Line number) one judged = ap (lines_said draft.rules Whole draft.script draft.number) (finish-one draft one) ∙ ap (λ o. elim o [ None ↦ Err draft.number | Some more ↦ Ok more ]) judged.0 ∙ ap Err (sym judged.1)
finishes-refused draft new Failed one judged = judged
finishes-refused draft new (Memory e) one judged = judged

-- a front of a piece was taken, and the rest of it is to be
pub record Taking (first now : Draft) (piece rest : List ℕ) : Type 0 where
  pub same : (ending : Ending) (more : List ℕ) → said_from first ending (piece ++ more) ≡ said_from now ending (rest ++ more)
  pub one_line : IsOneLine now.line.items
  pub rules : now.rules ≡ first.rules
  pub number : now.number + length rest ≤ first.number + length piece

-- a line of the rest was taken
pub taking-more : (first now next : Draft) (piece rest line behind : List ℕ) → Taking first now piece rest → rest ≡ line ++ 10 ∷ behind → Continues now next (line ++ 10 ∷ []) → Taking first next piece behind
taking-more first now next piece rest line behind taking parts continues = record {
  same = λ ending more.
      taking.same ending more ∙ ap (λ t. said_from now ending (t ++ more)) parts ∙ ap (said_from now ending) (grouped line behind more) ∙ continues.same ending (behind ++ more);
  one_line = continues.one_line;
  rules = continues.rules ∙ taking.rules;
  number = omega (arith, taking.number, continues.number, ap length parts, length-append line (10 ∷ behind), length-append line (10 ∷ []));
}
  where
    grouped : (line behind more : List ℕ) → (line ++ 10 ∷ behind) ++ more ≡ (line ++ 10 ∷ []) ++ (behind ++ more)
    grouped line behind more = simp append_assoc

-- a line of the rest is at fault
pub taking-bad : (first now next : Draft) (piece rest line behind : List ℕ) (refused : ScriptRefused) → Taking first now piece rest → rest ≡ line ++ 10 ∷ behind → Takes now next (line ++ 10 ∷ []) (Err refused) → Takes first next piece (Err refused)
taking-bad first now next piece rest line behind (Line number) taking parts bad = λ ending more.
    taking.same ending more ∙ ap (λ t. said_from now ending (t ++ more)) parts ∙ ap (said_from now ending) (grouped line behind more) ∙ bad ending (behind ++ more)
  where
    grouped : (line behind more : List ℕ) → (line ++ 10 ∷ behind) ++ more ≡ (line ++ 10 ∷ []) ++ (behind ++ more)
    grouped line behind more = simp append_assoc
taking-bad first now next piece rest line behind Failed taking parts bad = bad
taking-bad first now next piece rest line behind (Memory e) taking parts bad = bad

-- what is left of a piece is a part of a line
pub taking-all : (first now next : Draft) (piece rest : List ℕ) → Taking first now piece rest → IsOneLine rest → next.script ≡ now.script → next.rules ≡ now.rules → next.number ≡ now.number → next.line.items ≡ now.line.items ++ rest → Continues first next piece
taking-all first now next piece rest taking one script rules number line = record {
  same = λ ending more. taking.same ending more ∙ ap (λ t. lines_said now.rules ending now.script now.number (lines t)) (sym (append_assoc now.line.items rest more)) ∙ same_place ending more;
  one_line = subst IsOneLine (sym line) (one_line-append now.line.items rest taking.one_line one);
  rules = rules ∙ taking.rules;
  number = omega (arith, taking.number, number);
}
  where
    same_place : (ending : Ending) (more : List ℕ) → lines_said now.rules ending now.script now.number (lines ((now.line.items ++ rest) ++ more)) ≡ said_from next ending more
    same_place ending more =
        ap (λ r. lines_said r ending now.script now.number (lines ((now.line.items ++ rest) ++ more))) (sym rules) ∙ ap (λ s. lines_said next.rules ending s now.number (lines ((now.line.items ++ rest) ++ more))) (sym script) ∙ ap (λ n. lines_said next.rules ending next.script n (lines ((now.line.items ++ rest) ++ more))) (sym number) ∙ ap (λ t. lines_said next.rules ending next.script next.number (lines (t ++ more))) (sym line)
