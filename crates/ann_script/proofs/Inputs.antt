-- Reading a script from an input, piece by piece.
use Rattle.std.proofs.Common.{◌≡◌, ◌≤◌, ◌<◌, ℕ, ◌+◌, ◌-◌, inl, inr, List, [], ◌++◌, length, take, refl, sym, ap, subst, ◌∙◌, arith, append_assoc, append-nil, length-append, nat_le, true, false, cond}
use Rattle.std.proofs.Math.Seq.{take-append-add, take-append_seam}
use Rattle.std.proofs.lemmas.Grind.{common_steps}
use Rattle.std.specs.Prelude.{Option, Some, None, Result, Ok, Err}
use Rattle.std.specs.Io.KnownBytes.{Consumes, Keeps, IsAtEnd}
use Rattle.ann_script.specs.Script.{Client, Ending, Whole, Cut, Long, lines, lines_said, text_said, script_of, limit}
use Rattle.ann_script.specs.Drafts.{IsOneLine, Continues, Takes, Finishes, said_from}
use Rattle.ann_script.specs.Reading.{FindsFault, IsCut, Reads, CountsReads, Tells}
use Rattle.ann_script.specs.declared.draft.Draft.{Draft}
use Rattle.ann_script.specs.declared.script_refused.ScriptRefused.{ScriptRefused}
use Rattle.ann_script.specs.declared.script_refused.ScriptRefused.TheVariants.{Line, Failed, Memory}
use Rattle.ann_script.proofs.Drafting.{finish-one}
use Rattle.ann_script.specs.declared.verbs.Rules.{Rules}

-- nothing was consumed
pub consumes-none : (left : Option (List ℕ)) → Consumes left left []
consumes-none None = tt
consumes-none (Some xs) = refl

consumes-kept : (a b : Option (List ℕ)) → Keeps a b → Consumes a b []
consumes-kept None b kept = tt
consumes-kept (Some xs) None kept = absurd kept
consumes-kept (Some xs) (Some ys) kept = sym kept

-- a piece was consumed, and then one more
consumes-more : (a b c : Option (List ℕ)) (xs ys : List ℕ) → Consumes a b xs → Consumes b c ys → Consumes a c (xs ++ ys)
consumes-more None b c xs ys first second = tt
consumes-more (Some ws) None c xs ys first second = absurd first
consumes-more (Some ws) (Some vs) None xs ys first second = absurd second
consumes-more (Some ws) (Some vs) (Some us) xs ys first second = first ∙ ap (λ t. xs ++ t) second ∙ sym (append_assoc xs ys us)

-- what was read so far of an input stands in a draft
pub record Reading (rules : Rules) (left left' : Option (List ℕ)) (draft : Draft) (count : ℕ) : Type 0 where
  pub bytes : List ℕ
  pub read : Consumes left left' bytes
  pub long : length bytes ≡ count
  pub same : (ending : Ending) (rest : List ℕ) → text_said rules ending (bytes ++ rest) ≡ said_from draft ending rest
  pub one_line : IsOneLine draft.line.items
  pub room_is : draft.rules ≡ rules
  pub number : draft.number ≤ count + 1

pub reading-none : (rules : Rules) (left : Option (List ℕ)) (draft : Draft) → draft.script ≡ [] → draft.rules ≡ rules → draft.number ≡ 1 → draft.line.items ≡ [] → Reading rules left left draft 0
reading-none rules left draft script room_is number line = record {
  bytes = [];
  read = consumes-none left;
  long = refl;
  same = λ ending rest.
      ap (λ r. lines_said r ending [] 1 (lines rest)) (sym room_is) ∙ ap (λ s. lines_said draft.rules ending s 1 (lines rest)) (sym script) ∙ ap (λ n. lines_said draft.rules ending draft.script n (lines rest)) (sym number) ∙ ap (λ t. lines_said draft.rules ending draft.script draft.number (lines (t ++ rest))) (sym line);
  one_line = λ k d inside. absurd (omega (arith, ap length line));
  room_is = room_is;
  number = omega (arith, number);
}

pub reading-more : (rules : Rules) (a b c : Option (List ℕ)) (draft next : Draft) (count taken : ℕ) (piece : List ℕ) → Reading rules a b draft count → Consumes b c piece → Continues draft next piece → length piece ≡ taken → Reading rules a c next (count + taken)
reading-more rules a b c draft next count taken piece reading more continues long = record {
  bytes = reading.bytes ++ piece;
  read = consumes-more a b c reading.bytes piece reading.read more;
  long = omega (arith, length-append reading.bytes piece, reading.long, long);
  same = λ ending rest. ap (text_said rules ending) (append_assoc reading.bytes piece rest) ∙ reading.same ending (piece ++ rest) ∙ continues.same ending rest;
  one_line = continues.one_line;
  room_is = continues.rules ∙ reading.room_is;
  number = omega (arith, reading.number, continues.number, long);
}

-- an input within the limit, and one past it
within : (rules : Rules) (input : List ℕ) → length input ≤ limit → script_of rules input ≡ text_said rules Whole input
within rules input short = ap (λ t. cond t (text_said rules Whole input) (text_said rules Long (take limit input))) (is_le (length input) limit short)
  where
    is_le : (m n : ℕ) → m ≤ n → nat_le m n ≡ true
    is_le m n le = grind (arith, common_steps)

beyond : (rules : Rules) (input : List ℕ) → limit < length input → script_of rules input ≡ text_said rules Long (take limit input)
beyond rules input more = ap (λ t. cond t (text_said rules Whole input) (text_said rules Long (take limit input))) (is_more (length input) limit more)
  where
    is_more : (m n : ℕ) → n < m → nat_le m n ≡ false
    is_more m n less = grind (arith, common_steps)

-- a text whose lines are at fault whatever follows
always_bad : (rules : Rules) (text : List ℕ) (number : ℕ) → length text ≤ limit → ((ending : Ending) (rest : List ℕ) → text_said rules ending (text ++ rest) ≡ Err number) → (rest : List ℕ) → script_of rules (text ++ rest) ≡ Err number
always_bad rules text number short bad rest =
    elim (nat_le (length (text ++ rest)) limit) as (λ t. cond t (text_said rules Whole (text ++ rest)) (text_said rules Long (take limit (text ++ rest))) ≡ Err number) [
      | true ↦ bad Whole rest
      | false ↦
          let whole : length text + (limit - length text) ≡ limit = omega arith in
          ap (λ n. text_said rules Long (take n (text ++ rest))) (sym whole) ∙ ap (text_said rules Long) (take-append-add text rest (limit - length text)) ∙ bad Long (take (limit - length text) rest)
    ]

-- a piece could not be taken
pub reading-bad : (rules : Rules) (a b c : Option (List ℕ)) (draft next : Draft) (count : ℕ) (piece : List ℕ) (refused : ScriptRefused) → Reading rules a b draft count → Consumes b c piece → count + length piece ≤ limit → Takes draft next piece (Err refused) → Reads rules a c (Err refused)
reading-bad rules a b c draft next count piece (Line number) reading more short bad = record {
  bytes = reading.bytes ++ piece;
  read = consumes-more a b c reading.bytes piece reading.read more;
  short = omega (arith, length-append reading.bytes piece, reading.long);
  at_fault = inr (always_bad rules (reading.bytes ++ piece) number (omega (arith, length-append reading.bytes piece, reading.long)) (λ ending rest. ap (text_said rules ending) (append_assoc reading.bytes piece rest) ∙ reading.same ending (piece ++ rest) ∙ bad ending rest));
}
reading-bad rules a b c draft next count piece Failed reading more short bad = absurd bad
reading-bad rules a b c draft next count piece (Memory e) reading more short bad = record {
  bytes = reading.bytes ++ piece;
  read = consumes-more a b c reading.bytes piece reading.read more;
  short = omega (arith, length-append reading.bytes piece, reading.long);
}

-- the input ended
pub reading-end : (rules : Rules) (a b c : Option (List ℕ)) (draft : Draft) (count : ℕ) (result : Result (List Client) ScriptRefused) → Reading rules a b draft count → Consumes b c [] → IsAtEnd c → count ≤ limit → Finishes draft result → Reads rules a c result
reading-end rules a b c draft count result reading more ended short finishes =
    cases result finishes
  where
    all : Consumes a c reading.bytes
    all = subst (Consumes a c) (append-nil reading.bytes) (consumes-more a b c reading.bytes [] reading.read more)

    says : script_of rules reading.bytes ≡ said_from draft Whole []
    says = within rules reading.bytes (omega (arith, reading.long)) ∙ ap (text_said rules Whole) (sym (append-nil reading.bytes)) ∙ reading.same Whole []

    cases : (result : Result (List Client) ScriptRefused) → Finishes draft result → Reads rules a c result
    cases (Ok script) finishes = record { bytes = reading.bytes; read = all; at_end = ended; short = omega (arith, reading.long); says = says ∙ finishes }
    cases (Err (Line number)) finishes = record { bytes = reading.bytes; read = all; short = omega (arith, reading.long); at_fault = inl (ended, says ∙ finishes) }
    cases (Err Failed) finishes = absurd finishes
    cases (Err (Memory e)) finishes = record { bytes = reading.bytes; read = all; short = omega (arith, reading.long) }

-- a read failed
pub reading-cut : (rules : Rules) (a b c : Option (List ℕ)) (draft : Draft) (count : ℕ) → Reading rules a b draft count → Keeps b c → count ≤ limit → IsCut rules a c
reading-cut rules a b c draft count reading kept short = record {
  bytes = reading.bytes;
  read = subst (Consumes a c) (append-nil reading.bytes) (consumes-more a b c reading.bytes [] reading.read (consumes-kept b c kept));
  short = omega (arith, reading.long);
  clients = draft.script;
  says = ap (text_said rules Cut) (sym (append-nil reading.bytes)) ∙ reading.same Cut [] ∙ ap (lines_said draft.rules Cut draft.script draft.number) (finish-one draft reading.one_line);
}

-- the byte past the limit was read
pub reading-long : (rules : Rules) (a b c : Option (List ℕ)) (draft : Draft) (count : ℕ) (piece : List ℕ) → Reading rules a b draft count → Consumes b c piece → count ≡ limit → 0 < length piece → length piece ≤ 1 → FindsFault rules a c draft.number
reading-long rules a b c draft count piece reading more full some one = record {
  bytes = reading.bytes ++ piece;
  read = consumes-more a b c reading.bytes piece reading.read more;
  short = omega (arith, length-append reading.bytes piece, reading.long, full, one);
  at_fault = inr (λ rest.
      beyond rules ((reading.bytes ++ piece) ++ rest) (omega (arith, length-append (reading.bytes ++ piece) rest, length-append reading.bytes piece, reading.long, full, some)) ∙ ap (text_said rules Long) (front rest) ∙ reading.same Long [] ∙ ap (lines_said draft.rules Long draft.script draft.number) (finish-one draft reading.one_line));
}
  where
    is_limit : length reading.bytes ≡ limit
    is_limit = reading.long ∙ full

    front : (rest : List ℕ) → take limit ((reading.bytes ++ piece) ++ rest) ≡ reading.bytes ++ []
    front rest = ap (take limit) (append_assoc reading.bytes piece rest) ∙ ap (λ n. take n (reading.bytes ++ (piece ++ rest))) (sym is_limit) ∙ take-append_seam reading.bytes (piece ++ rest) ∙ sym (append-nil reading.bytes)

-- what an input that tells its bytes says
pub tells : (rules : Rules) (a b : Option (List ℕ)) (result : Result (List Client) ScriptRefused) → Reads rules a b result → Tells rules a result
tells rules None b (Ok script) reads = tt
tells rules (Some xs) None (Ok script) reads = absurd reads.read
tells rules (Some xs) (Some ys) (Ok script) reads = ap (script_of rules) (reads.read ∙ ap (λ t. reads.bytes ++ t) reads.at_end ∙ append-nil reads.bytes) ∙ reads.says
tells rules None b (Err (Line number)) reads = tt
tells rules (Some xs) None (Err (Line number)) reads = absurd reads.read
tells rules (Some xs) (Some ys) (Err (Line number)) reads =
    elim reads.at_fault [
      | inl end ↦ ap (script_of rules) (reads.read ∙ ap (λ t. reads.bytes ++ t) end.0 ∙ append-nil reads.bytes) ∙ end.1
      | inr always ↦ ap (script_of rules) reads.read ∙ always ys
    ]
tells rules a b (Err Failed) reads = tt
tells rules a b (Err (Memory e)) reads = tt

-- the bytes that were read are none, so that the input ended
pub reading-ended : (rules : Rules) (a b c : Option (List ℕ)) (draft : Draft) (count n : ℕ) (buffer : List ℕ) (result : Result (List Client) ScriptRefused) → Reading rules a b draft count → n ≡ 0 → Consumes b c (take n buffer) × (n ≡ 0 → IsAtEnd c) → count ≤ limit → Finishes draft result → Reads rules a c result
reading-ended rules a b c draft count n buffer result reading none read short finishes =
    reading-end rules a b c draft count result reading (subst (λ k. Consumes b c (take k buffer)) none read.0) (read.1 none) short finishes

-- the counts of reads that all succeeded, and of what the draft then gave
pub calm-finish : (before now : ℕ) (draft : Draft) (result : Result (List Client) ScriptRefused) → now ≡ before → Finishes draft result → CountsReads before now result
calm-finish before now draft (Ok script) calm finishes = calm
calm-finish before now draft (Err (Line number)) calm finishes = calm
calm-finish before now draft (Err Failed) calm finishes = absurd finishes
calm-finish before now draft (Err (Memory e)) calm finishes = calm

pub calm-take : (before now : ℕ) (draft next : Draft) (piece : List ℕ) (refused : ScriptRefused) → now ≡ before → Takes draft next piece (Err refused) → CountsReads before now (Err refused)
calm-take before now draft next piece (Line number) calm bad = calm
calm-take before now draft next piece Failed calm bad = absurd bad
calm-take before now draft next piece (Memory e) calm bad = calm
