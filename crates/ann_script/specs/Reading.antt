-- What reading a script did to its input, and what it gave.
use Rattle.std.specs.Prelude.{◌≡◌, ℕ, ◌+◌, ◌≤◌, ◌⊎◌, List, ◌++◌, length, take, Option, IfSome, MatchResult, Result, Ok, Err}
use Rattle.std.specs.Io.KnownBytes.{Consumes, Keeps, IsAtEnd}
use Rattle.ann_fault.specs.Counts.{next_count}
use Rattle.ann_script.specs.Script.{Client, Cut, script_of, text_said, limit}
use Rattle.ann_script.specs.declared.script_refused.ScriptRefused.{ScriptRefused}
use Rattle.ann_script.specs.declared.script_refused.ScriptRefused.TheVariants.{Line, Failed, Memory}
use Rattle.ann_script.specs.declared.verbs.Rules.{Rules}

-- all of the input was read, and it is a script that says this
pub record ReadsAll (rules : Rules) (left left' : Option (List ℕ)) (script : List Client) : Type 0 where
  pub bytes : List ℕ
  pub read : Consumes left left' bytes
  pub at_end : IsAtEnd left'
  pub short : length bytes ≤ limit
  pub says : script_of rules bytes ≡ Ok script

-- these bytes were read, and this line is the input's first at fault: the input ended, or it doesn't matter what follows
pub record FindsFault (rules : Rules) (left left' : Option (List ℕ)) (number : ℕ) : Type 0 where
  pub bytes : List ℕ
  pub read : Consumes left left' bytes
  pub short : length bytes ≤ limit + 1
  pub at_fault : (IsAtEnd left' × (script_of rules bytes ≡ Err number)) ⊎ ((rest : List ℕ) → script_of rules (bytes ++ rest) ≡ Err number)

-- these bytes were read before a read failed, and no line that is whole in them is at fault
pub record IsCut (rules : Rules) (left left' : Option (List ℕ)) : Type 0 where
  pub bytes : List ℕ
  pub read : Consumes left left' bytes
  pub short : length bytes ≤ limit
  pub clients : List Client
  pub says : text_said rules Cut bytes ≡ Ok clients

-- these bytes were read before there was no memory
pub record BreaksOff (left left' : Option (List ℕ)) : Type 0 where
  pub bytes : List ℕ
  pub read : Consumes left left' bytes
  pub short : length bytes ≤ limit + 1

-- the bytes that were read are the first in a buffer; there are none only at the input's end
abbrev pub ReadsChunk : {E : Type 0} → Option (List ℕ) → Option (List ℕ) → List ℕ → Result ℕ E → Type 0
ReadsChunk left left' buffer result = MatchResult result (λ n. Consumes left left' (take n buffer) × (n ≡ 0 → IsAtEnd left')) (λ _. Keeps left left')

-- a script, the first line at fault, or a fault of reading, whichever comes first in the input; or there was no memory
abbrev pub Reads : Rules → Option (List ℕ) → Option (List ℕ) → Result (List Client) ScriptRefused → Type 0
Reads rules left left' (Ok script) = ReadsAll rules left left' script
Reads rules left left' (Err (Line number)) = FindsFault rules left left' number
Reads rules left left' (Err Failed) = IsCut rules left left'
Reads rules left left' (Err (Memory e)) = BreaksOff left left'

-- a read that failed ended the reading, and is one fault; in every other case none failed
abbrev pub CountsReads : ℕ → ℕ → Result (List Client) ScriptRefused → Type 0
CountsReads before now (Ok script) = now ≡ before
CountsReads before now (Err (Line number)) = now ≡ before
CountsReads before now (Err Failed) = now ≡ next_count before
CountsReads before now (Err (Memory e)) = now ≡ before

-- what an input that tells its bytes says
abbrev pub Tells : Rules → Option (List ℕ) → Result (List Client) ScriptRefused → Type 0
Tells rules left (Ok script) = IfSome left (λ input. script_of rules input ≡ Ok script)
Tells rules left (Err (Line number)) = IfSome left (λ input. script_of rules input ≡ Err number)
Tells rules left (Err Failed) = Unit {0}
Tells rules left (Err (Memory e)) = Unit {0}
