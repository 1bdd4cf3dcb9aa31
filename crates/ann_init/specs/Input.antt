-- What reading the bytes of a codebook did to the input, and what they are.
use Rattle.std.specs.Prelude.{◌≡◌, ◌⊎◌, ◌≤◌, ◌<◌, ℕ, List, length, Option, Some, None}
use Rattle.std.specs.Io.KnownBytes.{Consumes, IsAtEnd, Keeps}
use Rattle.std.specs.Prelude.{take, Result, Ok, Err, MatchResult}
use Rattle.ann_types.specs.declared.params.Params.{Params}
use Rattle.ann_pq.specs.Format.{fault}
use Rattle.ann_pq.specs.declared.refused.CodebookRefused.{CodebookRefused}
use Rattle.ann_pq.specs.declared.refused.CodebookRefused.TheVariants as codebook
use Rattle.ann_init.specs.declared.refused.BookFault.{BookFault}
use Rattle.ann_init.specs.declared.refused.BookFault.TheVariants.{Length, Magic, Shape}
use Rattle.ann_init.specs.declared.refused.InitWhy.{InitWhy}
use Rattle.ann_init.specs.declared.refused.InitWhy.TheVariants.{ReadFault, BadBook, IndexThere, StoreFault, Memory}

-- the most bytes that are read, one more than the greatest codebook has
abbrev pub limit : ℕ
limit = 262157

-- the bytes that were read are the first in a buffer; there are none only at the input's end
abbrev pub ReadsPiece : {E : Type 0} → Option (List ℕ) → Option (List ℕ) → List ℕ → Result ℕ E → Type 0
ReadsPiece left left' buffer result = MatchResult result (λ n. Consumes left left' (take n buffer) × (n ≡ 0 → IsAtEnd left')) (λ _. Keeps left left')

-- these are all bytes of the input, or its first 262,157
pub record IsRead (left left' : Option (List ℕ)) (bytes : List ℕ) : Type 0 where
  pub read : Consumes left left' bytes
  pub short : length bytes ≤ limit
  pub whole : IsAtEnd left' ⊎ (length bytes ≡ limit)

-- fewer bytes were read before a read failed
pub record IsCut (left left' : Option (List ℕ)) : Type 0 where
  pub bytes : List ℕ
  pub read : Consumes left left' bytes
  pub short : length bytes < limit

-- some bytes were read before there was no memory
pub record BreaksOff (left left' : Option (List ℕ)) : Type 0 where
  pub bytes : List ℕ
  pub read : Consumes left left' bytes
  pub short : length bytes ≤ limit

-- a fault of a codebook's bytes, as the format names it
abbrev pub named_by : BookFault → CodebookRefused
named_by Length = codebook.Length
named_by Magic = codebook.Magic
named_by Shape = codebook.Shape

-- the input was read, and is a codebook of these parameters
pub record ReadsBook (p : Params) (left left' : Option (List ℕ)) (bytes : List ℕ) : Type 0 where
  pub input : IsRead left left' bytes
  pub sound : fault p.d p.m bytes ≡ None

-- the input was read, and this is the first fault of its bytes
pub record FindsFault (p : Params) (left left' : Option (List ℕ)) (found : BookFault) : Type 0 where
  pub bytes : List ℕ
  pub input : IsRead left left' bytes
  pub first : fault p.d p.m bytes ≡ Some (named_by found)

-- no codebook was read: a read failed, the bytes are at fault, or there was no memory
abbrev pub IsUnread : Params → Option (List ℕ) → Option (List ℕ) → InitWhy → Type 0
IsUnread p left left' ReadFault = IsCut left left'
IsUnread p left left' (BadBook found) = FindsFault p left left' found
IsUnread p left left' IndexThere = ⊥
IsUnread p left left' StoreFault = ⊥
IsUnread p left left' Memory = BreaksOff left left'

-- the bytes, whose first fault this is, were tested: they have none, or it, or there was no memory
abbrev pub IsFaulty : Option CodebookRefused → Result (Unit {0}) InitWhy → Type 0
IsFaulty first (Ok _) = first ≡ None
IsFaulty first (Err (BadBook found)) = first ≡ Some (named_by found)
IsFaulty first (Err ReadFault) = ⊥
IsFaulty first (Err IndexThere) = ⊥
IsFaulty first (Err StoreFault) = ⊥
IsFaulty first (Err Memory) = Unit {0}
