-- The words that a change is read from.
use Rattle.std.specs.Prelude.{ℕ, Bool, List, [], ◌∷◌, if◌then◌else◌}
use Rattle.ann_script.specs.Grammar.{is_separator, parts}
use Rattle.ann_script.specs.Words.{words}
use Rattle.ann_script.specs.declared.operands.Operands.{Operands}

-- the words in front of the first `;`
abbrev pub front : List (List ℕ) → List (List ℕ)
front [] = []
front (word ∷ rest) = if is_separator word then [] else word ∷ front rest

-- the parts behind the first `;`
abbrev pub later : List (List ℕ) → List (List (List ℕ))
later [] = []
later (word ∷ rest) = if is_separator word then parts rest else later rest

-- all words, or those of the first part
abbrev pub words_of : Bool → List (List ℕ) → List (List ℕ)
words_of is_part all = if is_part then front all else all

-- the words still to come
abbrev pub given : Operands → List (List ℕ)
given o = if o.is_over then [] else words_of o.is_part (words o.text.rest.now)
