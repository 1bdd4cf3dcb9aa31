-- The grammar of a line of a script.
use Rattle.std.specs.Prelude.{ℕ, ◌+◌, ◌-◌, ◌^◌, ◌==◌, ◌||◌, ◌&&◌, nat_le, Bool, true, false, List, [], ◌∷◌, length, Option, None, Some, codes, if◌then◌else◌}
use Rattle.std.specs.List.{list_all, slice_split}
use Rattle.std.specs.Char.{is_ascii_alphanumeric}
use Rattle.std.specs.Str.{bytes_eq}
use Rattle.std.specs.Str.Lines.{strip_carriage_return}
use Rattle.ann_types.specs.declared.change.Change.{Change}
use Rattle.ann_types.specs.declared.change.Change.TheVariants.{Insert, Delete, Replace}
use Rattle.ann_script.specs.Order.{Order, Apply, Find, Merge, Fill}
use Rattle.ann_script.specs.Words.{words, number_of}
use Rattle.ann_script.specs.declared.verbs.Verbs.{Verbs}
use Rattle.ann_script.specs.declared.verbs.Verbs.TheVariants as verbs

infixl 10 ◌>>=◌
-- a step, and then one that takes what it gave
abbrev pub ◌>>=◌ : {A B : Type 0} → Option A → (A → Option B) → Option B
None >>= f = None
(Some x) >>= f = f x

-- each word is a component
abbrev pub components : List (List ℕ) → Option (List ℕ)
components [] = Some []
components (word ∷ rest) = number_of 255 word >>= λ c. components rest >>= λ cs. Some (c ∷ cs)

-- 1 to 1024 components of 0 to 255
abbrev pub vector : List (List ℕ) → Option (List ℕ)
vector operands = components operands >>= λ cs. if nat_le 1 (length cs) && nat_le (length cs) 1024 then Some cs else None

-- `TAG`
abbrev pub tag : List ℕ → Option ℕ
tag word = number_of (2 ^ 64 - 1) word

-- `TAG C C ..`
abbrev pub point : List (List ℕ) → Option (ℕ × List ℕ)
point [] = None
point (word ∷ rest) = tag word >>= λ t. vector rest >>= λ v. Some (t, v)

-- `TAG` alone
abbrev pub lone_tag : List (List ℕ) → Option ℕ
lone_tag [] = None
lone_tag (word ∷ []) = tag word
lone_tag (word ∷ next ∷ rest) = None

-- `insert TAG C C ..`, `delete TAG` or `replace TAG C C ..`
abbrev pub change : List (List ℕ) → Option Change
change [] = None
change (verb ∷ operands) =
    if bytes_eq verb (codes "insert") then (point operands >>= λ p. Some (Insert p.0 p.1))
    else (if bytes_eq verb (codes "delete") then (lone_tag operands >>= λ t. Some (Delete t))
    else (if bytes_eq verb (codes "replace") then (point operands >>= λ p. Some (Replace p.0 p.1)) else None))

-- one change alone
abbrev pub single : List (List ℕ) → Option (List Change)
single operands = change operands >>= λ c. Some (c ∷ [])

-- each part is a change
abbrev pub changes : List (List (List ℕ)) → Option (List Change)
changes [] = Some []
changes (part ∷ parts) = change part >>= λ c. changes parts >>= λ cs. Some (c ∷ cs)

-- `;`, a word of its own
abbrev pub is_separator : List ℕ → Bool
is_separator word = bytes_eq word (codes ";")

-- what stands between the words `;`
abbrev pub parts : List (List ℕ) → List (List (List ℕ))
parts operands = slice_split is_separator operands

-- `CHANGE ; CHANGE ; ..`, 1 to 64 changes
abbrev pub batch : List (List ℕ) → Option (List Change)
batch operands = changes (parts operands) >>= λ cs. if nat_le (length cs) 64 then Some cs else None

-- `search K L C C ..`, with 1 <= K <= L <= 1000
abbrev pub search_of : List (List ℕ) → Option Order
search_of [] = None
search_of (k ∷ []) = None
search_of (k ∷ l ∷ rest) = number_of 1000 k >>= λ wanted. number_of 1000 l >>= λ width. vector rest >>= λ v. if nat_le 1 wanted && nat_le wanted width then Some (Find wanted width v) else None

-- `merge` alone
abbrev pub merge_of : List (List ℕ) → Option Order
merge_of [] = Some Merge
merge_of (word ∷ rest) = None

-- `fill SEED COUNT FIRST`: a seed below 2^31, 1 to 1,000,000 points, and tags that end below 2^64
abbrev pub fill_of : List (List ℕ) → Option Order
fill_of [] = None
fill_of (seed ∷ []) = None
fill_of (seed ∷ count ∷ []) = None
fill_of (seed ∷ count ∷ first ∷ []) = number_of (2 ^ 31 - 1) seed >>= λ s. number_of 1000000 count >>= λ n. tag first >>= λ t. if nat_le 1 n && nat_le (t + n) (2 ^ 64) then Some (Fill s n t) else None
fill_of (seed ∷ count ∷ first ∷ next ∷ rest) = None

-- a verb and its operands
abbrev pub command : List (List ℕ) → Option Order
command [] = None
command (verb ∷ operands) =
    if bytes_eq verb (codes "search") then search_of operands
    else (if bytes_eq verb (codes "batch") then (batch operands >>= λ cs. Some (Apply cs true))
    else (if bytes_eq verb (codes "merge") then merge_of operands
    else (if bytes_eq verb (codes "fill") then fill_of operands
    else (single (verb ∷ operands) >>= λ cs. Some (Apply cs false)))))

-- `once` and `run` have updates
abbrev pub has_updates : Verbs → Bool
has_updates verbs.Once = true
has_updates verbs.All = true
has_updates verbs.Truth = false

-- `run` alone has merges and fills
abbrev pub has_merges : Verbs → Bool
has_merges verbs.Once = false
has_merges verbs.All = true
has_merges verbs.Truth = false

-- the command has one of these verbs; a search is everybody's
abbrev pub has : Verbs → Order → Bool
has verbs (Apply changes batch) = has_updates verbs
has verbs (Find k l vector) = true
has verbs Merge = has_merges verbs
has verbs (Fill seed count first) = has_merges verbs

-- a command with one of these verbs
abbrev pub command_of : Verbs → List (List ℕ) → Option Order
command_of verbs text = command text >>= λ order. if has verbs order then Some order else None

abbrev pub is_name_byte : ℕ → Bool
is_name_byte byte = is_ascii_alphanumeric byte || (byte == 95) || (byte == 45)

-- 1 to 16 letters, digits, `_` or `-`
abbrev pub is_name : List ℕ → Bool
is_name word = nat_le 1 (length word) && nat_le (length word) 16 && list_all is_name_byte word

-- `#` begins the word
abbrev pub is_comment : List ℕ → Bool
is_comment [] = false
is_comment (byte ∷ bytes) = byte == 35

-- what a line says: nothing, or a client's command, or it is at fault
pub data Line : Type 0 where
  Silent : Line
  Says : List ℕ → Order → Line
  Bad : Line

abbrev pub line_of_words : Verbs → List (List ℕ) → Line
line_of_words verbs [] = Silent
line_of_words verbs (word ∷ rest) =
    if is_comment word then Silent
    else (if is_name word then elim (command_of verbs rest) [ None ↦ Bad | Some order ↦ Says word order ] else Bad)

abbrev pub line_of : Verbs → List ℕ → Line
line_of verbs line = line_of_words verbs (words (strip_carriage_return line))
