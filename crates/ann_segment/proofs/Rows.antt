-- Rows of a directory, and where they stand in its bytes.
use Rattle.std.proofs.Common.{◌≡◌, ℕ, zero, suc, replicate, ◌+◌, ◌-◌, ◌*◌, ◌^◌, ◌≤◌, ◌<◌, List, [], ◌∷◌, ◌++◌, map, length, take, drop, slice_index, refl, sym, ap, ap₂, subst, ◌∙◌, arith, length-append}
use Rattle.std.specs.Prelude.{All}
use Rattle.std.proofs.Math.Nat.{suc-mul, mul-le-mul_right}
use Rattle.std.proofs.lemmas.List.{drop-drop, get_or-map, length-map, take_at, drop_at, append_assoc, append-nil, flat_map_more, length-replicate}
use Rattle.ann_bytes.specs.LittleEndian.{number_of, bytes_of, field}
use Rattle.ann_bytes.proofs.Numbers.{length-bytes_of, number_of-bytes_of}
use Rattle.ann_segment.specs.Directory.{Item, item_of, AreRising, item_bytes, directory_bytes, items_in, pid_at, blocks_of, directory_blocks, filled}
use Rattle.std.specs.List.{flat_map}
use Rattle.ann_types.specs.Graph.{Graph}
use Rattle.ann_types.specs.Codes.{Book}
use Rattle.ann_types.specs.declared.params.Params.{Params}
use Rattle.ann_block.specs.declared.header.Header.{Header}
use Rattle.ann_block.specs.Header.{header_bytes}
use Rattle.ann_block.specs.Block.{zeros}
use Rattle.ann_block.proofs.Cleared.{length-zeros}
use Rattle.ann_pq.specs.Codebook.{CodebookView}
use Rattle.ann_segment.specs.Segment.{IsNode}
use Rattle.ann_segment.specs.Opening.{segment_length}
use Rattle.ann_segment.specs.Text.{header_for, items_for, node_for, front_bytes, segment_text}

-- a row stands before the rows behind it, and before the end
pub row_before : (row count size : ℕ) → row < count → row * size + size ≤ count * size
row_before row count size below = subst (λ (n : ℕ). n ≤ count * size) (suc-mul row size) (mul-le-mul_right size (omega (arith, below)))

pub row_within : (row count m : ℕ) → row < count → row * (4 + m) + (4 + m) ≤ count * (4 + m)
row_within row count m below = row_before row count (4 + m) below

pub length-items : (m n : ℕ) (bytes : List ℕ) → length (items_in m n bytes) ≡ n
length-items m zero bytes = refl
length-items m (suc n) bytes = omega (arith, length-items m n (drop (4 + m) bytes))

-- what stands at a place is the item of the row whose place it is
item_from : (m n row at : ℕ) (bytes : List ℕ) → row < n → row * (4 + m) ≡ at → item_of (items_in m n bytes) row ≡ (number_of (field bytes at 4), field bytes (at + 4) m)
item_from m zero row at bytes below is = absurd (omega (arith, below))
item_from m (suc n) zero at bytes below is = let start : 0 ≡ at = omega (arith, is) in subst (λ (k : ℕ). item_of (items_in m (suc n) bytes) zero ≡ (number_of (field bytes k 4), field bytes (k + 4) m)) start refl
item_from m (suc n) (suc row) at bytes below is =
    let step : (4 + m) + row * (4 + m) ≡ at = omega (arith, suc-mul row (4 + m), is) in
    let step_on : (4 + m) + (row * (4 + m) + 4) ≡ at + 4 = omega (arith, step) in
    item_from m n row (row * (4 + m)) (drop (4 + m) bytes) (omega (arith, below)) refl
    ∙ ap₂ (λ (x y : List ℕ). (number_of (take 4 x), take m y))
    (drop-drop (row * (4 + m)) (4 + m) bytes ∙ ap (λ (k : ℕ). drop k bytes) step)
    (drop-drop (row * (4 + m) + 4) (4 + m) bytes ∙ ap (λ (k : ℕ). drop k bytes) step_on)

pub item_at : (m n row : ℕ) (bytes : List ℕ) → row < n → item_of (items_in m n bytes) row ≡ (number_of (field bytes (row * (4 + m)) 4), field bytes (row * (4 + m) + 4) m)
item_at m n row bytes below = item_from m n row (row * (4 + m)) bytes below refl

pub pid_is : (m n row : ℕ) (bytes : List ℕ) → row < n → pid_at m bytes row ≡ (item_of (items_in m n bytes) row).0
unfolding pid_at
pid_is m n row bytes below = sym (ap (λ (item : Item). item.0) (item_at m n row bytes below))

pub code_is : (m n row : ℕ) (bytes : List ℕ) → row < n → field bytes (row * (4 + m) + 4) m ≡ (item_of (items_in m n bytes) row).1
code_is m n row bytes below = sym (ap (λ (item : Item). item.1) (item_at m n row bytes below))

pid_in : (m n row : ℕ) (bytes : List ℕ) → row < n → slice_index (map (λ (item : Item). item.0) (items_in m n bytes)) row ≡ pid_at m bytes row
pid_in m n row bytes below =
    get_or-map (λ (item : Item). item.0) (items_in m n bytes) row (0, []) 0 (omega (arith, below, length-items m n bytes))
    ∙ sym (pid_is m n row bytes below)

-- ---- rising Pids

pub rising_more : (f : ℕ → ℕ) (n : ℕ) → ((row : ℕ) → 1 ≤ row → row < n → f (row - 1) < f row) → f (n - 1) < f n → (row : ℕ) → 1 ≤ row → row < n + 1 → f (row - 1) < f row
rising_more f n before last row some below = here (row - n) (n - row) refl refl
  where
    here : (over under : ℕ) → over ≡ row - n → under ≡ n - row → f (row - 1) < f row
    here over zero is none = let same : n ≡ row = omega (arith, none, below) in subst (λ (k : ℕ). f (k - 1) < f k) same last
    here over (suc under) is left = before row some (omega (arith, left))

pub are_rising : (m n : ℕ) (bytes : List ℕ) → ((row : ℕ) → 1 ≤ row → row < n → pid_at m bytes (row - 1) < pid_at m bytes row) → AreRising (items_in m n bytes)
are_rising m n bytes rise k within =
    let long = length-map-items in
    let below : k + 1 < n = omega (arith, within, long) in
    let back : (k + 1) - 1 ≡ k = omega arith in
    let up : pid_at m bytes k < pid_at m bytes (k + 1) = subst (λ (j : ℕ). pid_at m bytes j < pid_at m bytes (k + 1)) back (rise (k + 1) (omega arith) below) in
    omega (arith, up, pid_in m n k bytes (omega (arith, below)), pid_in m n (k + 1) bytes below)
  where
    length-map-items : length (map (λ (item : Item). item.0) (items_in m n bytes)) ≡ n
    length-map-items = length-map (items_in m n bytes) (λ (item : Item). item.0) ∙ length-items m n bytes

-- ---- rows written, and read again

pub directory_more : (items : List Item) (item : Item) → directory_bytes (items ++ item ∷ []) ≡ directory_bytes items ++ item_bytes item
unfolding directory_bytes
directory_more items item = sym (flat_map_more item_bytes [] items item)

pub items_again : (m : ℕ) (items : List Item) (rest : List ℕ) → All (λ item. length item.1 ≡ m) items → All (λ item. item.0 < 2 ^ 32) items → items_in m (length items) (directory_bytes items ++ rest) ≡ items
unfolding directory_bytes
items_again m [] rest codes small = refl
items_again m ((pid, code) ∷ items) rest codes small =
    let more : List ℕ = directory_bytes items ++ rest in
    let size : length code ≡ m = codes 0 (0, []) (omega arith) in
    let fits : pid < 2 ^ 32 = small 0 (0, []) (omega arith) in
    let split : directory_bytes ((pid, code) ∷ items) ++ rest ≡ bytes_of 4 pid ++ (code ++ more) =
    append_assoc (item_bytes (pid, code)) (directory_bytes items) rest ∙ append_assoc (bytes_of 4 pid) code more in
    let behind : drop (4 + m) (bytes_of 4 pid ++ (code ++ more)) ≡ more =
    ap (drop (4 + m)) (sym (append_assoc (bytes_of 4 pid) code more))
    ∙ drop_at (bytes_of 4 pid ++ code) more (4 + m) (length-append (bytes_of 4 pid) code ∙ omega (arith, length-bytes_of 4 pid, size)) in
    ap (items_in m (suc (length items))) split
    ∙ ap₂ (λ (item : Item) (others : List Item). item ∷ others)
    (ap₂ (λ (p : ℕ) (c : List ℕ). (p, c)) (number_of-bytes_of 4 pid fits) (take_at code more m size))
    (ap (items_in m (length items)) behind ∙ items_again m items rest (λ k d within. codes (suc k) d (omega (arith, within))) (λ k d within. small (suc k) d (omega (arith, within))))

pub directory_none : directory_bytes [] ≡ []
unfolding directory_bytes
directory_none = refl

pub length-directory : (m : ℕ) (items : List Item) → All (λ item. length item.1 ≡ m) items → length (directory_bytes items) ≡ length items * (4 + m)
unfolding directory_bytes
length-directory m [] codes = omega arith
length-directory m ((pid, code) ∷ items) codes =
    let size : length code ≡ m = codes 0 (0, []) (omega arith) in
    let rest = length-directory m items (λ k d within. codes (suc k) d (omega (arith, within))) in
    omega (arith, length-append (item_bytes (pid, code)) (directory_bytes items), length-append (bytes_of 4 pid) code, length-bytes_of 4 pid, size, rest, suc-mul (length items) (4 + m))

-- what was written is read again
pub items_back : (m count : ℕ) (items : List Item) (bytes : List ℕ) → bytes ≡ directory_bytes items → length items ≡ count → All (λ item. length item.1 ≡ m) items → All (λ item. item.0 < 2 ^ 32) items → items_in m count bytes ≡ items
items_back m count items bytes is many codes small =
    ap₂ (items_in m) (sym many) (is ∙ sym (append-nil (directory_bytes items)))
    ∙ items_again m items [] codes small

-- ---- blocks

pub fill : (n : ℕ) → n ≤ 4096 * blocks_of n
fill n = omega arith

pub block_within : (count m row q : ℕ) → q ≡ directory_blocks count m → row < count → 4096 * (1 + q + row) + 4096 ≤ segment_length count m
unfolding segment_length
block_within count m row q is below = subst (λ (n : ℕ). 4096 * (1 + q + row) + 4096 ≤ 4096 * (1 + n + count)) is (omega (arith, below))

pub segment_some : (count m : ℕ) → 4096 ≤ segment_length count m
unfolding segment_length
segment_some count m = omega arith

pub segment_all : (count m : ℕ) → 4096 * (1 + directory_blocks count m + count) ≡ segment_length count m
unfolding segment_length
segment_all count m = refl

pub text_is : (params : Params) (book : Book) (graph : Graph) (number : ℕ) (header : Header) (items : List Item) → header ≡ header_for params graph number → items ≡ items_for book graph → front_bytes header items ++ flat_map (node_for graph.points) graph.points ≡ segment_text params book graph number
unfolding segment_text
text_is params book graph number header items first second =
    ap₂ (λ (h : Header) (i : List Item). front_bytes h i ++ flat_map (node_for graph.points) graph.points) first second

-- ---- the blocks before the nodes

pub header_long : (header : Header) → length (header_bytes header) ≡ 4096
unfolding header_bytes
header_long header = omega (arith, length-append (zeros 4064) [], length-zeros 4064)

pub front_written : (header : Header) (before block bytes pad : List ℕ) (n : ℕ) → block ≡ header_bytes header → pad ≡ zeros n → length bytes + n ≡ 4096 * blocks_of (length bytes) → ((before ++ block) ++ bytes) ++ pad ≡ before ++ (header_bytes header ++ filled bytes)
unfolding filled
front_written header before block bytes pad n first last fills =
    let left : n ≡ 4096 * blocks_of (length bytes) - length bytes = omega (arith, fills) in
    append_assoc (before ++ block) bytes pad
    ∙ append_assoc before block (bytes ++ pad)
    ∙ ap₂ (λ (x y : List ℕ). before ++ (x ++ (bytes ++ y))) first (last ∙ ap zeros left)

pub front_is : (header : Header) (items : List Item) (bytes : List ℕ) → bytes ≡ directory_bytes items → header_bytes header ++ filled bytes ≡ front_bytes header items
unfolding front_bytes
front_is header items bytes is = ap (λ (b : List ℕ). header_bytes header ++ filled b) is

pub front_long : (header : Header) (items : List Item) → length items ≡ header.count → All (λ item. length item.1 ≡ header.m) items → length (front_bytes header items) ≡ 4096 * (1 + directory_blocks header.count header.m)
unfolding front_bytes filled
front_long header items many codes =
    let size : length (directory_bytes items) ≡ header.count * (4 + header.m) = length-directory header.m items codes ∙ ap (λ (n : ℕ). n * (4 + header.m)) many in
    let rest : ℕ = 4096 * blocks_of (length (directory_bytes items)) - length (directory_bytes items) in
    let whole : length (header_bytes header ++ (directory_bytes items ++ zeros rest)) ≡ 4096 * (1 + blocks_of (length (directory_bytes items))) =
    omega (arith, length-append (header_bytes header) (directory_bytes items ++ zeros rest), length-append (directory_bytes items) (zeros rest), length-zeros rest, header_long header, fill (length (directory_bytes items))) in
    whole ∙ ap (λ (k : ℕ). 4096 * (1 + blocks_of k)) size

-- a node's block by other names
pub node_moved : (page : List ℕ) (row : ℕ) (book : CodebookView) (params : Params) (pid pid' count count' : ℕ) (wanted wanted' : List ℕ) → pid ≡ pid' → count ≡ count' → wanted ≡ wanted' → IsNode page pid row count wanted book params → IsNode page pid' row count' wanted' book params
node_moved page row book params pid pid' count count' wanted wanted' first second third is =
    subst (λ (k : ℕ). IsNode page k row count' wanted' book params) first
    (subst (λ (k : ℕ). IsNode page pid row k wanted' book params) second
    (subst (λ (k : List ℕ). IsNode page pid row count k book params) third is))

-- so many of some zeros
pub take-replicate : (n m : ℕ) → n ≤ m → take n (replicate {A = ℕ} m 0) ≡ zeros n
unfolding zeros
take-replicate n m few =
    ap (take n) (replicate_split n m few) ∙ take_at (replicate {A = ℕ} n 0) (replicate {A = ℕ} (m - n) 0) n (length-replicate n 0)
  where
    replicate_split : (n m : ℕ) → n ≤ m → replicate {A = ℕ} m 0 ≡ replicate {A = ℕ} n 0 ++ replicate {A = ℕ} (m - n) 0
    replicate_split zero m few = let all : m ≡ m - 0 = omega arith in ap (λ (k : ℕ). replicate {A = ℕ} k 0) all
    replicate_split (suc n) zero few = absurd (omega (arith, few))
    replicate_split (suc n) (suc m) few =
        let step : m - n ≡ suc m - suc n = omega arith in
        ap (λ (l : List ℕ). 0 ∷ l) (replicate_split n m (omega (arith, few)) ∙ ap (λ (k : ℕ). replicate {A = ℕ} n 0 ++ replicate {A = ℕ} k 0) step)
