-- The inserts of a fill, one after another.
use Rattle.std.proofs.Common.{◌≡◌, ℕ, zero, suc, ◌+◌, ◌-◌, List, [], ◌∷◌, ◌++◌, length, refl, sym, ap, ◌∙◌, ◌<◌, arith, min, take, drop, append_assoc, length-append}
use Rattle.ann_types.specs.declared.change.Change.{Change}
use Rattle.ann_types.specs.declared.change.Change.TheVariants.{Insert}
use Rattle.ann_script.specs.Generator.{next_state, after, component_of, made, inserts}

pub length-inserts : (d x tag n : ℕ) → length (inserts d x tag n) ≡ n
length-inserts d x tag zero = refl
length-inserts d x tag (suc n) = ap suc (length-inserts d (after x d) (tag + 1) n)

-- a list in two parts, the first of k members or all
pub split_at : (k : ℕ) (front rest : List Change) → length front ≡ min k (length (front ++ rest)) → (front ≡ take k (front ++ rest)) × (rest ≡ drop k (front ++ rest))
split_at zero [] rest size = (refl, refl)
split_at zero (x ∷ front) rest size = absurd (grind arith)
split_at (suc k) [] [] size = (refl, refl)
split_at (suc k) [] (x ∷ rest) size = absurd (grind arith)
split_at (suc k) (x ∷ front) rest size =
    let more = split_at k front rest (grind arith) in
    (ap (λ xs. x ∷ xs) more.0, more.1)

pub length-made : (x n : ℕ) → length (made x n) ≡ n
length-made x zero = refl
length-made x (suc n) = ap suc (length-made (next_state x) n)

-- one component more
pub made-on : (x d i : ℕ) (bytes bytes' all : List ℕ) → i < d → bytes ++ made x (d - i) ≡ all → bytes' ≡ bytes ++ component_of (next_state x) ∷ [] → bytes' ++ made (next_state x) (d - (i + 1)) ≡ all
made-on x d i bytes bytes' all more so_far one =
    let step : d - i ≡ suc (d - (i + 1)) = omega (arith, more) in
    ap (λ t. t ++ made (next_state x) (d - (i + 1))) one ∙ append_assoc bytes (component_of (next_state x) ∷ []) (made (next_state x) (d - (i + 1))) ∙ ap (λ n. bytes ++ made x n) (sym step) ∙ so_far

pub after-on : (x d i last : ℕ) → i < d → after x (d - i) ≡ last → after (next_state x) (d - (i + 1)) ≡ last
after-on x d i last more so_far =
    let step : d - i ≡ suc (d - (i + 1)) = omega (arith, more) in
    ap (after x) (sym step) ∙ so_far

-- one insert more
pub inserts-on : (d x x' first done count i : ℕ) (front front' all : List Change) → done + i < count → front ++ inserts d x (first + (done + i)) (count - (done + i)) ≡ all → front' ≡ front ++ Insert (first + (done + i)) (made x d) ∷ [] → x' ≡ after x d → front' ++ inserts d x' (first + (done + (i + 1))) (count - (done + (i + 1))) ≡ all
inserts-on d x x' first done count i front front' all more so_far one steps =
    let step : count - (done + i) ≡ suc (count - (done + (i + 1))) = omega (arith, more) in
    let tag : first + (done + (i + 1)) ≡ (first + (done + i)) + 1 = omega arith in
    let rest = inserts d (after x d) ((first + (done + i)) + 1) (count - (done + (i + 1))) in
    ap (λ t. front' ++ inserts d x' t (count - (done + (i + 1)))) tag
    ∙ ap (λ y. front' ++ inserts d y ((first + (done + i)) + 1) (count - (done + (i + 1)))) steps
    ∙ ap (λ t. t ++ rest) one
    ∙ append_assoc front (Insert (first + (done + i)) (made x d) ∷ []) rest
    ∙ ap (λ n. front ++ inserts d x (first + (done + i)) n) (sym step)
    ∙ so_far

-- the inserts that were made, and those behind them
pub batch : (d x t n i : ℕ) (front all : List Change) → front ++ inserts d x t n ≡ all → length front ≡ i → i ≡ min 64 (i + n) → (front ≡ take 64 all) × (inserts d x t n ≡ drop 64 all)
batch d x t n i front all so_far made most =
    let sum = length-append front (inserts d x t n) in
    let rest = length-inserts d x t n in
    let whole : length (front ++ inserts d x t n) ≡ i + n = omega (arith, sum, rest, made) in
    let parts = split_at 64 front (inserts d x t n) (made ∙ most ∙ ap (min 64) (sym whole)) in
    (parts.0 ∙ ap (take 64) so_far, parts.1 ∙ ap (drop 64) so_far)
