-- Node blocks, written and read.
use Rattle.std.proofs.Common.{◌≡◌, ◌≢◌, ℕ, zero, suc, ◌+◌, ◌-◌, ◌*◌, ◌^◌, ◌≤◌, ◌<◌, true, false, not, List, [], ◌∷◌, ◌++◌, ◌==◌, ◌&&◌, ◌||◌, nat_le, nat_lt, None, length, take, drop, get_or, slice_index, refl, sym, ap, ap₂, ◌∙◌, subst, arith, length-append, length-drop}
use Rattle.std.specs.List.{concat, flat_map, list_any, AllByRecursion}
use Rattle.std.specs.List.Sorted.{IsStrictlyIncreasing}
use Rattle.std.proofs.lemmas.Bool.{leb-true, le-leb, leb-false, lt-leb, ltb-true, lt-ltb}
use Rattle.std.proofs.lemmas.List.{append-nil}
use Rattle.std.proofs.lemmas.List.Elements.{recursion_from_All, All-from_recursion}
use Rattle.ann_types.specs.declared.params.Params.{Params}
use Rattle.ann_bytes.specs.LittleEndian.{number_of, bytes_of, field}
use Rattle.ann_bytes.proofs.Numbers.{length-bytes_of, number_of-bytes_of}
use Rattle.ann_block.specs.declared.node.NodeHead.{NodeHead}
use Rattle.ann_block.specs.Block.{zeros, is_zeros}
use Rattle.ann_block.specs.Node.{IsNodeOf, node_bytes, node_of, head_in, neighbours_of, numbers_in, is_stranger, is_ascending, node_rules, judge_node}
use Rattle.ann_types.proofs.Booleans.{both, neither, not_same, not_true, same_true}
use Rattle.ann_bytes.proofs.Joined.{laid, concat-cut, drop-concat, field-concat}
use Rattle.ann_bytes.proofs.Numbered.{IsBytes, field_is, length-field, drop_bytes}
use Rattle.ann_block.proofs.Cleared.{length-zeros, zeros_only, zeros_are, laid_is}
use Rattle.ann_block.proofs.Listed.{length-numbers, length-numbers_in, numbers_again, numbers_back}
use Rattle.ann_block.proofs.Rules.{same, other, AreMet, all_met, none_broken}

-- ---- ascending numbers, and other rows

pub ascending_tells : (xs : List ℕ) → is_ascending xs ≡ true → IsStrictlyIncreasing xs
ascending_tells [] is k within = absurd (omega (arith, within))
ascending_tells (x ∷ []) is k within = absurd (omega (arith, within))
ascending_tells (x ∷ y ∷ rest) is zero within = ltb-true x y (both (nat_lt x y) (is_ascending (y ∷ rest)) is).0
ascending_tells (x ∷ y ∷ rest) is (suc k) within =
    let next : suc (k + 1) ≡ suc k + 1 = omega arith in
    let here : slice_index (y ∷ rest) k < slice_index (y ∷ rest) (k + 1) =
    ascending_tells (y ∷ rest) (both (nat_lt x y) (is_ascending (y ∷ rest)) is).1 k (omega (arith, within)) in
    subst (λ (n : ℕ). slice_index (y ∷ rest) k < slice_index (x ∷ y ∷ rest) n) next here

pub ascending_is : (xs : List ℕ) → IsStrictlyIncreasing xs → is_ascending xs ≡ true
ascending_is [] rises = refl
ascending_is (x ∷ []) rises = refl
ascending_is (x ∷ y ∷ rest) rises =
    let next : (k : ℕ) → suc k + 1 ≡ suc (k + 1) = λ k. omega arith in
    ap₂ ◌&&◌
    (lt-ltb x y (rises 0 (omega arith)))
    (ascending_is (y ∷ rest) (λ k within. subst (λ (n : ℕ). slice_index (y ∷ rest) k < slice_index (x ∷ y ∷ rest) n) (next k) (rises (suc k) (omega (arith, within)))))

no_strangers : (row count : ℕ) (xs : List ℕ) → list_any (is_stranger row count) xs ≡ false → AllByRecursion (λ n. (n ≢ row) × (n < count)) xs
no_strangers row count [] is = tt
no_strangers row count (x ∷ xs) is =
    let here = neither (is_stranger row count x) (list_any (is_stranger row count) xs) is in
    let parts = neither (x == row) (nat_le count x) here.0 in
    ((other x row parts.0, leb-false count x parts.1), no_strangers row count xs here.1)

all_others : (row count : ℕ) (xs : List ℕ) → AllByRecursion (λ n. (n ≢ row) × (n < count)) xs → list_any (is_stranger row count) xs ≡ false
all_others row count [] others = refl
all_others row count (x ∷ xs) others =
    ap₂ ◌||◌ (ap₂ ◌||◌ (not_same x row others.0.0) (lt-leb count x others.0.1)) (all_others row count xs others.1)

-- ---- a node of bytes

module _ (block : List ℕ) (pid row count : ℕ) (params : Params) (small : IsBytes block) (fine : judge_node block pid row count params ≡ None) where
  rules_met : AreMet (node_rules block pid row count params)
  unfolding judge_node
  rules_met = all_met (node_rules block pid row count params) fine

  long : length block ≡ 4096
  long = same (length block) 4096 rules_met.0

  is_pid : (head_in block).pid ≡ pid
  is_pid = same (head_in block).pid pid rules_met.1.0

  few : (head_in block).degree ≤ params.r
  few = leb-true (head_in block).degree params.r rules_met.1.1.0

  zeros_between : (head_in block).zero ≡ 0
  zeros_between = same (head_in block).zero 0 (both _ (is_zeros (drop (16 + params.d + 4 * (head_in block).degree) block)) rules_met.1.1.1.1.1.0).0

  zeros_behind : is_zeros (drop (16 + params.d + 4 * (head_in block).degree) block) ≡ true
  zeros_behind = (both ((head_in block).zero == 0) _ rules_met.1.1.1.1.1.0).1

  -- what isn't refused is a node block
  pub node_grammar : params.d ≤ 1024 → params.r ≤ 128 → block ≡ node_bytes pid (node_of params.d block).tag (node_of params.d block).vector (node_of params.d block).neighbours
  unfolding node_bytes node_of head_in
  node_grammar short sparse =
      let d = params.d in
      let degree = number_of (field block 4 2) in
      let is : (at n : ℕ) → at + n ≤ 4096 → field block at n ≡ bytes_of n (number_of (field block at n)) = λ at n within. field_is block at n small (omega (arith, within, long)) in
      let many : length (neighbours_of d block) ≡ degree = length-numbers_in degree (drop (16 + d) block) in
      let components : length (field block 16 d) ≡ d = length-field block 16 d (omega (arith, long, short)) in
      let rows : field block (16 + d) (4 * degree) ≡ flat_map (bytes_of 4) (neighbours_of d block) =
      sym (numbers_back degree (drop (16 + d) block) (drop_bytes (16 + d) block small) (omega (arith, length-drop (16 + d) block, long, short, few, sparse))) in
      let rest : drop (16 + d + 4 * degree) block ≡ zeros (4080 - length (field block 16 d) - 4 * length (neighbours_of d block)) =
      zeros_only (drop (16 + d + 4 * degree) block) zeros_behind
      ∙ ap zeros (omega (arith, length-drop (16 + d + 4 * degree) block, long, many, components)) in
      sym (concat-cut 0 (4 ∷ 2 ∷ 2 ∷ 8 ∷ d ∷ 4 * degree ∷ []) block)
      ∙ ap concat (
      ap₂ ◌∷◌ (is 0 4 (omega arith) ∙ ap (bytes_of 4) is_pid) (ap₂ ◌∷◌ (is 4 2 (omega arith) ∙ ap (bytes_of 2) (sym many)) (ap₂ ◌∷◌ (is 6 2 (omega arith) ∙ ap (bytes_of 2) zeros_between) (
      ap₂ ◌∷◌ (is 8 8 (omega arith)) (ap (λ (end : List (List ℕ)). field block 16 d ∷ end) (ap₂ ◌∷◌ rows (ap (λ (end : List ℕ). end ∷ []) rest)))))))

  pub node_sound : params.d ≤ 1024 → IsNodeOf row count params (node_of params.d block)
  unfolding node_of
  node_sound short =
      let neighbours = neighbours_of params.d block in
      let no_stranger = not_true (list_any (is_stranger row count) neighbours) rules_met.1.1.1.0 in
      record {
        dimension = length-field block 16 params.d (omega (arith, long, short));
        degree = let many = length-numbers_in (head_in block).degree (drop (16 + params.d) block) in omega (arith, many, few);
        others = All-from_recursion (λ n. (n ≢ row) × (n < count)) neighbours (no_strangers row count neighbours no_stranger);
        ascending = ascending_tells neighbours rules_met.1.1.1.1.0;
      }

-- ---- a node is written, and read again

accept : (block : List ℕ) (pid row count : ℕ) (params : Params) (neighbours : List ℕ) → length block ≡ 4096 → (head_in block).pid ≡ pid → (head_in block).degree ≤ params.r → neighbours_of params.d block ≡ neighbours → list_any (is_stranger row count) neighbours ≡ false → is_ascending neighbours ≡ true → (head_in block).zero ≡ 0 → is_zeros (drop (16 + params.d + 4 * (head_in block).degree) block) ≡ true → judge_node block pid row count params ≡ None
unfolding judge_node
accept block pid row count params neighbours long is_pid few are no_stranger ascending between behind =
    none_broken (node_rules block pid row count params) (
      same_true (length block) 4096 long,
      (
        same_true (head_in block).pid pid is_pid,
        (
          le-leb (head_in block).degree params.r few,
          (
            ap (λ (ns : List ℕ). not (list_any (is_stranger row count) ns)) are ∙ ap not no_stranger,
            (
              ap is_ascending are ∙ ascending,
              (
                ap₂ ◌&&◌ (same_true (head_in block).zero 0 between) behind,
                tt,
              ),
            ),
          ),
        ),
      ),
    )

-- all but the zeros at the end
abbrev pub node_parts : ℕ → ℕ → List ℕ → List ℕ → List (List ℕ)
node_parts pid tag vector neighbours = bytes_of 4 pid ∷ bytes_of 2 (length neighbours) ∷ bytes_of 2 0 ∷ bytes_of 8 tag ∷ vector ∷ flat_map (bytes_of 4) neighbours ∷ []

module _ (pid tag : ℕ) (vector neighbours : List ℕ) where
  abbrev rest : ℕ
  rest = 4080 - length vector - 4 * length neighbours

  abbrev parts : List (List ℕ)
  parts = node_parts pid tag vector neighbours ++ zeros rest ∷ []

  before_rows : length (concat (take 5 parts)) ≡ 16 + length vector
  before_rows = omega (arith, length-append vector [])

  before_rest : length (concat (take 6 parts)) ≡ 16 + length vector + 4 * length neighbours
  before_rest = omega (arith, length-append vector (flat_map (bytes_of 4) neighbours ++ []), length-append (flat_map (bytes_of 4) neighbours) [], length-numbers neighbours)

  pub node_written : laid 0 (node_parts pid tag vector neighbours) (zeros 4096) ≡ node_bytes pid tag vector neighbours
  unfolding node_bytes
  node_written = laid_is (node_parts pid tag vector neighbours) 4096 rest (omega (arith, before_rest))

  module _ (pid_fits : pid < 2 ^ 32) (tag_fits : tag < 2 ^ 64) (short : length vector ≤ 1024) (sparse : length neighbours ≤ 128) (rows_fit : (i : ℕ) → get_or neighbours i 0 < 2 ^ 32) where
    read_part : (i k n at : ℕ) (others : List (List ℕ)) → n < 256 ^ k → drop i parts ≡ bytes_of k n ∷ others → length (concat (take i parts)) ≡ at → number_of (field (concat parts) at k) ≡ n
    read_part i k n at others below is place = ap number_of (field-concat parts i (bytes_of k n) others at k is place (length-bytes_of k n)) ∙ number_of-bytes_of k n below

    head_is : head_in (concat parts) ≡ record { pid = pid; degree = length neighbours; zero = 0; tag = tag }
    unfolding head_in
    head_is =
        let p = read_part 0 4 pid 0 _ (omega (arith, pid_fits)) refl refl in
        let d = read_part 1 2 (length neighbours) 4 _ (omega (arith, sparse)) refl refl in
        let z = read_part 2 2 0 6 _ (omega arith) refl refl in
        let t = read_part 3 8 tag 8 _ (omega (arith, tag_fits)) refl refl in
        λ i. record { pid = p i; degree = d i; zero = z i; tag = t i }

    vector_is : field (concat parts) 16 (length vector) ≡ vector
    vector_is = field-concat parts 4 vector _ 16 (length vector) refl refl refl

    neighbours_are : neighbours_of (length vector) (concat parts) ≡ neighbours
    neighbours_are =
        ap₂ numbers_in (ap (λ (h : NodeHead). h.degree) head_is) (ap (λ (at : ℕ). drop at (concat parts)) (sym before_rows) ∙ drop-concat parts 5)
        ∙ numbers_again neighbours (zeros rest ++ []) rows_fit

    rest_is : drop (16 + length vector + 4 * (head_in (concat parts)).degree) (concat parts) ≡ zeros rest
    rest_is =
        ap (λ (n : ℕ). drop (16 + length vector + 4 * n) (concat parts)) (ap (λ (h : NodeHead). h.degree) head_is)
        ∙ ap (λ (at : ℕ). drop at (concat parts)) (sym before_rest)
        ∙ drop-concat parts 6
        ∙ append-nil (zeros rest)

    pub node_read_back : node_of (length vector) (node_bytes pid tag vector neighbours) ≡ record { tag = tag; vector = vector; neighbours = neighbours }
    unfolding node_of node_bytes
    node_read_back = λ i. record { tag = (ap (λ (h : NodeHead). h.tag) head_is) i; vector = vector_is i; neighbours = neighbours_are i }

    -- in each row of which the node may be, what is written isn't refused
    pub node_accepted : (row count : ℕ) (params : Params) → IsNodeOf row count params (record { tag = tag; vector = vector; neighbours = neighbours }) → judge_node (node_bytes pid tag vector neighbours) pid row count params ≡ None
    unfolding node_bytes
    node_accepted row count params node =
        let long : length (concat parts) ≡ 4096 =
        omega (arith, length-append vector (flat_map (bytes_of 4) neighbours ++ (zeros rest ++ [])), length-append (flat_map (bytes_of 4) neighbours) (zeros rest ++ []), length-append (zeros rest) [], length-numbers neighbours, length-zeros rest, short, sparse) in
        accept (concat parts) pid row count params neighbours long
        (ap (λ (h : NodeHead). h.pid) head_is)
        (let degree = ap (λ (h : NodeHead). h.degree) head_is in omega (arith, degree, node.degree))
        (ap (λ (d : ℕ). neighbours_of d (concat parts)) (sym node.dimension) ∙ neighbours_are)
        (all_others row count neighbours (recursion_from_All (λ n. (n ≢ row) × (n < count)) neighbours node.others))
        (ascending_is neighbours node.ascending)
        (ap (λ (h : NodeHead). h.zero) head_is)
        (ap (λ (d : ℕ). is_zeros (drop (16 + d + 4 * (head_in (concat parts)).degree) (concat parts))) (sym node.dimension) ∙ ap is_zeros rest_is ∙ zeros_are rest)
