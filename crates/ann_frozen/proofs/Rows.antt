-- Rows side by side: a row is read, and one is added.
use Rattle.std.proofs.Common.{◌≡◌, ℕ, zero, suc, ◌+◌, ◌-◌, ◌*◌, ◌≤◌, ◌<◌, List, [], ◌∷◌, ◌++◌, refl, sym, ap, subst, ◌∙◌, arith, take, drop, length, get_or}
use Rattle.std.specs.List.{AllByRecursion}
use Rattle.std.proofs.Math.Nat.{zero-mul, suc-mul, mul-le-mul_right}
use Rattle.std.proofs.Math.Seq.{take-length, drop-append_seam}
use Rattle.std.proofs.lemmas.List.{take-append-le, drop-append-le, drop-drop, length-drop, length-append}
use Rattle.ann_table.specs.Node.{Node, node_at}
use Rattle.ann_frozen.specs.declared.label.Label.{Label}
use Rattle.ann_frozen.specs.Packed.{Packs, row_in, rows_in, ArePacked}

-- each label's neighbours are among so many numbers
abbrev pub AreWithin : ℕ → List Label → Type 0
AreWithin n labels = AllByRecursion (λ x. x.start + x.count ≤ n) labels

within_at : (n : ℕ) (xs : List Label) (i : ℕ) (d : Label) → AreWithin n xs → i < length xs → (get_or xs i d).start + (get_or xs i d).count ≤ n
within_at n [] i d a l = absurd (omega arith)
within_at n (x ∷ xs) zero d (h, a) l = h
within_at n (x ∷ xs) (suc i) d (h, a) l = within_at n xs i d a (omega arith)

within_push : (n m : ℕ) (xs : List Label) (x : Label) → AreWithin n xs → n ≤ m → x.start + x.count ≤ m → AreWithin m (xs ++ x ∷ [])
within_push n m [] x a l h = (h, tt)
within_push n m (y ∷ xs) x (k, a) l h = (omega arith, within_push n m xs x a l h)

-- ---- what is read

pub length_rows : (w : ℕ) (xs : List Label) (bs ns : List ℕ) → length (rows_in w xs bs ns) ≡ length xs
length_rows w [] bs ns = refl
length_rows w (x ∷ xs) bs ns = let rest = length_rows w xs (drop w bs) ns in omega arith

pub at_rows : (w : ℕ) (xs : List Label) (bs ns : List ℕ) (i : ℕ) (d : Label) → i < length xs → node_at (rows_in w xs bs ns) i ≡ row_in (get_or xs i d) (take w (drop (i * w) bs)) ns
at_rows w [] bs ns i d l = absurd (omega arith)
at_rows w (x ∷ xs) bs ns zero d l = ap (λ n. row_in x (take w (drop n bs)) ns) (sym (zero-mul w))
at_rows w (x ∷ xs) bs ns (suc i) d l =
    let next : w + i * w ≡ suc i * w = (let more = suc-mul i w in omega arith) in
    at_rows w xs (drop w bs) ns i d (omega arith)
    ∙ ap (λ t. row_in (get_or xs i d) (take w t) ns) (drop-drop (i * w) w bs ∙ ap (λ n. drop n bs) next)

-- ---- a row more

-- a label's neighbours stay where more numbers come behind
links_stay : (x : Label) (ns ls : List ℕ) → x.start + x.count ≤ length ns → take x.count (drop x.start (ns ++ ls)) ≡ take x.count (drop x.start ns)
links_stay x ns ls h =
    let rest = length-drop x.start ns in
    ap (take x.count) (drop-append-le x.start ns ls (omega arith)) ∙ take-append-le x.count (drop x.start ns) ls (omega arith)

-- the numbers behind are those of a label that starts there
links_new : (x : Label) (ns ls : List ℕ) → x.start ≡ length ns → x.count ≡ length ls → take x.count (drop x.start (ns ++ ls)) ≡ ls
links_new x ns ls s c =
    ap (λ n. take x.count (drop n (ns ++ ls))) s ∙ ap (take x.count) (drop-append_seam ns ls)
    ∙ ap (λ n. take n ls) c ∙ take-length ls

take_whole : (w : ℕ) (v : List ℕ) → length v ≡ w → take w v ≡ v
take_whole w v e = ap (λ n. take n v) (sym e) ∙ take-length v

-- a row with this vector and these neighbours
abbrev pub row_with : Label → List ℕ → List ℕ → Node
row_with x vector links = record { pid = x.pid; tag = x.tag; vector = vector; links = links; newer = 0 }

pub push_rows : (w : ℕ) (xs : List Label) (bs ns : List ℕ) (x : Label) (v ls : List ℕ) → length bs ≡ length xs * w → AreWithin (length ns) xs → length v ≡ w → x.start ≡ length ns → x.count ≡ length ls → rows_in w (xs ++ x ∷ []) (bs ++ v) (ns ++ ls) ≡ rows_in w xs bs ns ++ row_with x v ls ∷ []
push_rows w [] [] ns x v ls e a f s c =
    ap (λ t. row_with x t (take x.count (drop x.start (ns ++ ls))) ∷ []) (take_whole w v f)
    ∙ ap (λ t. row_with x v t ∷ []) (links_new x ns ls s c)
push_rows w [] (b ∷ bs) ns x v ls e a f s c = absurd (let none = zero-mul w in omega arith)
push_rows w (y ∷ xs) bs ns x v ls e (h, a) f s c =
    let next : suc (length xs) * w ≡ length xs * w + w = suc-mul (length xs) w in
    let fits : w ≤ length bs = omega arith in
    let rest : length (drop w bs) ≡ length xs * w = (let left = length-drop w bs in omega arith) in
    ap (λ t. row_with y t (take y.count (drop y.start (ns ++ ls))) ∷ rows_in w (xs ++ x ∷ []) (drop w (bs ++ v)) (ns ++ ls)) (take-append-le w bs v fits)
    ∙ ap (λ t. row_with y (take w bs) t ∷ rows_in w (xs ++ x ∷ []) (drop w (bs ++ v)) (ns ++ ls)) (links_stay y ns ls h)
    ∙ ap (λ t. row_in y (take w bs) ns ∷ rows_in w (xs ++ x ∷ []) t (ns ++ ls)) (drop-append-le w bs v fits)
    ∙ ap (λ t. row_in y (take w bs) ns ∷ t) (push_rows w xs (drop w bs) ns x v ls rest a f s c)

pub packed_none : (w : ℕ) → ArePacked w [] [] []
packed_none w = record { whole = sym (zero-mul w); ends = tt }

pub packed_push : (w : ℕ) (xs : List Label) (bs ns : List ℕ) (x : Label) (v ls : List ℕ) (xs' : List Label) (bs' ns' : List ℕ) → ArePacked w xs bs ns → length v ≡ w → x.start ≡ length ns → x.count ≡ length ls → xs' ≡ xs ++ x ∷ [] → bs' ≡ bs ++ v → ns' ≡ ns ++ ls → ArePacked w xs' bs' ns'
packed_push w xs bs ns x v ls xs' bs' ns' p f s c l b n =
    let labels : length xs' ≡ suc (length xs) = ap length l ∙ length-append xs (x ∷ []) ∙ omega arith in
    let bytes : length bs' ≡ length bs + length v = ap length b ∙ length-append bs v in
    let numbers : length ns' ≡ length ns + length ls = ap length n ∙ length-append ns ls in
    let all : length xs' * w ≡ length xs * w + w = ap (λ m. m * w) labels ∙ suc-mul (length xs) w in
    let whole = p.whole in
    record {
      whole = omega arith;
      ends = subst (AreWithin (length ns')) (sym l) (within_push (length ns) (length ns') xs x p.ends (omega arith) (omega arith));
    }

-- ---- what is seen

module _ (w : ℕ) (xs : List Label) (bs ns : List ℕ) (v : Packs) (is : record { width = w; nodes = rows_in w xs bs ns } ≡ v) where
  pub seen_width : w ≡ v.width
  seen_width = ap (λ (p : Packs). p.width) is

  pub seen_nodes : rows_in w xs bs ns ≡ v.nodes
  seen_nodes = ap (λ (p : Packs). p.nodes) is

  pub seen_count : length xs ≡ length v.nodes
  seen_count = sym (length_rows w xs bs ns) ∙ ap length seen_nodes

  pub seen_row : (i : ℕ) → i < length v.nodes → i < length xs
  seen_row i l = let count = seen_count in omega arith

  -- what a row has
  pub seen_at : (i : ℕ) (x : Label) → i < length v.nodes → x ≡ get_or xs i x → node_at v.nodes i ≡ row_in x (take w (drop (i * w) bs)) ns
  seen_at i x l e =
      ap (λ (t : List Node). node_at t i) (sym seen_nodes)
      ∙ at_rows w xs bs ns i x (seen_row i l)
      ∙ ap (λ (y : Label). row_in y (take w (drop (i * w) bs)) ns) (sym e)

  module _ (packed : ArePacked w xs bs ns) where
    -- where a row's neighbours end
    pub links_end : (i : ℕ) (x : Label) → i < length v.nodes → x ≡ get_or xs i x → x.start + x.count ≤ length ns
    links_end i x l e = subst (λ (y : Label). y.start + y.count ≤ length ns) (sym e) (within_at (length ns) xs i x packed.ends (seen_row i l))

    -- where a row's vector ends, and what it is
    pub vector_end : (i q : ℕ) → i < length v.nodes → q ≡ w → i * q + q ≤ length bs
    vector_end i q l e =
        let row : i < length xs = seen_row i l in
        let next : suc i * w ≡ i * w + w = suc-mul i w in
        let within : suc i * w ≤ length xs * w = mul-le-mul_right {m = suc i} {n = length xs} w (omega arith) in
        let whole = packed.whole in
        subst (λ (n : ℕ). i * n + n ≤ length bs) (sym e) (omega arith)

    pub vector_is : (i q : ℕ) → i < length v.nodes → q ≡ w → take (i * q + q - i * q) (drop (i * q) bs) ≡ (node_at v.nodes i).vector
    vector_is i q l e =
        ap (λ (n : ℕ). take n (drop (i * q) bs)) (omega arith)
        ∙ ap (λ (n : ℕ). take n (drop (i * n) bs)) e
        ∙ sym (ap (λ (t : List Node). (node_at t i).vector) (sym seen_nodes)
        ∙ ap (λ (x : Node). x.vector) (at_rows w xs bs ns i (record { tag = 0; start = 0; pid = 0; count = 0 }) (seen_row i l)))

    pub links_is : (i q : ℕ) (x : Label) → i < length v.nodes → x ≡ get_or xs i x → q ≡ x.count → take (x.start + q - x.start) (drop x.start ns) ≡ (node_at v.nodes i).links
    links_is i q x l e f =
        ap (λ (n : ℕ). take n (drop x.start ns)) (omega arith)
        ∙ sym (ap (λ (y : Node). y.links) (seen_at i x l e))

    -- what is seen with a row more
    pub push_is : (xs' : List Label) (bs' ns' : List ℕ) (x : Label) (vector links : List ℕ) → length vector ≡ v.width → x.start ≡ length ns → x.count ≡ length links → xs' ≡ xs ++ x ∷ [] → bs' ≡ bs ++ vector → ns' ≡ ns ++ links → rows_in w xs' bs' ns' ≡ v.nodes ++ row_with x vector links ∷ []
    push_is xs' bs' ns' x vector links f s c l b n =
        ap (λ t. rows_in w t bs' ns') l ∙ ap (λ t. rows_in w (xs ++ x ∷ []) t ns') b ∙ ap (rows_in w (xs ++ x ∷ []) (bs ++ vector)) n
        ∙ push_rows w xs bs ns x vector links packed.whole packed.ends (f ∙ sym seen_width) s c
        ∙ ap (λ t. t ++ row_with x vector links ∷ []) seen_nodes
