-- Numbers that a code names in tables, and the distance that they are together.
use Rattle.std.proofs.Common.{◌≡◌, ℕ, zero, suc, ◌+◌, ◌*◌, ◌<◌, List, [], ◌∷◌, ◌++◌, length, get_or, take, drop, map, refl, sym, ap, subst, ◌∙◌, arith, add-one}
use Rattle.std.specs.Prelude.{All}
use Rattle.std.proofs.Math.Nat.{zero-mul, suc-mul}
use Rattle.std.proofs.lemmas.List.{ext_get_or, drop-drop, get_or-map, length-take-le, length-drop, take-append-drop, get_or-take, get_or-drop}
use Rattle.std.proofs.lemmas.List.Elements.{All-get_or, All-head, All-tail}
use Rattle.std.proofs.lemmas.List.FromFn.{get_or-map-range_with_len, length-map-range_with_len}
use Rattle.ann_types.specs.Distance.{distance}
use Rattle.ann_types.specs.Codes.{Book, decode}
use Rattle.ann_types.proofs.Distances.{distance-append}
use Rattle.ann_pq.specs.Codebook.{IsBook, part_of}
use Rattle.ann_pq.specs.Tables.{tables_of, AreTablesOf, looked_up}
use Rattle.ann_pq.specs.Tabled.{tables_in}

looked_up_more_suc : (tables : List (List ℕ)) (code : List ℕ) (p : ℕ) → p < length tables → p < length code → looked_up (take (suc p) tables) (take (suc p) code) ≡ looked_up (take p tables) (take p code) + get_or (get_or tables p []) (get_or code p 0) 0
looked_up_more_suc [] code p l k = absurd (omega arith)
looked_up_more_suc (t ∷ tables) [] p l k = absurd (omega arith)
looked_up_more_suc (t ∷ tables) (n ∷ code) zero l k = omega arith
looked_up_more_suc (t ∷ tables) (n ∷ code) (suc p) l k = let rest = looked_up_more_suc tables code p (omega arith) (omega arith) in omega arith

pub looked_up_more : (tables : List (List ℕ)) (code : List ℕ) (p : ℕ) → p < length tables → p < length code → looked_up (take (p + 1) tables) (take (p + 1) code) ≡ looked_up (take p tables) (take p code) + get_or (get_or tables p []) (get_or code p 0) 0
looked_up_more tables code p l k = ap (λ n. looked_up (take n tables) (take n code)) (add-one p) ∙ looked_up_more_suc tables code p l k

-- ---- tables side by side

pub length_tables_in : (parts : ℕ) (numbers : List ℕ) → length (tables_in parts numbers) ≡ parts
length_tables_in parts numbers = length-map-range_with_len (λ p. take 256 (drop (256 * p) numbers)) 0 parts

pub tables_in_at : (parts : ℕ) (numbers : List ℕ) (p : ℕ) → p < parts → get_or (tables_in parts numbers) p [] ≡ take 256 (drop (256 * p) numbers)
tables_in_at parts numbers p l = get_or-map-range_with_len (λ k. take 256 (drop (256 * k) numbers)) 0 parts p p [] l (omega arith)

length_tables_of : (w : ℕ) (book : Book) (query : List ℕ) → length (tables_of w book query) ≡ length book
length_tables_of w [] query = refl
length_tables_of w (cs ∷ book) query = ap suc (length_tables_of w book (drop w query))

tables_of_at : (w : ℕ) (book : Book) (query : List ℕ) (k : ℕ) → k < length book → get_or (tables_of w book query) k [] ≡ map (distance (part_of w query k)) (get_or book k [])
tables_of_at w [] query k l = absurd (omega arith)
tables_of_at w (cs ∷ book) query zero l = ap (λ n. map (distance (take w (drop n query))) cs) (sym (zero-mul w))
tables_of_at w (cs ∷ book) query (suc k) l =
    let next : w + k * w ≡ suc k * w = (let more = suc-mul k w in omega arith) in
    tables_of_at w book (drop w query) k (omega arith) ∙ ap (λ t. map (distance (take w t)) (get_or book k [])) (drop-drop (k * w) w query ∙ ap (λ n. drop n query) next)

-- the tables that hold the distances of each part
pub tables_are : (m w : ℕ) (book : Book) (query numbers : List ℕ) → IsBook m w book → length query ≡ m * w → ((p : ℕ) → p < m → take 256 (drop (256 * p) numbers) ≡ map (distance (part_of w query p)) (get_or book p [])) → AreTablesOf book query (tables_in m numbers)
tables_are m w book query numbers shape long each =
    let count : length book ≡ m = shape.count in
    let size : length (tables_in m numbers) ≡ m = length_tables_in m numbers in
    record {
      width = w;
      shape = subst (λ (n : ℕ). IsBook n w book) (sym count) shape;
      long = long ∙ ap (λ n. n * w) (sym count);
      each = ext_get_or [] (tables_in m numbers) (tables_of w book query) (size ∙ sym count ∙ sym (length_tables_of w book query))
          (λ p l. tables_in_at m numbers p (omega arith) ∙ each p (omega arith) ∙ sym (tables_of_at w book query p (omega arith)));
    }

-- one number in tables side by side
pub entry_is : (parts : ℕ) (numbers : List ℕ) (tables : List (List ℕ)) → tables_in parts numbers ≡ tables → (p n : ℕ) → p < parts → n < 256 → get_or (get_or tables p []) n 0 ≡ get_or numbers (256 * p + n) 0
entry_is parts numbers tables is p n l below =
    ap (λ t. get_or (get_or t p []) n 0) (sym is) ∙ ap (λ t. get_or t n 0) (tables_in_at parts numbers p l)
    ∙ get_or-take 256 (drop (256 * p) numbers) n 0 below ∙ get_or-drop (256 * p) numbers n 0

pub count_is : (parts : ℕ) (numbers : List ℕ) (tables : List (List ℕ)) → tables_in parts numbers ≡ tables → length tables ≡ parts
count_is parts numbers tables is = ap length (sym is) ∙ length_tables_in parts numbers

-- ---- the distance to a decoded code

looked_up_distance : (w : ℕ) (book : Book) (query code : List ℕ) → All (λ part. length part ≡ 256) book → All (λ part. All (λ c. length c ≡ w) part) book → length query ≡ length book * w → length code ≡ length book → ((k : ℕ) → k < length code → get_or code k 0 < 256) → looked_up (tables_of w book query) code ≡ distance query (decode book code)
looked_up_distance w [] query [] count wide long size small = ap (λ q. distance q []) (nil query (let none = zero-mul w in omega arith))
  where
    nil : (q : List ℕ) → length q ≡ 0 → [] ≡ q
    nil [] e = refl
    nil (x ∷ q) e = absurd (omega arith)
looked_up_distance w [] query (n ∷ code) count wide long size small = absurd (omega arith)
looked_up_distance w (cs ∷ book) query [] count wide long size small = absurd (omega arith)
looked_up_distance w (cs ∷ book) query (n ∷ code) count wide long size small =
    let next : suc (length book) * w ≡ length book * w + w = suc-mul (length book) w in
    let rest : length (drop w query) ≡ length book * w = length-drop w query ∙ omega arith in
    let first : length (take w query) ≡ w = length-take-le w query (omega arith) in
    let of_256 : length cs ≡ 256 = All-head (λ (part : List (List ℕ)). length part ≡ 256) cs book count in
    let byte : n < 256 = small 0 (omega arith) in
    let within : n < length cs = omega arith in
    let centroid : length (get_or cs n []) ≡ w = All-get_or (λ (c : List ℕ). length c ≡ w) cs n [] within (All-head (λ (part : List (List ℕ)). All (λ c. length c ≡ w) part) cs book wide) in
    ap (λ k. k + looked_up (tables_of w book (drop w query)) code) (get_or-map (distance (take w query)) cs n [] 0 within)
    ∙ ap (λ k. distance (take w query) (get_or cs n []) + k) (looked_up_distance w book (drop w query) code (All-tail (λ (part : List (List ℕ)). length part ≡ 256) cs book count) (All-tail (λ (part : List (List ℕ)). All (λ c. length c ≡ w) part) cs book wide) rest (omega arith) (λ k l. small (suc k) (omega arith)))
    ∙ sym (distance-append (take w query) (get_or cs n []) (drop w query) (decode book code) (first ∙ sym centroid))
    ∙ ap (λ q. distance q (get_or cs n [] ++ decode book code)) (take-append-drop w query)

pub guided_is : (book : Book) (query code : List ℕ) (tables : List (List ℕ)) → AreTablesOf book query tables → length code ≡ length tables → ((k : ℕ) → k < length code → get_or code k 0 < 256) → looked_up tables code ≡ distance query (decode book code)
guided_is book query code tables are size small =
    let count : length tables ≡ length book = ap length are.each ∙ length_tables_of are.width book query in
    ap (λ t. looked_up t code) are.each ∙ looked_up_distance are.width book query code are.shape.centroids are.shape.widths are.long (omega arith) small
