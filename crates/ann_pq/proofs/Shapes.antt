-- A codebook is one of its index's parameters, and how long what it decodes is.
use Rattle.std.proofs.Common.{◌≡◌, ℕ, suc, ◌*◌, ◌/◌, ◌<◌, List, [], ◌∷◌, length, get_or, ap, subst, sym, ◌∙◌, arith}
use Rattle.std.specs.Prelude.{All}
use Rattle.std.proofs.lemmas.List.Elements.{All-head, All-tail, recursion_from_All}
use Rattle.ann_types.specs.Codes.{Book, decode}
use Rattle.ann_types.specs.Index.{IsBookOf}
use Rattle.ann_types.specs.declared.params.Params.{Params}
use Rattle.ann_types.proofs.Coded.{HasWidth, IsCode, length_decode}
use Rattle.ann_pq.specs.Codebook.{IsBook, CodebookView}
use Rattle.ann_pq.specs.Format.{IsCodebook}

-- a codebook that was read for these parameters belongs to them
pub is_book_of : (params : Params) (shown : CodebookView) → IsCodebook shown → shown.d ≡ params.d → shown.m ≡ params.m → IsBookOf params shown.book
is_book_of params shown known d m = record {
  parts = known.book.count ∙ m;
  centroids = known.book.centroids;
  widths = subst (λ (w : ℕ). All (λ part. All (λ c. length c ≡ w) part) shown.book) (ap (λ n. n / shown.m) d ∙ ap (λ n. params.d / n) m) known.book.widths;
}

has_width_from : (w : ℕ) (book : Book) → All (λ part. length part ≡ 256) book → All (λ part. All (λ c. length c ≡ w) part) book → HasWidth w book
has_width_from w [] count wide = tt
has_width_from w (cs ∷ book) count wide =
    let size : length cs ≡ 256 = All-head (λ (part : List (List ℕ)). length part ≡ 256) cs book count in
    let here = All-head (λ (part : List (List ℕ)). All (λ c. length c ≡ w) part) cs book wide in
    ((omega arith, recursion_from_All (λ (c : List ℕ). length c ≡ w) cs here), has_width_from w book (All-tail (λ (part : List (List ℕ)). length part ≡ 256) cs book count) (All-tail (λ (part : List (List ℕ)). All (λ c. length c ≡ w) part) cs book wide))

pub has_width : (parts w : ℕ) (book : Book) → IsBook parts w book → HasWidth w book
has_width parts w book shape = has_width_from w book shape.centroids shape.widths

-- bytes are numbers of centroids
pub is_code : (book : Book) (code : List ℕ) → All (λ part. length part ≡ 256) book → length code ≡ length book → ((k : ℕ) → k < length code → get_or code k 0 < 256) → IsCode book code
is_code [] [] count size small = tt
is_code [] (n ∷ code) count size small = absurd (omega arith)
is_code (cs ∷ book) [] count size small = absurd (omega arith)
is_code (cs ∷ book) (n ∷ code) count size small =
    let of_256 : length cs ≡ 256 = All-head (λ (part : List (List ℕ)). length part ≡ 256) cs book count in
    let byte : n < 256 = small 0 (omega arith) in
    (omega arith, is_code book code (All-tail (λ (part : List (List ℕ)). length part ≡ 256) cs book count) (omega arith) (λ k l. small (suc k) (omega arith)))

-- a decoded vector has as many components as the parts have together
pub length_decoded : (parts w : ℕ) (book : Book) (code : List ℕ) → IsBook parts w book → length code ≡ parts → ((k : ℕ) → k < length code → get_or code k 0 < 256) → length (decode book code) ≡ parts * w
length_decoded parts w book code shape size small =
    length_decode w book code (has_width parts w book shape) (is_code book code shape.centroids (size ∙ sym shape.count) small)
    ∙ ap (λ n. n * w) shape.count
