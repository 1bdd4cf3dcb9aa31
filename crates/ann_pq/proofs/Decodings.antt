-- A decoded vector, part by part.
use Rattle.std.proofs.Common.{◌≡◌, ℕ, zero, suc, ◌+◌, ◌<◌, List, [], ◌∷◌, ◌++◌, length, get_or, take, sym, ap, ◌∙◌, arith, append_assoc, add-one}
use Rattle.std.proofs.lemmas.List.{append-nil}
use Rattle.ann_types.specs.Codes.{Book, decode}

decode_more_suc : (book : Book) (code : List ℕ) (p : ℕ) → p < length book → p < length code → decode (take (suc p) book) (take (suc p) code) ≡ decode (take p book) (take p code) ++ get_or (get_or book p []) (get_or code p 0) []
decode_more_suc [] code p l k = absurd (omega arith)
decode_more_suc (cs ∷ book) [] p l k = absurd (omega arith)
decode_more_suc (cs ∷ book) (n ∷ code) zero l k = append-nil (get_or cs n [])
decode_more_suc (cs ∷ book) (n ∷ code) (suc p) l k =
    ap (λ t. get_or cs n [] ++ t) (decode_more_suc book code p (omega arith) (omega arith))
    ∙ sym (append_assoc (get_or cs n []) (decode (take p book) (take p code)) (get_or (get_or book p []) (get_or code p 0) []))

-- one part more
pub decode_more : (book : Book) (code : List ℕ) (p : ℕ) → p < length book → p < length code → decode (take (p + 1) book) (take (p + 1) code) ≡ decode (take p book) (take p code) ++ get_or (get_or book p []) (get_or code p 0) []
decode_more book code p l k = ap (λ n. decode (take n book) (take n code)) (add-one p) ∙ decode_more_suc book code p l k
