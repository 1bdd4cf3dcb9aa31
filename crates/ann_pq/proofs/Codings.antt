-- A code, part by part.
use Rattle.std.proofs.Common.{◌≡◌, ℕ, zero, suc, ◌+◌, ◌*◌, ◌/◌, ◌<◌, List, [], ◌∷◌, length, get_or, take, drop, sym, ap, ◌∙◌, arith}
use Rattle.std.proofs.Math.Nat.{zero-mul, suc-mul}
use Rattle.std.proofs.lemmas.List.{ext_get_or, drop-drop}
use Rattle.ann_types.specs.Codes.{Book, nearest, code_of_parts, code}
use Rattle.ann_types.proofs.Coded.{length_code}
use Rattle.ann_pq.specs.Codebook.{part_of}

code_at : (w : ℕ) (book : Book) (vector : List ℕ) (k : ℕ) → k < length book → get_or (code_of_parts w book vector) k 0 ≡ nearest (get_or book k []) (part_of w vector k)
code_at w [] vector k l = absurd (omega arith)
code_at w (cs ∷ book) vector zero l = ap (λ n. nearest cs (take w (drop n vector))) (sym (zero-mul w))
code_at w (cs ∷ book) vector (suc k) l =
    let next : w + k * w ≡ suc k * w = (let more = suc-mul k w in omega arith) in
    code_at w book (drop w vector) k (omega arith) ∙ ap (λ t. nearest (get_or book k []) (take w t)) (drop-drop (k * w) w vector ∙ ap (λ n. drop n vector) next)

-- numbers that name the nearest centroid of each part
pub code_is : (d m : ℕ) (book : Book) (vector out : List ℕ) → length book ≡ m → length vector ≡ d → length out ≡ m → ((k : ℕ) → k < m → get_or out k 0 ≡ nearest (get_or book k []) (part_of (d / m) vector k)) → out ≡ code book vector
code_is d m book vector out count long size each =
    let wide : d / m ≡ length vector / length book = ap (λ n. n / m) (sym long) ∙ ap (λ n. length vector / n) (sym count) in
    ext_get_or 0 out (code book vector) (size ∙ sym count ∙ sym (length_code book vector))
    (λ k l. each k (omega arith) ∙ ap (λ w. nearest (get_or book k []) (part_of w vector k)) wide ∙ sym (code_at (length vector / length book) book vector k (omega arith)))
