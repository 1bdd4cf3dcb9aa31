-- Where centroids stand: their places are within the bytes, and each turned place is one of a centroid.
use Rattle.std.proofs.Common.{◌≡◌, ℕ, zero, suc, ◌+◌, ◌*◌, ◌/◌, ◌%◌, ◌≤◌, ◌<◌, ap, ◌∙◌, arith}
use Rattle.std.proofs.Math.Nat.{suc-mul, mul-le-mul_right, mul_assoc, mul_comm, div-add-mod, mul-mod_left}
use Rattle.std.proofs.lemmas.Nat.{div-mul-add, mod-mul-add, div_below, mod_below}
use Rattle.ann_pq.specs.Turned.{source}

-- the parts are all of a vector
pub whole : (d m : ℕ) → d % m ≡ 0 → d ≡ m * (d / m)
whole d m none = let all = div-add-mod d m in omega arith

pub wide_some : (d m : ℕ) → 1 ≤ d → d % m ≡ 0 → 1 ≤ d / m
wide_some d m some none =
    let all : d ≡ m * (d / m) = whole d m none in
    elim (d / m) as (λ w. d ≡ m * w → 1 ≤ w) [
      | zero ↦ λ e. absurd (omega arith)
      | suc w ↦ λ e. omega arith
    ] all

pub whole_width : (d m : ℕ) → d % m ≡ 0 → d % (d / m) ≡ 0
whole_width d m none = ap (λ n. n % (d / m)) (whole d m none) ∙ mul-mod_left m (d / m)

module _ (d m w : ℕ) (all : d ≡ m * w) where
  -- a part ends within the vector
  pub part_ends : (p : ℕ) → p < m → p * w + w ≤ d
  part_ends p l =
      let next : suc p * w ≡ p * w + w = suc-mul p w in
      let most : suc p * w ≤ m * w = mul-le-mul_right {m = suc p} {n = m} w (omega arith) in
      omega arith

  -- a centroid ends within the bytes
  pub centroid_ends : (p c : ℕ) → p < m → c < 256 → (256 * p + c) * w + w ≤ 256 * d
  centroid_ends p c l below =
      let next : suc (256 * p + c) * w ≡ (256 * p + c) * w + w = suc-mul (256 * p + c) w in
      let most : suc (256 * p + c) * w ≤ 256 * m * w = mul-le-mul_right {m = suc (256 * p + c)} {n = 256 * m} w (omega arith) in
      let same : 256 * m * w ≡ 256 * (m * w) = mul_assoc 256 m w in
      omega arith

-- component i of centroid c of part p
pub source_at : (w p i c place : ℕ) → i < w → c < 256 → place ≡ 256 * (p * w + i) + c → source w place ≡ 12 + (256 * p + c) * w + i
source_at w p i c place within below is =
    let row : place / 256 ≡ p * w + i = omega arith in
    let at : place % 256 ≡ c = omega arith in
    ap (λ n. 12 + (256 * (n / w) + place % 256) * w + n % w) row
    ∙ ap (λ n. 12 + (256 * n + place % 256) * w + (p * w + i) % w) (div-mul-add p w i within)
    ∙ ap (λ n. 12 + (256 * p + n) * w + (p * w + i) % w) at
    ∙ ap (λ n. 12 + (256 * p + c) * w + n) (mod-mul-add p w i within)

pub source_within : (d w place : ℕ) → 1 ≤ w → d % w ≡ 0 → place < 256 * d → source w place < 12 + 256 * d
source_within d w place some none below =
    let all : d ≡ d / w * w = whole d w none ∙ mul_comm w (d / w) in
    let row : place / 256 < d / w * w = omega arith in
    let part : place / 256 / w < d / w = div_below (place / 256) w (d / w) (omega arith) row in
    let ends = centroid_ends d (d / w) w all (place / 256 / w) (place % 256) part (omega arith) in
    let rest : place / 256 % w < w = mod_below (place / 256) w (omega arith) in
    omega arith
