-- Binary digits, and adding one.
use Rattle.std.proofs.Common.{◌≡◌, ◌≢◌, ℕ, zero, suc, ◌+◌, ◌*◌, ◌/◌, ◌%◌, ◌^◌, ◌<◌, ◌≤◌, true, false, List, [], ◌∷◌, length, refl, sym, ap, ◌∙◌, arith}
use Rattle.std.specs.Prelude.{◌==◌, if◌then◌else◌}
use Rattle.std.proofs.lemmas.Bool.Decides.{nat_tests}
use mathlib.Core.Logic.{dite}
use native.Mathlib.Decide.{ℕ_discrete}
use Rattle.ann_dead.specs.Digits.{digits_of, carried}

digits_odd : (k u n : ℕ) → n % 2 ≡ 1 → digits_of (suc k) u n ≡ u ∷ digits_of k (2 * u) (n / 2)
unfolding digits_of
digits_odd k u n odd = let b : (n % 2 == 1) ≡ true = grind (arith, nat_tests) in ap (λ t. if t then u ∷ digits_of k (2 * u) (n / 2) else digits_of k (2 * u) (n / 2)) b

digits_even : (k u n : ℕ) → n % 2 ≢ 1 → digits_of (suc k) u n ≡ digits_of k (2 * u) (n / 2)
unfolding digits_of
digits_even k u n even = let b : (n % 2 == 1) ≡ false = grind (arith, nat_tests) in ap (λ t. if t then u ∷ digits_of k (2 * u) (n / 2) else digits_of k (2 * u) (n / 2)) b

digits_none : (u n : ℕ) → digits_of zero u n ≡ []
unfolding digits_of
digits_none u n = refl

pub carried_same : (x s : ℕ) (xs : List ℕ) → x ≡ s → carried (x ∷ xs) s ≡ carried xs (2 * s)
carried_same x s xs h = let b : (x == s) ≡ true = grind (arith, nat_tests) in ap (λ t. if t then carried xs (2 * s) else s ∷ x ∷ xs) b

pub carried_apart : (x s : ℕ) (xs : List ℕ) → x ≢ s → carried (x ∷ xs) s ≡ s ∷ x ∷ xs
carried_apart x s xs h = let b : (x == s) ≡ false = grind (arith, nat_tests) in ap (λ t. if t then carried xs (2 * s) else s ∷ x ∷ xs) b

-- digits of higher places stop a carry
carry_stops : (k v n s : ℕ) → s < v → carried (digits_of k v n) s ≡ s ∷ digits_of k v n
carry_stops zero v n s less = ap (λ l. carried l s) (digits_none v n) ∙ ap (λ l. s ∷ l) (sym (digits_none v n))
carry_stops (suc k) v n s less =
    dite (ℕ_discrete (n % 2) 1)
    (λ odd. let e = digits_odd k v n odd in ap (λ l. carried l s) e ∙ carried_apart v s (digits_of k (2 * v) (n / 2)) (λ q. omega arith) ∙ ap (λ l. s ∷ l) (sym e))
    (λ even. let e = digits_even k v n even in ap (λ l. carried l s) e ∙ carry_stops k (2 * v) (n / 2) s (omega arith) ∙ ap (λ l. s ∷ l) (sym e))

-- one more is carried
pub digits-next : (k u n : ℕ) → 0 < u → n + 1 < 2 ^ k → carried (digits_of k u n) u ≡ digits_of k u (n + 1)
digits-next zero u n some less = absurd (omega arith)
digits-next (suc k) u n some less =
    let less' : n + 1 < 2 * 2 ^ k = omega arith in
    dite (ℕ_discrete (n % 2) 1)
    (λ odd.
    let half : (n + 1) / 2 ≡ n / 2 + 1 = omega arith in
    let now = digits_even k u (n + 1) (λ e. omega arith) in
    ap (λ l. carried l u) (digits_odd k u n odd) ∙ carried_same u u (digits_of k (2 * u) (n / 2)) refl ∙ digits-next k (2 * u) (n / 2) (omega arith) (omega arith) ∙ ap (digits_of k (2 * u)) (sym half) ∙ sym now)
    (λ even.
    let half : (n + 1) / 2 ≡ n / 2 = omega arith in
    let now = digits_odd k u (n + 1) (omega arith) in
    ap (λ l. carried l u) (digits_even k u n even) ∙ carry_stops k (2 * u) (n / 2) u (omega arith) ∙ ap (λ m. u ∷ digits_of k (2 * u) m) (sym half) ∙ sym now)

-- nothing has no digits
pub digits-zero : (k u : ℕ) → digits_of k u 0 ≡ []
digits-zero zero u = digits_none u 0
digits-zero (suc k) u = digits_even k u 0 (λ e. omega arith) ∙ digits-zero k (2 * u)

-- l digits make at least 2 ^ l - 1
pub length-digits : (k u n : ℕ) → 2 ^ length (digits_of k u n) ≤ n + 1
length-digits zero u n = let e = ap (λ l. 2 ^ length l) (digits_none u n) in omega arith
length-digits (suc k) u n =
    let r = length-digits k (2 * u) (n / 2) in
    dite (ℕ_discrete (n % 2) 1)
    (λ odd. let e : 2 ^ length (digits_of (suc k) u n) ≡ 2 ^ suc (length (digits_of k (2 * u) (n / 2))) = ap (λ l. 2 ^ length l) (digits_odd k u n odd) in omega arith)
    (λ even. let e : 2 ^ length (digits_of (suc k) u n) ≡ 2 ^ length (digits_of k (2 * u) (n / 2)) = ap (λ l. 2 ^ length l) (digits_even k u n even) in omega arith)
