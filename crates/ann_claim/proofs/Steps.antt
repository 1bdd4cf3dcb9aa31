-- Each kind of step keeps the rule.
use Rattle.std.proofs.Common.{◌≡◌, ◌≢◌, ℕ, ◌+◌, ◌%◌, ◌^◌, ◌<◌, ◌≤◌, [], ◌∷◌, ◌++◌, set, get_or, min, cond, eqb, refl, sym, ap, ◌∙◌, subst, ⊎_elim, arith, length-set, get_or-set_same}
use mathlib.Core.Option.{none, some, some-ne-none}
use lib.ListN.{get_elem?}
use mathlib.Core.Logic.{dite}
use Rattle.std.proofs.Math.Decide.{dec_lt}
use Rattle.std.proofs.lemmas.Bool.Decides.{nat_tests}
use Rattle.atomic_table.specs.Table.{State, Me, step, keeps, opening, stepped, Allows, Splits, Joins}
use Rattle.atomic_table.proofs.Lists.{at_set}
use Rattle.ann_claim.specs.declared.rule.Hand.{Hand}
use Rattle.ann_claim.specs.declared.rule.Limits.{Limits}
use Rattle.ann_claim.specs.Claims.{times, once_below}
use Rattle.ann_claim.specs.Rule.{hand, dealer, one_less, newcomer, together, spent, total, shares_of, ended_in, times_in, Fits, Fair, Drew, Settled}
use Rattle.ann_claim.proofs.Totals.{total_set, total_snoc, part_le, total_le, alone, fits_set, fits_snoc}
use Rattle.ann_claim.proofs.Drawn.{times_append, least_above_le}

abbrev St : Type 0
St = State (Unit {0}) Hand

pub makes : (limits : Limits) → limits.numbers < 2 ^ 32 → limits.seats < 2 ^ 32 → Fair limits (opening {S = Unit {0}} (0 ∷ []) [] (dealer limits))
makes limits n m = record {
  one_word = refl;
  small = (n, m);
  each = fits_snoc limits [] (dealer limits) (record { knows = λ _. (refl, refl); idle = λ _. refl; few = omega arith }) (λ j u e. absurd (some-ne-none u (sym e)));
  whole = omega arith;
  once = λ x. grind arith;
  most = omega arith;
  past = λ e. absurd (omega arith);
}

-- one more number below
below_more : (x y : ℕ) → once_below x y + cond (eqb y x) 1 0 ≡ once_below x (y + 1)
below_more x y = grind (arith, nat_tests)

below_of_once : (x n : ℕ) → 0 < once_below x n → x < n
below_of_once x n h = grind (arith, nat_tests)

-- the word may change with one view, where these parts of the rule still hold
changes : (limits : Limits) (s : St) (id : ℕ) (v w : Hand) (n : ℕ) → Fair limits s → get_elem? s.views id ≡ some v → Fits limits w → w.shares ≡ v.shares
    → ((x : ℕ) → total (times_in x) (set s.views id w) ≡ once_below x (min n limits.numbers))
    → n ≤ limits.numbers + total ended_in (set s.views id w)
    → (0 < total ended_in (set s.views id w) → limits.numbers ≤ n)
    → Fair limits (stepped s 0 n id [] w keeps)
changes limits s id v w n h at fits same once most past =
    let one = h.one_word in
    let is : get_or (set s.words 0 n) 0 0 ≡ n = get_or-set_same s.words 0 n 0 (omega arith) in
    record {
      one_word = length-set s.words 0 n ∙ one;
      small = h.small;
      each = fits_set limits s.views id w fits h.each;
      whole = (let sum = total_set shares_of s.views id v w at in let all = h.whole in omega arith);
      once = λ x. subst (λ (k : ℕ). total (times_in x) (set s.views id w) ≡ once_below x (min k limits.numbers)) (sym is) (once x);
      most = subst (λ (k : ℕ). k ≤ limits.numbers + total ended_in (set s.views id w)) (sym is) most;
      past = λ e. subst (λ (k : ℕ). limits.numbers ≤ k) (sym is) (past e);
    }

-- fewer claimers have ended than the word has room for
few_ended : (limits : Limits) (s : St) → Fair limits s → total ended_in s.views < 2 ^ 32
few_ended limits s h = let le = total_le ended_in shares_of s.views (λ j u e. (h.each j u e).few) in let all = h.whole in let small = h.small in omega arith

draws_below : (limits : Limits) (slots id : ℕ) (me : Me (Unit {0}) Hand) (s : St) → Fair limits s → get_elem? s.views id ≡ some me.0 → 0 < me.0.shares → me.0.ended ≡ 0
    → get_or s.words 0 0 < limits.numbers
    → (w : Hand) × Fair limits (stepped s 0 (get_or s.words 0 0 + 1) id me.1 w keeps) × Drew (step slots 0 1 0 none) me (get_or s.words 0 0) (w, me.1)
draws_below limits slots id me s h at any going below =
    let v = me.0 in
    let x = get_or s.words 0 0 in
    let w = hand v.numbers v.seats (v.drawn ++ x ∷ []) v.ended v.shares in
    let mine = h.each id v at in
    let known = mine.knows any in
    let ends = total_set ended_in s.views id v w at in
    let past = h.past in
    let smaller : min x limits.numbers ≡ x = omega arith in
    let most = h.most in (
      w,
      changes limits s id v w (x + 1) h at (record { knows = λ _. known; idle = λ e. absurd (omega arith); few = mine.few }) refl
          (λ y.
          let sum = total_set (times_in y) s.views id v w at in
          let old = h.once y in
          let more = below_more y x in
          let a : min x limits.numbers ≡ x = omega arith in
          let b : min (x + 1) limits.numbers ≡ x + 1 = omega arith in
          let old' : total (times_in y) s.views ≡ once_below y x = old ∙ ap (once_below y) a in
          let new' : total (times_in y) (set s.views id w) ≡ once_below y (x + 1) = omega (arith, times_append y v.drawn (x ∷ [])) in
          new' ∙ ap (once_below y) (sym b))
          (omega arith)
          (λ e. absurd (omega arith)),
      (
        refl,
        (λ _. (
          least_above_le x v.drawn
              (λ y some_here.
              let all = h.once y in
              let part = part_le (times_in y) s.views id v at in
              below_of_once y x (subst (λ (k : ℕ). 0 < once_below y k) smaller (omega arith))),
          refl,
        )),
        (λ le. absurd (omega arith)),
      ),
    )

draws_past : (limits : Limits) (slots id : ℕ) (me : Me (Unit {0}) Hand) (s : St) → Fair limits s → get_elem? s.views id ≡ some me.0 → 0 < me.0.shares → me.0.ended ≡ 0
    → limits.numbers ≤ get_or s.words 0 0
    → (w : Hand) × Fair limits (stepped s 0 (get_or s.words 0 0 + 1) id me.1 w keeps) × Drew (step slots 0 1 0 none) me (get_or s.words 0 0) (w, me.1)
draws_past limits slots id me s h at any going past =
    let v = me.0 in
    let x = get_or s.words 0 0 in
    let w = hand v.numbers v.seats v.drawn 1 v.shares in
    let mine = h.each id v at in
    let known = mine.knows any in
    let ends = total_set ended_in s.views id v w at in
    let most = h.most in (
      w,
      changes limits s id v w (x + 1) h at (record { knows = λ _. known; idle = λ e. absurd (omega arith); few = omega arith }) refl
          (λ y.
          let sum = total_set (times_in y) s.views id v w at in
          let same : min x limits.numbers ≡ min (x + 1) limits.numbers = omega arith in
          let old : total (times_in y) s.views ≡ once_below y (min (x + 1) limits.numbers) = h.once y ∙ ap (once_below y) same in
          let new : total (times_in y) (set s.views id w) ≡ total (times_in y) s.views = omega arith in
          new ∙ old)
          (omega arith)
          (λ e. omega arith),
      (refl, (λ less. absurd (omega arith)), (λ _. refl)),
    )

pub draws : (limits : Limits) (slots id : ℕ) (me : Me (Unit {0}) Hand) → 0 < me.0.shares → me.0.ended ≡ 0 → Allows (Fair limits) slots id me 0 (λ n. (n + 1) % 2 ^ 64) (Drew (step slots 0 1 0 none) me)
draws limits slots id me any going s h _ at room =
    let x = get_or s.words 0 0 in
    let few = few_ended limits s h in
    let most = h.most in
    let small = h.small in
    let next : x + 1 ≡ (x + 1) % 18446744073709551616 = omega arith in
    let r : (w : Hand) × Fair limits (stepped s 0 (x + 1) id me.1 w keeps) × Drew (step slots 0 1 0 none) me x (w, me.1) =
    dite (dec_lt x limits.numbers) (λ below. draws_below limits slots id me s h at any going below) (λ not. draws_past limits slots id me s h at any going (omega arith)) in
    (r.0, keeps, tt, subst (λ (n : ℕ). Fair limits (stepped s 0 n id me.1 r.0 keeps)) next r.1, r.2)

pub splits : (limits : Limits) (id : ℕ) (v : Hand) → v.ended < v.shares → 1 < v.shares → Splits {S = Unit {0}} (Fair limits) id v (one_less v) (newcomer v)
splits limits id v going more s h at =
    let mine = h.each id v at in
    let known = mine.knows (omega arith) in
    let vs = set s.views id (one_less v) in
    let new = newcomer v in
    let sum : (f : Hand → ℕ) → total f (vs ++ new ∷ []) + f v ≡ total f s.views + f (one_less v) + f new =
    λ f. (let a = total_set f s.views id v (one_less v) at in let b = total_snoc f vs new in omega arith) in
    let ends = sum ended_in in
    let most = h.most in
    record {
      one_word = h.one_word;
      small = h.small;
      each = fits_snoc limits vs new (record { knows = λ _. known; idle = λ _. refl; few = omega arith })
          (fits_set limits s.views id (one_less v) (record { knows = λ _. known; idle = λ e. absurd (omega arith); few = omega arith }) h.each);
      whole = (let a = sum shares_of in let all = h.whole in omega arith);
      once = λ x. (let a = sum (times_in x) in let b = h.once x in omega arith);
      most = omega arith;
      past = λ e. h.past (omega arith);
    }

pub joins : (limits : Limits) (id : ℕ) (v : Hand) (other : ℕ) (w : Hand) → 0 < v.shares → Joins {S = Unit {0}} (Fair limits) id v other w (together v w) spent
joins limits id v other w any s h at apart there =
    let mine = h.each id v at in
    let known = mine.knows any in
    let both = together v w in
    let vs = set s.views id both in
    let was : get_elem? s.views other ≡ some w = ⊎_elim (λ (t : (other ≡ id) × (both ≡ w)). absurd (apart t.0)) (λ (t : (other ≢ id) × (get_elem? s.views other ≡ some w)). t.1) (at_set s.views id other both w there) in
    let theirs = h.each other w was in
    let sum : (f : Hand → ℕ) → total f (set vs other spent) + f w + f v ≡ total f s.views + f both + f spent =
    λ f. (let a = total_set f s.views id v both at in let b = total_set f vs other w spent there in omega arith) in
    let ends = sum ended_in in
    let most = h.most in
    record {
      one_word = h.one_word;
      small = h.small;
      each = fits_set limits vs other spent (record { knows = λ e. absurd (omega arith); idle = λ _. refl; few = omega arith })
          (fits_set limits s.views id both (record { knows = λ _. known; idle = λ e. absurd (omega arith); few = (let a = mine.few in let b = theirs.few in omega arith) }) h.each);
      whole = (let a = sum shares_of in let all = h.whole in omega arith);
      once = λ x. (let a = sum (times_in x) in let b = h.once x in omega (arith, times_append x w.drawn v.drawn));
      most = omega arith;
      past = λ e. h.past (omega arith);
    }

pub settles : (limits : Limits) (slots id : ℕ) (me : Me (Unit {0}) Hand) → 0 < me.0.shares → Allows (Fair limits) slots id me 0 (λ n. n) (Settled (step slots 0 0 0 none) me)
settles limits slots id me any s h _ at room =
    let v = me.0 in
    let x = get_or s.words 0 0 in
    let mine = h.each id v at in
    let known = mine.knows any in
    let same : (f : Hand → ℕ) → total f (set s.views id v) ≡ total f s.views = λ f. (let a = total_set f s.views id v v at in omega arith) in
    let ends = same ended_in in
    let most = h.most in (
      v,
      keeps,
      tt,
      changes limits s id v v x h at mine refl (λ y. same (times_in y) ∙ h.once y) (omega arith) (λ e. h.past (omega arith)),
      (
        refl,
        λ all ended y.
            let whole = h.whole in
            let part = part_le ended_in s.views id v at in
            let past = h.past (omega arith) in
            let sum = alone (times_in y) s.views id v at (λ j u e z. ap (times y) ((h.each j u e).idle z)) (omega arith) in
            let full : min x limits.numbers ≡ v.numbers = omega arith in
            sym sum ∙ h.once y ∙ ap (once_below y) full,
      ),
    )
