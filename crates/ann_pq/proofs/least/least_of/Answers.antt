use Rattle.std.proofs.Common.{ℕ, ◌≤◌, ◌≡◌, get_or, arith, sym, subst, inl, inr}
use Rattle.std.proofs.lemmas.Bool.{cases_lt}
use Rattle.ann_pq.proofs.Leasts.{least_bound}
use Rattle.ann_pq.proofs.least.least_of.Goals as goal

pub loop-number-preserved : goal.loop-number-preserved
loop-number-preserved c = record {
  below = λ k l.
      let small = c.min-lowest.ensures in
      elim (cases_lt k c.loop-number.number-index) [
        | inl low ↦ (let so_far = c.loop-number.invariant.below k low in omega arith)
        | inr high ↦ (let last : k ≡ c.loop-number.number-index = omega arith in subst (λ (i : ℕ). c.min-lowest.result ≤ get_or c.args.numbers.now i 0) (sym last) (omega arith))
      ];
  greatest = λ b fits bounds.
      let small = c.min-lowest.ensures in
      let so_far = c.loop-number.invariant.greatest b fits (λ k l. bounds k (omega arith)) in
      let here = bounds c.loop-number.number-index (omega arith) in
      omega arith;
}

pub returns : goal.returns
returns c =
    let first = (c.type_inv.numbers 0).fits in
    least_bound 4294967295 c.loop-number.lowest c.args.numbers.now c.requires (omega arith) (λ k l. c.loop-number.invariant.below k (omega arith))
    (λ b fits bounds. c.loop-number.invariant.greatest b fits (λ k l. bounds k (omega arith)))
