use Rattle.std.proofs.Common.{◌≡◌, ◌<◌, ◌≤◌, ◌+◌, ◌-◌, ◌^◌, ℕ, suc, List, true, false, length, map, sym, ap, ◌∙◌, subst, arith, drop, get_or}
use Rattle.std.specs.Prelude.{All}
use Rattle.std.proofs.lemmas.List.Elements.{All-weaker, All-get_or}
use Rattle.ann_types.specs.Order.{has}
use Rattle.ann_types.specs.Kept.{Rule, rule_of, keep, takes}
use Rattle.ann_prune.specs.declared.candidates.Candidate.{Candidate}
use Rattle.ann_prune.specs.Rows.{row_of}
use Rattle.ann_prune.specs.Newer.{IsNew, IsRepeated}
use Rattle.ann_prune.proofs.Prunes.{sorted_rows, new_here, never_twice, row_at, length-rows, keep_next, past_next, inside_next, few_next, keep_full}
use Rattle.ann_prune.proofs.robust.keep_each.Goals as goal

abbrev blank : Candidate
blank = record { distance = 0; row = 0 }

repeated_from : (rows : List ℕ) (i j : ℕ) → suc j ≡ i → get_or rows j 0 ≡ get_or rows i 0 → IsRepeated rows i
repeated_from rows i j before same = (omega arith, ap (λ n. get_or rows n 0) (let e : i - 1 ≡ j = omega arith in e) ∙ same)

pub try_keep-requires-clause-next : goal.try_keep-requires-clause-next
try_keep-requires-clause-next g c =
    let apart : ℕ → ℕ → ℕ = g.M.Metric.apart c.args.metric.now in
    let items : List Candidate = c.args.items.now in
    let i : ℕ = c.loop-at.at in
    let within : i < length (map row_of items) = omega (arith, length-rows items) in
    let small = All-weaker (λ (x : Candidate). x.row < g.M.Metric.size c.args.metric.now) (λ (x : Candidate). x.row < 2 ^ 32) (λ x h. omega arith) items c.requires.candidates.rows in
    let sorted = sorted_rows (apart c.args.p) items c.requires.candidates.measured small c.requires.order in
    record {
      new = λ once.
          subst (IsNew (rule_of c.args.params.now) apart c.args.p c.args.newer c.loop-at.out.items) (row_at items i blank (omega arith))
          (new_here (rule_of c.args.params.now) apart c.args.p c.args.newer (map row_of items) c.loop-at.out.items i sorted c.requires.settled within c.loop-at.invariant.past
          (λ j before same. c.is_repeated-repeated.ensures.1 once (repeated_from (map row_of items) i j before same)));
      tried = λ again.
          let repeated = c.is_repeated-repeated.ensures.0 again in
          let same : get_or (map row_of items) (i - 1) 0 ≡ row_of (get_or items i blank) = repeated.1 ∙ row_at items i blank (omega arith) in
          subst (λ n. takes (rule_of c.args.params.now) apart c.args.p c.loop-at.out.items n ≡ false) same (c.loop-at.invariant.tried (i - 1) (let some = repeated.0 in omega arith));
    }

pub loop-at-preserved : goal.loop-at-preserved
loop-at-preserved g c =
    let rule : Rule = rule_of c.args.params.now in
    let apart : ℕ → ℕ → ℕ = g.M.Metric.apart c.args.metric.now in
    let items : List Candidate = c.args.items.now in
    let rows : List ℕ = map row_of items in
    let i : ℕ = c.loop-at.at in
    let within : i < length rows = omega (arith, length-rows items) in
    let here = row_at items i blank (omega arith) in
    let inside : ℕ → Type 0 = λ k. k < g.M.Metric.size c.args.metric.now in
    let row = All-get_or (λ (x : Candidate). x.row < g.M.Metric.size c.args.metric.now) items i blank (omega arith) c.requires.candidates.rows in
    let is = c.try_keep.ensures.kept in
    record {
      rest = ap (λ t. keep rule apart c.args.p t (drop (i + 1) rows)) is ∙ keep_next rule apart c.args.p rows c.loop-at.out.items i _ 0 within here ∙ c.loop-at.invariant.rest;
      few = subst (λ (t : List ℕ). length t ≤ c.args.params.now.r) (sym is) (few_next c.loop-at.out.items _ c.args.params.now.r _ (let few = c.loop-at.invariant.few in let long = c.len.ensures.value in let most = c.from-most.ensures in let more = c.if-len-most.false in omega arith));
      past = λ k h. past_next rows c.loop-at.out.items i _ 0 _ within here c.loop-at.invariant.past k (subst (λ (t : List ℕ). has t k ≡ true) is h);
      inside = subst (All inside) (sym is) (inside_next inside c.loop-at.out.items _ _ c.loop-at.invariant.inside row);
      fresh = c.try_keep.ensures.fresh;
      tried = λ j before.
          let next : get_or rows j 0 ≡ row_of (get_or items i blank) = ap (λ n. get_or rows n 0) (let e : j ≡ i = omega arith in e) ∙ here in
          subst (λ n. takes rule apart c.args.p c.try_keep.new.out.items n ≡ false) (sym next)
          (subst (λ (t : List ℕ). takes rule apart c.args.p t (row_of (get_or items i blank)) ≡ false) (sym is)
          (never_twice rule apart c.args.p c.loop-at.out.items (row_of (get_or items i blank)) (g.met.M.Metric.near_itself c.args.metric.now (row_of (get_or items i blank)))));
    }

pub returns-then-len-most : goal.returns-then-len-most
returns-then-len-most g c =
    sym (keep_full (rule_of c.args.params.now) (g.M.Metric.apart c.args.metric.now) c.args.p c.loop-at.out.items (drop c.loop-at.at (map row_of c.args.items.now)) (let long = c.len.ensures.value in let most = c.from-most.ensures in let same = c.if-len-most.true in omega arith)) ∙ c.loop-at.invariant.rest
