use Rattle.std.proofs.Common.{◌≡◌, ◌≤◌, ◌<◌, ℕ, suc, [], true, false, take, drop, map, length, get_or}
use Rattle.std.specs.Prelude.{All}
use Rattle.ann_types.specs.Order.{has}
use Rattle.ann_types.specs.Kept.{rule_of, keep, takes}
use Rattle.ann_prune.specs.Rows.{row_of}
use Rattle.ann_prune.specs.Newer.{fresh_of}
use Rattle.ann_prune.proofs.robust.keep_each.Given as goal

-- the kept ones and what is left lead to what all lead to; the kept ones are among those so far, and the last row that was
-- tried isn't taken again
abbrev pub invariant-loop-at : goal.invariant-loop-at
invariant-loop-at g l = record {
  rest : keep (rule_of l.params) (g.M.Metric.apart l.metric) l.p l.out.items (drop l.at (map row_of l.items)) ≡ keep (rule_of l.params) (g.M.Metric.apart l.metric) l.p [] (map row_of l.items);
  few : length l.out.items ≤ l.params.r;
  past : (k : ℕ) → has l.out.items k ≡ true → has (take l.at (map row_of l.items)) k ≡ true;
  inside : All (λ k. k < g.M.Metric.size l.metric) l.out.items;
  fresh : l.fresh.items ≡ fresh_of l.newer l.out.items;
  tried : (j : ℕ) → suc j ≡ l.at → takes (rule_of l.params) (g.M.Metric.apart l.metric) l.p l.out.items (get_or (map row_of l.items) j 0) ≡ false;
}
