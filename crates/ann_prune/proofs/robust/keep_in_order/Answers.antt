use Rattle.std.proofs.Common.{◌<◌, ◌^◌, ℕ, map, sym, ◌∙◌, subst, arith}
use Rattle.std.specs.Prelude.{All}
use Rattle.std.proofs.lemmas.List.Sorted.{All-permutation}
use Rattle.std.proofs.lemmas.List.Elements.{All-weaker}
use Rattle.ann_types.specs.Kept.{rule_of}
use Rattle.ann_prune.specs.declared.candidates.Candidate.{Candidate}
use Rattle.ann_prune.specs.Rows.{row_of, IsMeasured}
use Rattle.ann_prune.proofs.Prunes.{sorted_rows, rows_inside, same_rows, settled_same, keep_sorted}
use Rattle.ann_prune.proofs.robust.keep_in_order.Goals as goal

pub measure-requires-clause-rows : goal.measure-requires-clause-rows
measure-requires-clause-rows g c = rows_inside (g.M.Metric.size c.args.metric.now) c.args.items.now c.requires.rows.others

pub keep_each-requires-clause-candidates : goal.keep_each-requires-clause-candidates
keep_each-requires-clause-candidates g c =
    let size : ℕ = g.M.Metric.size c.args.metric.now in
    record {
      rows =
          All-permutation (λ (x : Candidate). x.row < size) c.measure.new.items c.sort.new.items c.sort.ensures.same
          (rows_inside size c.measure.new.items (subst (All (λ row. row < size)) (sym c.measure.ensures.rows) c.requires.rows.others));
      measured = All-permutation (IsMeasured (g.M.Metric.apart c.args.metric.now c.args.p)) c.measure.new.items c.sort.new.items c.sort.ensures.same c.measure.ensures.far;
    }

pub keep_each-requires-clause-settled : goal.keep_each-requires-clause-settled
keep_each-requires-clause-settled g c =
    settled_same (rule_of c.args.params.now) (g.M.Metric.apart c.args.metric.now) c.args.p c.args.newer (map row_of c.args.items.now) (map row_of c.sort.new.items)
    (same_rows c.args.items.now c.measure.new.items c.sort.new.items c.measure.ensures.rows c.sort.ensures.same) c.requires.settled

pub returns : goal.returns
returns g c =
    let apart : ℕ → ℕ → ℕ = g.M.Metric.apart c.args.metric.now in
    let size : ℕ = g.M.Metric.size c.args.metric.now in
    let rows = All-permutation (λ (x : Candidate). x.row < size) c.measure.new.items c.sort.new.items c.sort.ensures.same
    (rows_inside size c.measure.new.items (subst (All (λ row. row < size)) (sym c.measure.ensures.rows) c.requires.rows.others)) in
    let far = All-permutation (IsMeasured (apart c.args.p)) c.measure.new.items c.sort.new.items c.sort.ensures.same c.measure.ensures.far in
    let few = c.count-small.type_inv in
    let is = c.count-small.ensures in
    let small = All-weaker (λ (x : Candidate). x.row < size) (λ (x : Candidate). x.row < 2 ^ 32) (λ x h. omega arith) c.sort.new.items rows in
    c.keep_each.ensures ∙ keep_sorted (rule_of c.args.params.now) apart c.args.p (map row_of c.sort.new.items) (map row_of c.args.items.now) (g.met.M.Metric.near_itself c.args.metric.now)
    (sorted_rows (apart c.args.p) c.sort.new.items far small c.sort.ensures.order)
    (same_rows c.args.items.now c.measure.new.items c.sort.new.items c.measure.ensures.rows c.sort.ensures.same)
