use Rattle.std.proofs.Common.{◌≡◌, ◌∙◌, ◌+◌, ◌-◌, ◌++◌, ◌∷◌, [], length, ap, sym, subst, arith}
use Rattle.std.proofs.Math.Seq.{take-length}
use Rattle.ann_dead.specs.Pids.{union, union_of, IsAscending, AreBelow}
use Rattle.ann_dead.specs.Digits.{carried}
use Rattle.ann_dead.specs.Dead.{total, sizes}
use Rattle.ann_dead.proofs.Runs.{Carries, total_append, carry_step}
use Rattle.ann_dead.proofs.carry.carry.Goals as goal

pub loop-kept-init : goal.loop-kept-init
loop-kept-init c =
    let rs = c.args.runs.now in
    let m = c.in_ok-pids.pids.items in
    let is = c.in_ok-pids.ensures.items in
    let all = take-length rs in
    let count = ap (λ l. total (l ++ m ∷ [])) all ∙ ap (λ l. total (rs ++ l ∷ [])) is ∙ total_append rs ((c.args.pid ∷ []) ∷ []) in record {
      kept_in = omega arith;
      one_run = (subst IsAscending (sym is) (tt, tt), subst (AreBelow 4294967296) (sym is) (c.ranges.pid.fits, tt));
      same_pids = ap (λ l. union_of (l ++ m ∷ [])) all ∙ ap (λ l. union_of (rs ++ l ∷ [])) is;
      same_total = omega arith;
      same_carry = ap (λ l. carried (sizes l) (length m)) all ∙ ap (λ l. carried (sizes rs) (length l)) is;
    }

pub loop-kept-preserved : goal.loop-kept-preserved
loop-kept-preserved c =
    let rs = c.args.runs.now in
    let r = c.index-runs-kept.result in
    let m = c.loop-kept.pids.items in
    let m' = c.in_ok-pids-2.pids.items in
    let was = c.loop-kept.invariant in
    let last_is = c.pids-last.ensures.value in
    let same_size : length r ≡ length m = sym (ap length last_is) ∙ c.if-last-len.false ∙ c.len.ensures ∙ sym c.as_slice.ensures.len ∙ ap length c.as_slice.ensures.value in
    let m'_is : m' ≡ union r m = c.in_ok-pids-2.ensures ∙ ap (λ l. union l c.as_slice.result.now) last_is ∙ ap (union r) c.as_slice.ensures.value in
    let all = union_of (rs ++ (c.args.pid ∷ []) ∷ []) in
    let end = carried (sizes rs) 1 in
    let before : Carries rs c.loop-kept.kept m all (total rs + 1) end = record { one_run = was.one_run; same_pids = was.same_pids; same_total = was.same_total; same_carry = was.same_carry } in
    let after = carry_step rs (c.loop-kept.kept - 1) c.loop-kept.kept r m m' all (total rs + 1) end (omega arith) was.kept_in c.index-runs-kept.is c.pids-last.ensures.run same_size m'_is c.requires.new before in record {
      kept_in = omega arith;
      one_run = after.one_run;
      same_pids = after.same_pids;
      same_total = after.same_total;
      same_carry = after.same_carry;
    }
