use Rattle.std.proofs.Common.{◌≡◌, ◌≤◌, ◌<◌, ◌+◌, ◌++◌, ◌∷◌, [], List, ℕ, subst, sym, ap, ◌∙◌, arith, length, get_or, true, false}
use Rattle.std.proofs.lemmas.List.{length_push, get_or_push, get_or_read}
use Rattle.ann_mdelete.specs.Rows.{left_rows}
use Rattle.ann_mplan.specs.Packing.{AreRanks}
use Rattle.ann_mplan.proofs.Ranked.{few_ranked, left_in, left_out, rank_more, row_more}
use Rattle.ann_mplan.proofs.packing.Packing.new.Goals as goal
use Rattle.ann_mplan.proofs.packing.Packing.new.Goals.{then-not-gone-row+in_ok-push-2, else-not-gone-row}

pub overflow_cast-len : goal.overflow_cast-len
overflow_cast-len c =
    let few = few_ranked c.args.gone.now c.loop-row.row in
    let is = ap length c.loop-row.invariant.left in
    let size = c.loop-row.survivors.ok.0 in
    let all = c.requires in
    let test = c.loop-row-test.true in
    let value = c.len.ensures in omega arith

pub loop-row-preserved : goal.loop-row-preserved
loop-row-preserved c =
    let gone = c.args.gone.now in
    let row = c.loop-row.row in
    let test = c.loop-row-test.true in
    let size = ap length c.in_ok-push.ensures.items ∙ length_push c.loop-row.ranks.items c.len.result in
    let ranked : AreRanks c.loop-row.survivors.items c.push.new.self.items = rank_more c.loop-row.survivors.items c.loop-row.ranks.items c.push.new.self.items c.len.result c.loop-row.invariant.ranked c.in_ok-push.ensures.items in
    let rank : get_or c.push.new.self.items row 0 ≡ length c.loop-row.survivors.items =
    ap (λ (t : List ℕ). get_or t row 0) c.in_ok-push.ensures.items ∙ get_or_push c.loop-row.ranks.items c.len.result 0 row c.loop-row.invariant.long
    ∙ c.len.ensures ∙ c.loop-row.survivors.ok.0 in
    elim c.if-not-gone-row.branch [
      | then-not-gone-row+in_ok-push-2 w ↦ (
          let is = ap (λ v. v.items) w.survivors-is in
          let more = is ∙ w.in_ok-push-2.ensures.items in
          record {
            left = more ∙ ap (λ (t : List ℕ). t ++ row ∷ []) c.loop-row.invariant.left ∙ sym (left_in gone row test w.if-not-gone-row.true);
            long = size ∙ ap (λ n. n + 1) c.loop-row.invariant.long;
            ranked = row_more c.loop-row.survivors.items c.push.new.self.items c.if-not-gone-row.survivors.items row ranked (let l = c.loop-row.invariant.long in omega arith) rank more;
          })
      | else-not-gone-row w ↦ (
          let is = ap (λ v. v.items) w.survivors-is in
          record {
            left = is ∙ c.loop-row.invariant.left ∙ sym (left_out gone row test w.if-not-gone-row.false);
            long = size ∙ ap (λ n. n + 1) c.loop-row.invariant.long;
            ranked = subst (λ (t : List ℕ). AreRanks t c.push.new.self.items) (sym is) ranked;
          })
    ]
