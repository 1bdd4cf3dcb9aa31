use Rattle.std.proofs.Common.{◌∙◌, ◌⊎◌, ◌≤◌, get_or, length, inl, inr, arith}
use Rattle.std.specs.Prelude.{◌==◌}
use Rattle.ann_dead.proofs.Merges.{as_number, still_in, falls, merge_more, merge_end}
use Rattle.ann_dead.proofs.merge.merged.Goals as goal
use Rattle.ann_dead.proofs.merge.merged.Goals.{then-loop-i-test+else-k-second, else-loop-i-test}

pub loop-i-preserved : goal.loop-i-preserved
loop-i-preserved c =
    let xs = c.args.first.now in
    let ys = c.args.second.now in
    let m = c.min-pid.result in
    let d = c.from-i.ensures ∙ as_number (get_or xs c.loop-i.i 0 == m) in
    let e = c.from-k.ensures ∙ as_number (get_or ys c.loop-i.k 0 == m) in record {
      in_first = still_in (get_or xs c.loop-i.i 0 == m) c.loop-i.i c.from-i.result (length xs) d c.loop-i-test.true;
      in_second = still_in (get_or ys c.loop-i.k 0 == m) c.loop-i.k c.from-k.result (length ys) e c.if-k-second.true;
      so_far = merge_more xs ys c.loop-i.pids.items c.push.new.self.items c.loop-i.i c.loop-i.k m c.from-i.result c.from-k.result c.requires.first c.requires.second c.loop-i-test.true c.if-k-second.true c.min-pid.ensures d
          e c.in_ok-push.ensures.items c.loop-i.invariant.so_far;
    }

pub loop-i-smaller : goal.loop-i-smaller
loop-i-smaller c =
    let x = get_or c.args.first.now c.loop-i.i 0 in
    let y = get_or c.args.second.now c.loop-i.k 0 in
    let m = c.min-pid.result in
    falls x y m _ _ _ _ _ _ c.min-pid.ensures (c.from-i.ensures ∙ as_number (x == m)) (c.from-k.ensures ∙ as_number (y == m)) c.loop-i-test.true c.if-k-second.true

pub returns : goal.returns
returns c =
    let ended : (length c.args.first.now ≤ c.loop-i.i) ⊎ (length c.args.second.now ≤ c.loop-i.k) =
    elim c.loop-i-test.branch [ then-loop-i-test+else-k-second w ↦ inr (omega arith) | else-loop-i-test w ↦ inl (omega arith) ] in
    merge_end c.args.first.now c.args.second.now c.loop-i.pids.items c.extend_from_slice.new.self.items c.extend_from_slice-2.new.self.items c.loop-i.i c.loop-i.k c.requires.first ended c.in_ok-extend_from_slice.ensures.items
    c.in_ok-extend_from_slice-2.ensures.items c.loop-i.invariant.so_far
