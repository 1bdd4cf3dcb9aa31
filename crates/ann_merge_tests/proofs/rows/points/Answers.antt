use Rattle.std.proofs.Common.{◌≡◌, ◌<◌, ◌++◌, ◌∷◌, [], ◌+◌, ℕ, List, sym, ap, ◌∙◌, subst, map, length, All, arith, rules}
use Rattle.std.specs.List.{range_with_len}
use Rattle.std.proofs.lemmas.List.{map-append}
use Rattle.std.proofs.lemmas.List.Elements.{All-push}
use Rattle.ann_types.specs.Legal.{pid_end}
use Rattle.ann_types.specs.declared.new_point.NewPoint.{NewPoint}
use Rattle.ann_merge_tests.proofs.Lines.{range_more}
use Rattle.ann_merge_tests.proofs.rows.points.Goals as goal

pub loop-component-preserved : goal.loop-component-preserved
loop-component-preserved c =
    let was = c.loop-component.invariant in
    let next = was.next in
    let inside : c.loop-component.component-index < length c.args.components.now = c.loop-component-test.true in
    let few = c.requires in
    let items = c.in_ok-push.ensures.items in
    record {
      next = omega arith;
      pids = ap (map (λ (x : NewPoint). x.pid)) items ∙ map-append (λ (x : NewPoint). x.pid) c.loop-component.points.items _
          ∙ ap (λ t. t ++ c.loop-component.pid ∷ []) was.pids ∙ ap (λ (p : ℕ). range_with_len c.args.first c.loop-component.component-index ++ p ∷ []) next
          ∙ sym (range_more c.args.first c.loop-component.component-index);
      small = subst (All (λ (x : NewPoint). x.pid < pid_end)) (sym items) (All-push (λ (x : NewPoint). x.pid < pid_end) c.loop-component.points.items _ was.small (omega arith));
      vectors = subst (All (λ (x : NewPoint). length x.vector ≡ 1)) (sym items) (All-push (λ (x : NewPoint). length x.vector ≡ 1) c.loop-component.points.items _ was.vectors (ap length c.in_ok-copy.ensures));
    }
