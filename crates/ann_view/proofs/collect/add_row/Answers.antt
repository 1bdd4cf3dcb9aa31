use Rattle.std.proofs.Common.{◌≡◌, ℕ, true, false, List, Some, map, sym, ap, ◌∙◌, rules}
use Rattle.std.specs.Prelude.{None}
use Rattle.ann_types.specs.declared.new_point.NewPoint.{NewPoint}
use Rattle.ann_types.specs.declared.params.Params.{Params}
use Rattle.ann_block.specs.Node.{NodeFields, node_of}
use Rattle.ann_segment.specs.Segment.{SegmentView}
use Rattle.ann_segment.specs.Rows.{judged, row_block}
use Rattle.ann_view.specs.Collected.{IsRowRefused, counts_of, pid_in, row_point_in}
use Rattle.ann_view.specs.declared.collect_refused.CollectRefused.TheVariants.{Memory}
use Rattle.ann_view.proofs.Collecting.{asked, pid_alive, pid_dead, row_alive, row_dead, uncollected_as}
use Rattle.ann_view.proofs.collect.add_row.Goals as goal

pub returns-in_err-copy-clause-refused : goal.returns-in_err-copy-clause-refused
returns-in_err-copy-clause-refused g c =
    uncollected_as (IsRowRefused g.S.Sealed.tells g.S.Sealed.bytes c.args.segment.now c.args.params.now c.args.row (counts_of (g.E.Eye.reads c.args.eye.now) (g.E.Eye.faults c.args.eye.now)) (counts_of (g.E.Eye.reads c.read.new.self) (g.E.Eye.faults c.read.new.self)))
    c.from_residual-in_err-copy.result Memory c.from_residual-in_err-copy.ensures.1
    (c.in_ok-read.ensures.counted, c.in_ok-read.ensures.cause.calm)

pub returns-in_err-push-clause-refused : goal.returns-in_err-push-clause-refused
returns-in_err-push-clause-refused g c =
    uncollected_as (IsRowRefused g.S.Sealed.tells g.S.Sealed.bytes c.args.segment.now c.args.params.now c.args.row (counts_of (g.E.Eye.reads c.args.eye.now) (g.E.Eye.faults c.args.eye.now)) (counts_of (g.E.Eye.reads c.read.new.self) (g.E.Eye.faults c.read.new.self)))
    c.from_residual-in_err-push.result Memory c.from_residual-in_err-push.ensures.1
    (c.in_ok-read.ensures.counted, c.in_ok-read.ensures.cause.calm)

pub returns-then-contains-clause-added : goal.returns-then-contains-clause-added
returns-then-contains-clause-added g c =
    let segment : SegmentView g.row.S.Denot = c.args.segment.now in
    let params : Params = c.args.params.now in
    let row : ℕ = c.args.row in
    let page : List ℕ = c.read.new.buf in
    let told : g.S.Sealed.tells → page ≡ row_block segment (g.S.Sealed.bytes segment.seal) row = λ tells. search rules in
    let sound : judged segment params page row ≡ None = search rules in
    let there = asked c.args.dead.now c.pid-pid.result (pid_in segment row) _ true c.pid-pid.ensures c.contains.ensures c.if-contains.true in
    record {
      points = record {
        pids = pid_dead c.args.dead.now (pid_in segment row) _ there;
        told = λ tells. row_dead c.args.dead.now (row_point_in segment (g.S.Sealed.bytes segment.seal) params.d row) _ there;
      };
      sound = λ tells. (ap (λ (b : List ℕ). judged segment params b row) (sym (told tells)) ∙ sound, tt);
      reads = c.in_ok-read.ensures.counted;
      calm = c.in_ok-read.ensures.cause.calm;
    }

pub returns-clause-added : goal.returns-clause-added
returns-clause-added g c =
    let segment : SegmentView g.row.S.Denot = c.args.segment.now in
    let params : Params = c.args.params.now in
    let row : ℕ = c.args.row in
    let page : List ℕ = c.read.new.buf in
    let told : g.S.Sealed.tells → page ≡ row_block segment (g.S.Sealed.bytes segment.seal) row = λ tells. search rules in
    let sound : judged segment params page row ≡ None = search rules in
    let there = asked c.args.dead.now c.pid-pid.result (pid_in segment row) _ false c.pid-pid.ensures c.contains.ensures c.if-contains.false in
    let node : NodeFields = c.in-Ok.node in
    let read : node ≡ node_of params.d page = c.in-Ok.ensures.read.1 in
    let tag : c.tag.result ≡ (node_of params.d page).tag = c.tag.ensures ∙ ap (λ (n : NodeFields). n.tag) read in
    record {
      points = record {
        pids = ap (λ (t : List NewPoint). map (λ (x : NewPoint). x.pid) t) c.in_ok-push.ensures.pushed ∙ pid_alive c.args.dead.now (pid_in segment row) _ c.args.out.now there c.pid-pid.ensures;
        told = λ tells.
            c.in_ok-push.ensures.pushed
            ∙ row_alive c.args.dead.now (row_point_in segment (g.S.Sealed.bytes segment.seal) params.d row) _ c.args.out.now there
            (λ i. record {
              pid = c.pid-pid.ensures i;
              tag = (tag ∙ ap (λ (b : List ℕ). (node_of params.d b).tag) (told tells)) i;
              vector = (c.in_ok-copy.ensures ∙ c.vector.ensures ∙ ap (λ (n : NodeFields). n.vector) read ∙ ap (λ (b : List ℕ). (node_of params.d b).vector) (told tells)) i;
            });
      };
      sound = λ tells. (ap (λ (b : List ℕ). judged segment params b row) (sym (told tells)) ∙ sound, tt);
      reads = c.in_ok-read.ensures.counted;
      calm = c.in_ok-read.ensures.cause.calm;
    }
