use Rattle.std.proofs.Common.{◌≡◌, ◌∷◌, [], ℕ, List, sym, ap, subst, ◌∙◌, append-nil, rules}
use Rattle.std.specs.Prelude.{None}
use Rattle.ann_types.specs.Order.{all_placed}
use Rattle.ann_types.specs.declared.params.Params.{Params}
use Rattle.ann_greedy.specs.Shows.{Shows}
use Rattle.ann_block.specs.Node.{NodeFields, node_of}
use Rattle.ann_segment.specs.Segment.{SegmentView, node_block}
use Rattle.ann_beam.specs.Ranking.{with_all}
use Rattle.ann_beam.specs.Candidates.{far_row}
use Rattle.ann_segment.specs.Rows.{block_at, judged}
use Rattle.ann_beam.specs.Visits.{alive, point_of}
use Rattle.ann_beam.specs.declared.refused.SearchRefused.TheVariants.{Disk}
use Rattle.ann_beam.proofs.Readings.{gone_as}
use Rattle.ann_beam.proofs.course.Course.visit.Goals as goal

pub returns-in_err-read-clause-gone : goal.returns-in_err-read-clause-gone
returns-in_err-read-clause-gone g c =
    gone_as _ _ _ _ _ _ c.from_residual.result Disk c.from_residual.ensures.1
    (record { reads = (0, c.in_err-read.ensures.uncounted); faulty = c.in_err-read.ensures.cause.failed })

pub returns-in-Err-clause-gone : goal.returns-in-Err-clause-gone
returns-in-Err-clause-gone g c = record {
  read = tt;
  refused = record {
    bad = record { row = c.args.row; within = c.requires.row; place = c.node_block-block.ensures.value; refused = search rules };
    told = search rules;
    reads = (0, c.in_ok-read.ensures.counted);
    calm = c.in_ok-read.ensures.cause.calm;
  };
}

pub returns-in-Ok-clause-gone : goal.returns-in-Ok-clause-gone
returns-in-Ok-clause-gone g c = record { read = record { reads = (1, c.in_ok-read.ensures.counted); calm = c.in_ok-read.ensures.cause.calm }; refused = tt }

pub returns-in-Ok-clause-seen : goal.returns-in-Ok-clause-seen
returns-in-Ok-clause-seen g c = λ tells.
    let segment : SegmentView g.row.S.Denot = c.args.self.now.segment.now in
    let params : Params = c.args.self.now.params.now in
    let query : List ℕ = c.args.self.now.query.now in
    let dead : List ℕ = g.D.Deleted.pids c.args.self.now.dead.now in
    let row : ℕ = c.args.row in
    let page : List ℕ = c.read.new.buf in
    let far : ℕ → ℕ = far_row c.args.desk.now.tables segment.items in
    let told : page ≡ block_at (g.S.Sealed.bytes segment.seal) (node_block segment row) = search rules in
    let ranked : c.rank.new.ranking.points ≡ with_all c.args.desk.now.ranking.limit (alive dead (point_of segment.items query row (node_of params.d page) ∷ [])) c.args.desk.now.ranking.points = search rules in
    let sound : judged segment params page row ≡ None = search rules in
    record {
      visits = record {
        ranked = ranked ∙ ap (λ (b : List ℕ). with_all c.args.desk.now.ranking.limit (alive dead (point_of segment.items query row (node_of params.d b) ∷ [])) c.args.desk.now.ranking.points) told;
        reads = c.in_ok-read.ensures.counted;
        sound = (ap (λ (b : List ℕ). judged segment params b row) (sym told) ∙ sound, tt);
      };
      meets = λ visited order shown.
          subst (λ (t : List ℕ). Shows far visited (all_placed far order t) c.meet.new.guided)
          (ap (λ (n : NodeFields). n.neighbours) (c.in-Ok.ensures.read.1 ∙ ap (node_of params.d) told) ∙ sym (append-nil _))
          (c.meet.ensures.shows visited order shown);
    }
