use Rattle.std.proofs.Common.{◌≡◌, ◌≤◌, length, map, sym, ap, ◌∙◌, subst, arith}
use Rattle.ann_beam.specs.Ranking.{RankingView, hit_of}
use Rattle.ann_beam.proofs.Rankings.{hits_joined, length-joined}
use Rattle.ann_beam.proofs.ranking.Ranking.hits.Goals as goal

pub returns-clause-hits : goal.returns-clause-hits
returns-clause-hits c =
    let pids = c.self.inside.pids in
    let hits = c.self.inside.hits in
    let same : length pids.items ≡ length hits.items = omega (arith, c.self.invariant.2, pids.ok.0, hits.ok.0) in
    c.deref.ensures.value ∙ sym (hits_joined pids.items hits.items same) ∙ ap (λ (s : RankingView). map hit_of s.points) c.self.view_is

pub returns-clause-few : goal.returns-clause-few
returns-clause-few c =
    let pids = c.self.inside.pids in
    let hits = c.self.inside.hits in
    let same : length pids.items ≡ length hits.items = omega (arith, c.self.invariant.2, pids.ok.0, hits.ok.0) in
    let size = length-joined pids.items hits.items same in
    subst (λ (s : RankingView). length s.points ≤ s.limit) c.self.view_is (omega (arith, size, c.self.invariant.3, hits.ok.0))
