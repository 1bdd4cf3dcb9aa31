use Rattle.std.proofs.Common.{rules, ◌≡◌, ◌≤◌, ℕ, List, length, sym, ap, ap₂, ◌∙◌, subst, arith, take}
use Rattle.std.specs.Prelude.{insert}
use Rattle.ann_types.specs.declared.hit.Hit.{Hit}
use Rattle.ann_beam.specs.Ranking.{IsRanked, RankingView, Ranked, joined, with_ranked, ranked}
use Rattle.ann_beam.proofs.Rankings.{added, order_joined}
use Rattle.ann_beam.proofs.ranking.Ranking.add.Goals as goal

pub returns-clause-points : goal.returns-clause-points
returns-clause-points c =
    let pids = c.self.inside.pids in
    let hits = c.self.inside.hits in
    let hit : Hit = record { tag = c.args.tag; distance = c.args.distance } in
    let x : Ranked = record { pid = c.args.pid; tag = c.args.tag; distance = c.args.distance } in
    let same : length pids.items ≡ length hits.items = omega (arith, c.self.invariant.2, pids.ok.0, hits.ok.0) in
    let one : c.insert.new.self.items ≡ insert pids.items c.place_of-place.result c.args.pid = search rules in
    let two : c.insert-2.new.self.items ≡ insert hits.items c.place_of-place.result hit = search rules in
    let inside : c.place_of-place.result ≤ length hits.items = subst (λ (hs : List Hit). c.place_of-place.result ≤ length hs) c.deref-2.ensures.value c.place_of-place.ensures.inside in
    let place : ranked x (joined pids.items hits.items) ≡ insert (joined pids.items hits.items) c.place_of-place.result x =
    subst (λ (ps : List ℕ). ranked x (joined ps hits.items) ≡ insert (joined ps hits.items) c.place_of-place.result x) c.deref.ensures.value
    (subst (λ (hs : List Hit). ranked x (joined c.deref.result.now hs) ≡ insert (joined c.deref.result.now hs) c.place_of-place.result x) c.deref-2.ensures.value c.place_of-place.ensures.place) in
    ap₂ (λ (ps : List ℕ) (hs : List Hit). joined ps hs)
    (c.truncate.ensures.items ∙ ap₂ (λ (n : ℕ) (ps : List ℕ). take n ps) c.from.ensures one)
    (c.truncate-2.ensures.items ∙ ap₂ (λ (n : ℕ) (hs : List Hit). take n hs) c.from-2.ensures two)
    ∙ added c.self.inside.limit c.place_of-place.result c.args.pid hit pids.items hits.items same inside place
    ∙ ap (λ (s : RankingView). with_ranked s.limit x s.points) c.self.view_is

pub invariant_of-self : goal.invariant_of-self
invariant_of-self c =
    let w = c.self.invariant in
    let pids = c.self.inside.pids in
    let hits = c.self.inside.hits in
    let hit : Hit = record { tag = c.args.tag; distance = c.args.distance } in
    let x : Ranked = record { pid = c.args.pid; tag = c.args.tag; distance = c.args.distance } in
    let same : length pids.items ≡ length hits.items = omega (arith, w.2, pids.ok.0, hits.ok.0) in
    let one : c.insert.new.self.items ≡ insert pids.items c.place_of-place.result c.args.pid = search rules in
    let two : c.insert-2.new.self.items ≡ insert hits.items c.place_of-place.result hit = search rules in
    let inside : c.place_of-place.result ≤ length hits.items = subst (λ (hs : List Hit). c.place_of-place.result ≤ length hs) c.deref-2.ensures.value c.place_of-place.ensures.inside in
    let place : ranked x (joined pids.items hits.items) ≡ insert (joined pids.items hits.items) c.place_of-place.result x =
    subst (λ (ps : List ℕ). ranked x (joined ps hits.items) ≡ insert (joined ps hits.items) c.place_of-place.result x) c.deref.ensures.value
    (subst (λ (hs : List Hit). ranked x (joined c.deref.result.now hs) ≡ insert (joined c.deref.result.now hs) c.place_of-place.result x) c.deref-2.ensures.value c.place_of-place.ensures.place) in (
      w.0,
      w.1,
      search rules,
      search rules,
      search rules,
      search rules,
      subst IsRanked
          (sym (ap₂ (λ (ps : List ℕ) (hs : List Hit). joined ps hs)
          (c.truncate.ensures.items ∙ ap₂ (λ (n : ℕ) (ps : List ℕ). take n ps) c.from.ensures one)
          (c.truncate-2.ensures.items ∙ ap₂ (λ (n : ℕ) (hs : List Hit). take n hs) c.from-2.ensures two)))
          (order_joined c.self.inside.limit c.place_of-place.result c.args.pid hit pids.items hits.items same inside place w.6),
    )
