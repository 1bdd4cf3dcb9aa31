use Rattle.std.proofs.Common.{◌≡◌, ◌∷◌, [], All, refl, sym, subst, arith, rules}
use Rattle.std.proofs.lemmas.List.Elements.{All-push}
use Rattle.ann_claim.specs.Claims.{Drawer, newcomer_of}
use Rattle.ann_crew.specs.Members.{IsFresh, worker_of}
use Rattle.ann_crew.proofs.Pairs.{taken_back, popped}
use Rattle.ann_crew.proofs.crew.fill.Goals as goal

pub loop-worker-preserved : goal.loop-worker-preserved
loop-worker-preserved g c =
    let was = c.loop-worker.invariant in
    let same = was.same in
    let pop = c.in-Some.ensures.len in
    record {
      workers = taken_back worker_of _ _ _ _ _ c.in-Some.worker _ was.workers c.in-Some.ensures.items c.push_reserved.ensures.items refl;
      same = search rules;
      fresh = λ lot all.
          let before = was.fresh lot all in
          let parts = popped (λ (d : Drawer). d ≡ newcomer_of lot) _ _ c.in-Some-pop.claimer c.in-Some-pop.ensures.items before.0 in
          (parts.0, subst (All (IsFresh lot)) (sym c.push_reserved.ensures.items) (All-push (IsFresh lot) _ _ before.1 (record { claimer = parts.1; results = c.new.ensures.items; calm = refl })));
      room = search rules;
    }
