use Rattle.std.proofs.Common.{◌≡◌, ◌++◌, ◌∷◌, [], ap, sym, ◌∙◌, subst, List, rules}
use Rattle.ann_claim.specs.Claims.{Drawer}
use Rattle.ann_crew.specs.declared.member.Drawn.{Drawn}
use Rattle.ann_crew.specs.Crew.{AreGathered}
use Rattle.ann_crew.proofs.Pairs.{stands_at, taken_more}
use Rattle.ann_crew.proofs.Joining.{gathered_more}
use Rattle.ann_crew.proofs.crew.gather.Goals as goal

pub returns-in-Some-refusal-clause-refused : goal.returns-in-Some-refusal-clause-refused
returns-in-Some-refusal-clause-refused g c other =
    let at = stands_at c.args.drawn.items c.loop-one.invariant.taken c.loop-one.drawn.items c.pop.new.self.items c.in-Some.one c.loop-one.invariant.all c.in-Some.ensures.items in
    (_, at.0, λ d. ap (λ (x : Drawn g.row.P.Denot). x.refusal) (at.1 d) ∙ c.in-Some-refusal.is)

pub loop-one-preserved : goal.loop-one-preserved
loop-one-preserved g c =
    let was = c.loop-one.invariant in
    let more = gathered_more was.taken c.loop-one.claimers.items c.loop-one.results.items c.in-Some.one was.gathered (search rules) in
    record {
      taken = was.taken ++ c.in-Some.one ∷ [];
      all = taken_more c.args.drawn.items was.taken c.loop-one.drawn.items c.pop.new.self.items c.in-Some.one was.all c.in-Some.ensures.items;
      gathered =
          subst (λ cs. AreGathered (was.taken ++ c.in-Some.one ∷ []) cs c.append.new.self.items) (sym c.push_reserved.ensures.items)
          (subst (AreGathered (was.taken ++ c.in-Some.one ∷ []) (c.loop-one.claimers.items ++ c.in-Some.one.claimer ∷ [])) (sym c.in_ok-append.ensures.items) more);
      room = search rules;
    }
