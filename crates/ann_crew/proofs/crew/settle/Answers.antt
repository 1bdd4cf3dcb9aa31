use Rattle.std.proofs.Common.{◌≡◌, true, sym, ap, ◌∙◌, subst, reverse, map, All}
use Rattle.std.specs.Prelude.{None}
use Rattle.std.specs.List.{AllByRecursion}
use Rattle.std.proofs.lemmas.List.Elements.{All-from_recursion, recursion_from_All}
use Rattle.std.proofs.lemmas.List.Sorted.{All-permutation, IsPermutation-reverse}
use Rattle.ann_claim.specs.Claims.{Drawer, times, once_below, all_drawn}
use Rattle.ann_crew.specs.declared.member.Drawn.{Drawn}
use Rattle.ann_crew.specs.Members.{IsEnded, number_of}
use Rattle.ann_crew.proofs.Joining.{claimers_own, claimers_ended, numbers_are}
use Rattle.ann_crew.proofs.crew.settle.Goals as goal

pub close-requires-clause-own : goal.close-requires-clause-own
close-requires-clause-own g c =
    let drawn = reverse c.args.drawn.items in
    let all : AllByRecursion (IsEnded {P = g.row.P.Denot} c.args.claims) drawn =
    recursion_from_All (IsEnded c.args.claims) drawn (All-permutation (IsEnded c.args.claims) c.args.drawn.items drawn (IsPermutation-reverse c.args.drawn.items) c.requires.ended) in
    subst (All (λ (x : Drawer). x.lot ≡ c.args.claims)) (sym c.in_ok-claimers.ensures.gathered.drawers)
    (All-from_recursion (λ (x : Drawer). x.lot ≡ c.args.claims) _ (claimers_own c.args.claims drawn all))

pub close-requires-clause-ended : goal.close-requires-clause-ended
close-requires-clause-ended g c =
    let drawn = reverse c.args.drawn.items in
    let all : AllByRecursion (IsEnded {P = g.row.P.Denot} c.args.claims) drawn =
    recursion_from_All (IsEnded c.args.claims) drawn (All-permutation (IsEnded c.args.claims) c.args.drawn.items drawn (IsPermutation-reverse c.args.drawn.items) c.requires.ended) in
    subst (All (λ (x : Drawer). x.ended ≡ true)) (sym c.in_ok-claimers.ensures.gathered.drawers)
    (All-from_recursion (λ (x : Drawer). x.ended ≡ true) _ (claimers_ended c.args.claims drawn all))

pub put_in_order-requires : goal.put_in_order-requires
put_in_order-requires g c x =
    let drawn = reverse c.args.drawn.items in
    let gathered = c.in_ok-claimers.ensures.gathered in
    let all : AllByRecursion (IsEnded {P = g.row.P.Denot} c.args.claims) drawn =
    recursion_from_All (IsEnded c.args.claims) drawn (All-permutation (IsEnded c.args.claims) c.args.drawn.items drawn (IsPermutation-reverse c.args.drawn.items) c.requires.ended) in
    let calm : AllByRecursion (λ (d : Drawn g.row.P.Denot). d.refusal ≡ None) drawn = recursion_from_All (λ (d : Drawn g.row.P.Denot). d.refusal ≡ None) drawn gathered.calm in
    ap (λ t. times x (map number_of t)) gathered.all
    ∙ ap (times x) (numbers_are c.args.claims drawn all calm)
    ∙ ap (λ t. times x (all_drawn t)) (sym gathered.drawers)
    ∙ c.close.ensures x
    ∙ ap (once_below x) (sym c.requires.count)
