use Rattle.std.proofs.Common.{◌≡◌, length, drop, take, All, sym, ◌∙◌, refl, ap, subst, reverse, map, List}
use Rattle.std.proofs.lemmas.List.Elements.{All-from_recursion}
use Rattle.std.proofs.lemmas.Result.{IfOk-weaker, IfErr-weaker}
use Rattle.ann_claim.specs.Claims.{Drawer, newcomer_of}
use Rattle.ann_crew.specs.declared.member.Member.{Member}
use Rattle.ann_crew.specs.Members.{IsFresh, IsEnded, HasDrawn, worker_of, drawn_of}
use Rattle.ann_crew.proofs.Pairs.{all_same, take_whole}
use Rattle.ann_crew.proofs.Joining.{outcome}
use Rattle.ann_crew.proofs.crew.run.Goals as goal

pub draw_side_by_side-requires-clause-fresh : goal.draw_side_by_side-requires-clause-fresh
draw_side_by_side-requires-clause-fresh g c κs within =
    let lot = c.in_ok-claims.claims in
    let new : All (λ (d : Drawer). d ≡ newcomer_of lot) c.in_ok-claims.claimers.items =
    subst (All (λ (d : Drawer). d ≡ newcomer_of lot)) (sym c.in_ok-claims.ensures.claimers) (all_same (λ (d : Drawer). d ≡ newcomer_of lot) _ (newcomer_of lot) refl) in
    subst (All (IsFresh lot)) (sym c.as_mut_slice.ensures.value) (c.in_ok-members.ensures.fresh lot new)

pub settle-requires-clause-ended : goal.settle-requires-clause-ended
settle-requires-clause-ended g c =
    let now = c.draw_side_by_side.new.members in
    let whole = take_whole now (drop (length now) c.in_ok-members.members.items) c.in_ok-members.members.len (sym c.as_mut_slice.ensures.len ∙ sym c.draw_side_by_side.ensures.same) in
    let all = outcome (g.T.Task.goes c.args.task.now) (g.T.Task.causes c.args.task.now) (g.T.Task.is_piece c.args.task.now) c.args.stretch.first c.in_ok-claims.claims
    c.as_mut_slice.result.now now c.args.workers.now.items c.disband.new.workers.items c.disband.new.drawn.items
    c.draw_side_by_side.ensures.same c.draw_side_by_side.ensures.drawn
    (ap (λ (t : List (Member g.row.W.Denot g.row.T-Piece.Denot)). reverse (map worker_of t)) c.as_mut_slice.ensures.value ∙ c.in_ok-members.ensures.members)
    (c.disband.ensures.workers ∙ ap (λ (t : List (Member g.row.W.Denot g.row.T-Piece.Denot)). reverse (map worker_of t)) whole)
    (c.disband.ensures.drawn ∙ ap (λ (t : List (Member g.row.W.Denot g.row.T-Piece.Denot)). reverse (map drawn_of t)) whole) in
    all.ended

pub returns-clause-workers : goal.returns-clause-workers
returns-clause-workers g c =
    let now = c.draw_side_by_side.new.members in
    let whole = take_whole now (drop (length now) c.in_ok-members.members.items) c.in_ok-members.members.len (sym c.as_mut_slice.ensures.len ∙ sym c.draw_side_by_side.ensures.same) in
    let all = outcome (g.T.Task.goes c.args.task.now) (g.T.Task.causes c.args.task.now) (g.T.Task.is_piece c.args.task.now) c.args.stretch.first c.in_ok-claims.claims
    c.as_mut_slice.result.now now c.args.workers.now.items c.disband.new.workers.items c.disband.new.drawn.items
    c.draw_side_by_side.ensures.same c.draw_side_by_side.ensures.drawn
    (ap (λ (t : List (Member g.row.W.Denot g.row.T-Piece.Denot)). reverse (map worker_of t)) c.as_mut_slice.ensures.value ∙ c.in_ok-members.ensures.members)
    (c.disband.ensures.workers ∙ ap (λ (t : List (Member g.row.W.Denot g.row.T-Piece.Denot)). reverse (map worker_of t)) whole)
    (c.disband.ensures.drawn ∙ ap (λ (t : List (Member g.row.W.Denot g.row.T-Piece.Denot)). reverse (map drawn_of t)) whole) in
    all.workers

pub returns-clause-pieces : goal.returns-clause-pieces
returns-clause-pieces g c =
    let now = c.draw_side_by_side.new.members in
    let whole = take_whole now (drop (length now) c.in_ok-members.members.items) c.in_ok-members.members.len (sym c.as_mut_slice.ensures.len ∙ sym c.draw_side_by_side.ensures.same) in
    let all = outcome (g.T.Task.goes c.args.task.now) (g.T.Task.causes c.args.task.now) (g.T.Task.is_piece c.args.task.now) c.args.stretch.first c.in_ok-claims.claims
    c.as_mut_slice.result.now now c.args.workers.now.items c.disband.new.workers.items c.disband.new.drawn.items
    c.draw_side_by_side.ensures.same c.draw_side_by_side.ensures.drawn
    (ap (λ (t : List (Member g.row.W.Denot g.row.T-Piece.Denot)). reverse (map worker_of t)) c.as_mut_slice.ensures.value ∙ c.in_ok-members.ensures.members)
    (c.disband.ensures.workers ∙ ap (λ (t : List (Member g.row.W.Denot g.row.T-Piece.Denot)). reverse (map worker_of t)) whole)
    (c.disband.ensures.drawn ∙ ap (λ (t : List (Member g.row.W.Denot g.row.T-Piece.Denot)). reverse (map drawn_of t)) whole) in
    IfOk-weaker c.settle.result _ _ (λ pieces. all.pieces c.args.stretch.count pieces.items) c.settle.ensures.settled

pub returns-clause-refused : goal.returns-clause-refused
returns-clause-refused g c =
    let now = c.draw_side_by_side.new.members in
    let whole = take_whole now (drop (length now) c.in_ok-members.members.items) c.in_ok-members.members.len (sym c.as_mut_slice.ensures.len ∙ sym c.draw_side_by_side.ensures.same) in
    let all = outcome (g.T.Task.goes c.args.task.now) (g.T.Task.causes c.args.task.now) (g.T.Task.is_piece c.args.task.now) c.args.stretch.first c.in_ok-claims.claims
    c.as_mut_slice.result.now now c.args.workers.now.items c.disband.new.workers.items c.disband.new.drawn.items
    c.draw_side_by_side.ensures.same c.draw_side_by_side.ensures.drawn
    (ap (λ (t : List (Member g.row.W.Denot g.row.T-Piece.Denot)). reverse (map worker_of t)) c.as_mut_slice.ensures.value ∙ c.in_ok-members.ensures.members)
    (c.disband.ensures.workers ∙ ap (λ (t : List (Member g.row.W.Denot g.row.T-Piece.Denot)). reverse (map worker_of t)) whole)
    (c.disband.ensures.drawn ∙ ap (λ (t : List (Member g.row.W.Denot g.row.T-Piece.Denot)). reverse (map drawn_of t)) whole) in
    IfErr-weaker c.settle.result _ _ (λ why. all.refused why c.requires.some ((g.met.T.Task g.world.𝓛 g.world.𝓜 g.world.𝓡 ((λ s x. x), (λ x. x), (λ x. x), λ x. x)).memory c.args.task.now)) c.settle.ensures.refused
