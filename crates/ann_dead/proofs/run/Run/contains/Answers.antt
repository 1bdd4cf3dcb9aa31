use Rattle.std.proofs.Common.{ap, ◌∙◌, sym, subst}
use Rattle.ann_types.specs.Order.{has}
use Rattle.ann_dead.specs.Pids.{IsAscending}
use Rattle.ann_dead.proofs.Searches.{found}
use Rattle.ann_dead.proofs.run.Run.contains.Goals as goal

pub returns : goal.returns
returns c =
    let is = c.pids.ensures.value in
    let up : IsAscending c.pids.result.now = subst IsAscending (sym is) c.pids.ensures.run.0 in
    c.is_ok.ensures.value ∙ found c.pids.result.now c.args.pid c.binary_search.result up c.binary_search.ensures.position ∙ ap (λ l. has l c.args.pid) is
